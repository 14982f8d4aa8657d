-- The last hold in hand is given up, until none is left.
use Rattle.std.proofs.Common.{◌≡◌, ◌∷◌, ◌++◌, [], List, append_assoc, map, subst, ap, ◌∙◌, refl, arith}
use Rattle.std.proofs.lemmas.List.{nil_from_length}
use Rattle.std.specs.Vec.{vec_items}
use Rattle.table.specs.declared.hold.Hold.{Hold}
use Rattle.runs.specs.Calls.{release_of}
use Rattle.runs.specs.Holds.{InHand}
use Rattle.runs.proofs.Hands.{last_held, last_own, without_last}
use Rattle.runs.proofs.desk.Desk.close.Goals as goal

pub give_up-requires : goal.give_up-requires
give_up-requires g c =
    let t = c.loop-hold.register.table in
    let in_hand = subst (InHand t) c.in-Some.ensures.items c.loop-hold.invariant.in_hand in
    record { own = last_own t c.pop.new.self.items c.in-Some.hold in_hand; held = last_held t c.pop.new.self.items c.in-Some.hold in_hand }

pub loop-hold-preserved : goal.loop-hold-preserved
loop-hold-preserved g c =
    let before = c.loop-hold.invariant.history in
    let t = c.loop-hold.register.table in
    let in_hand = subst (InHand t) c.in-Some.ensures.items c.loop-hold.invariant.in_hand in
    record {
      count = omega (arith, c.loop-hold.invariant.count, c.pop.ensures.cases);
      in_hand = without_last t c.pop.new.self.items c.in-Some.hold in_hand c.give_up.new.self.table c.give_up.ensures.held;
      frame = c.give_up.ensures.held.frame ∙ c.loop-hold.invariant.frame;
      history = (
        c.in-Some.hold ∷ before.0,
        before.1 ∙ ap (λ (hs : List Hold). hs ++ before.0) c.in-Some.ensures.items ∙ append_assoc c.pop.new.self.items (c.in-Some.hold ∷ []) before.0,
        λ es known. c.give_up.ensures.history (map release_of before.0 ++ es) (before.2 es known),
      );
    }

pub returns-clause-none_held : goal.returns-clause-none_held
returns-clause-none_held g c n =
    let none : vec_items c.loop-hold.holds ≡ [] = nil_from_length (vec_items c.loop-hold.holds) (omega (arith, c.loop-hold.invariant.count, c.in_default.ensures.cases)) in
    c.loop-hold.invariant.in_hand.exactly n ∙ rw none refl
