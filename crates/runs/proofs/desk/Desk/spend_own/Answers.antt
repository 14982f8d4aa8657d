-- The hold that is found is in hand, and is spent; where none is found its row is not held.
use Rattle.std.proofs.Common.{sym, ◌∙◌}
use Rattle.std.proofs.lemmas.Result.{err_from_is_err_and}
use Rattle.table.proofs.InHand.{same_numbers}
use Rattle.runs.specs.Calls.{token}
use Rattle.runs.proofs.Hands.{found_there, none_found, not_held_here, one_less, stands_held}
use Rattle.runs.proofs.desk.Desk.spend_own.Goals as goal

pub returns-in_err-place-clause-history : goal.returns-in_err-place-clause-history
returns-in_err-place-clause-history g c =
    let e = err_from_is_err_and c.from_residual.result c.from_residual.ensures.1 in
    let none = none_found c.args.id.table c.args.id.row c.args.self.now.holds.items c.deref.result.now c.place_of.result c.deref.ensures.value c.place_of.ensures (λ i d l. c.args.self.now.in_hand.own i d l ∙ sym c.requires) c.in_err-place.ensures.ok_part in
    rw (e.1, c.requires) (not_held_here g.K.Kind.demand c.args.self.now.register.table c.args.way c.args.id.row (c.args.self.now.in_hand.exactly c.args.id.row ∙ none))

pub spend_held-requires : goal.spend_held-requires
spend_held-requires g c =
    let there = found_there c.args.id.table c.args.id.row c.args.self.now.holds.items c.deref.result.now c.place_of.result c.deref.ensures.value c.place_of.ensures c.in_ok-place.place c.remove-hold.result c.in_ok-place.ensures.ok_part c.remove-hold.ensures.value in
    record {
      own = there.1 ∙ c.requires;
      held = stands_held c.args.self.now.register.table c.args.self.now.holds.items c.args.self.now.in_hand c.in_ok-place.place c.remove-hold.result there.0 c.remove-hold.ensures.value;
    }

pub invariant_of-self : goal.invariant_of-self
invariant_of-self g c =
    let there = found_there c.args.id.table c.args.id.row c.args.self.now.holds.items c.deref.result.now c.place_of.result c.deref.ensures.value c.place_of.ensures c.in_ok-place.place c.remove-hold.result c.in_ok-place.ensures.ok_part c.remove-hold.ensures.value in
    record {
      in_hand =
          rw c.remove-hold.ensures.items
          (one_less c.args.self.now.register.table c.spend_held.new.self.table c.args.self.now.holds.items c.args.self.now.in_hand c.in_ok-place.place c.remove-hold.result there.0 c.remove-hold.ensures.value c.spend_held.ensures.held);
    }

pub returns-clause-history : goal.returns-clause-history
returns-clause-history g c =
    let there = found_there c.args.id.table c.args.id.row c.args.self.now.holds.items c.deref.result.now c.place_of.result c.deref.ensures.value c.place_of.ensures c.in_ok-place.place c.remove-hold.result c.in_ok-place.ensures.ok_part c.remove-hold.ensures.value in
    let is = same_numbers c.remove-hold.result (token c.args.id) there.1 there.2 in
    rw (← is) c.spend_held.ensures.history
