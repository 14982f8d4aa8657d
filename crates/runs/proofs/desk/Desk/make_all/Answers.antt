use Rattle.std.proofs.Common.{◌≡◌, [], List, subst, refl, arith}
use Rattle.std.proofs.lemmas.List.{append-nil, nil_from_length}
use Rattle.std.specs.Vec.{vec_items}
use Rattle.std.specs.Vec.Iter.{into_iter_items}
use Rattle.runs.specs.declared.call.Reply.{Reply}
use Rattle.runs.specs.Calls.{Follow}
use Rattle.runs.specs.Desk.{table_of}
use Rattle.runs.proofs.desk.Desk.make_all.Goals as goal

-- at the end no call is left
pub returns-clause-history : goal.returns-clause-history
returns-clause-history g c es known =
    let so_far = c.loop-call.invariant.history es known in
    let demand = g.K.Kind.demand in
    let number = (table_of c.loop-call.self).number in
    let none : into_iter_items c.loop-call.left ≡ [] = nil_from_length (into_iter_items c.loop-call.left) (omega (arith, c.loop-call.invariant.count, c.in_default.ensures.cases)) in
    let left : Follow demand number (into_iter_items c.loop-call.left) [] so_far.0 so_far.0 = rw none refl in
    (so_far.0, subst (λ (rs : List Reply). Follow demand number (vec_items c.args.calls) rs es so_far.0) (append-nil (vec_items c.loop-call.replies)) (so_far.2 [] so_far.0 left), so_far.1)
