use Rattle.runs.proofs.Hands.{none_in_hand}
use Rattle.runs.proofs.desk.Desk.new.Goals as goal

pub invariant_of-result : goal.invariant_of-result
invariant_of-result g c = record { in_hand = rw c.new-2.ensures.items (none_in_hand g.K.Kind.demand c.new.result.table c.new.ensures.history) }
