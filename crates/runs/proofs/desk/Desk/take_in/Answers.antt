use Rattle.runs.proofs.Hands.{one_more, same_in_hand}
use Rattle.runs.proofs.desk.Desk.take_in.Goals as goal

pub invariant_of-self : goal.invariant_of-self
invariant_of-self g c =
    record { in_hand = same_in_hand c.args.self.now.register.table c.hold.new.self.table c.args.self.now.holds.items c.args.self.now.in_hand c.in_err-hold.ensures.held }

pub invariant_of-self-2 : goal.invariant_of-self-2
invariant_of-self-2 g c =
    record {
      in_hand =
          rw c.push_reserved.ensures.items
          (one_more c.args.self.now.register.table c.hold.new.self.table c.args.self.now.holds.items c.args.self.now.in_hand c.args.task.row.number c.in_ok-hold.hold c.in_ok-hold.ensures.held);
    }
