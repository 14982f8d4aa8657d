-- Each call is the event of its name.
use Rattle.std.proofs.Common.{refl}
use Rattle.runs.proofs.Hands.{same_in_hand}
use Rattle.runs.proofs.desk.Desk.make.Goals as goal

pub invariant_of-self : goal.invariant_of-self
invariant_of-self g c = record { in_hand = same_in_hand c.args.self.now.register.table c.withdraw.new.self.table c.args.self.now.holds.items c.args.self.now.in_hand c.withdraw.ensures.held }

pub returns-in-Hold-clause-history : goal.returns-in-Hold-clause-history
returns-in-Hold-clause-history g c = rw c.in-Hold.is (_, refl, c.take_in.ensures.history)

pub returns-in-Keep-clause-history : goal.returns-in-Keep-clause-history
returns-in-Keep-clause-history g c = rw c.in-Keep.is (_, refl, c.spend.ensures.history)

pub returns-in-Release-clause-history : goal.returns-in-Release-clause-history
returns-in-Release-clause-history g c = rw c.in-Release.is (_, refl, c.spend-in-Release.ensures.history)

pub returns-in-Withdraw-clause-history : goal.returns-in-Withdraw-clause-history
returns-in-Withdraw-clause-history g c = rw c.in-Withdraw.is (_, refl, c.withdraw.ensures.history)

pub returns-in-Bound-clause-history : goal.returns-in-Bound-clause-history
returns-in-Bound-clause-history g c = rw c.in-Bound.is (_, refl, c.bound.ensures)
