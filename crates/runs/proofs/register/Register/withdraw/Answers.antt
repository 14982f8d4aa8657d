use Rattle.std.proofs.Common.{None}
use Rattle.table.specs.declared.state.State.TheVariants.{Free, Kept}
use Rattle.table.proofs.Histories.{goes_on}
use Rattle.table.proofs.InHand.{accounted_of}
use Rattle.runs.proofs.Frame.{put_or_refused}
use Rattle.runs.proofs.Held.{withdraws}
use Rattle.runs.proofs.register.Register.withdraw.Goals as goal

pub invariant_of-self : goal.invariant_of-self
invariant_of-self g c = record { history = goes_on g.K.Kind.demand c.args.self.now.table c.withdraw.new.self _ c.withdraw.ensures.history c.args.self.now.history }

pub returns-clause-held : goal.returns-clause-held
returns-clause-held g c = withdraws g.K.Kind.demand c.args.self.now.table c.withdraw.new.self (accounted_of g.K.Kind.demand c.args.self.now.table c.args.self.now.history) c.args.number c.withdraw.result c.withdraw.ensures.account (put_or_refused c.args.self.now.table c.withdraw.new.self (Kept c.args.number) Free None c.withdraw.result c.withdraw.ensures.memory)
