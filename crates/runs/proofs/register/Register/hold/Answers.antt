use Rattle.std.proofs.Common.{Some}
use Rattle.table.specs.declared.state.State.TheVariants.{Free, Held}
use Rattle.table.proofs.Histories.{goes_on}
use Rattle.table.proofs.InHand.{accounted_of}
use Rattle.runs.proofs.Frame.{put_or_refused}
use Rattle.runs.proofs.Held.{gives}
use Rattle.runs.proofs.register.Register.hold.Goals as goal

pub invariant_of-self : goal.invariant_of-self
invariant_of-self g c = record { history = goes_on g.K.Kind.demand c.args.self.now.table c.hold.new.self _ c.hold.ensures.history c.args.self.now.history }

pub returns-clause-held : goal.returns-clause-held
returns-clause-held g c = gives g.K.Kind.demand c.args.self.now.table c.hold.new.self (accounted_of g.K.Kind.demand c.args.self.now.table c.args.self.now.history) (record { row = c.args.task.row; demand = g.K.Kind.demand c.args.task.kind }) c.hold.result c.hold.ensures.account (put_or_refused c.args.self.now.table c.hold.new.self Free (Held c.args.task.row.number) (Some c.args.task) c.hold.result c.hold.ensures.memory)
