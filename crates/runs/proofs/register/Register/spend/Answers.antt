use Rattle.std.proofs.Common.{None, refl}
use Rattle.table.specs.declared.state.State.TheVariants.{Free, Held, Kept}
use Rattle.table.specs.Account.{with_kept, with_released}
use Rattle.table.proofs.Histories.{goes_on}
use Rattle.table.proofs.InHand.{accounted_of}
use Rattle.runs.proofs.Frame.{put_or_refused, marked_or_refused}
use Rattle.runs.proofs.Held.{spends}
use Rattle.runs.proofs.register.Register.spend.Goals as goal

pub invariant_of-self : goal.invariant_of-self
invariant_of-self g c = record { history = goes_on g.K.Kind.demand c.args.self.now.table c.keep.new.self _ c.keep.ensures.history c.args.self.now.history }

pub returns-in-KeepRow-clause-held : goal.returns-in-KeepRow-clause-held
returns-in-KeepRow-clause-held g c = spends g.K.Kind.demand c.args.self.now.table c.keep.new.self (accounted_of g.K.Kind.demand c.args.self.now.table c.args.self.now.history) c.args.hold (λ a. with_kept a c.args.hold) (λ a. refl) c.keep.result c.keep.ensures.account (marked_or_refused c.args.self.now.table c.keep.new.self (Held c.args.hold.row) (Kept c.args.hold.row) c.keep.result c.keep.ensures.memory)

pub invariant_of-self-in-GiveUp : goal.invariant_of-self-in-GiveUp
invariant_of-self-in-GiveUp g c = record { history = goes_on g.K.Kind.demand c.args.self.now.table c.release.new.self _ c.release.ensures.history c.args.self.now.history }

pub returns-in-GiveUp-clause-held : goal.returns-in-GiveUp-clause-held
returns-in-GiveUp-clause-held g c = spends g.K.Kind.demand c.args.self.now.table c.release.new.self (accounted_of g.K.Kind.demand c.args.self.now.table c.args.self.now.history) c.args.hold (λ a. with_released a c.args.hold) (λ a. refl) c.release.result c.release.ensures.account (put_or_refused c.args.self.now.table c.release.new.self (Held c.args.hold.row) Free None c.release.result c.release.ensures.memory)
