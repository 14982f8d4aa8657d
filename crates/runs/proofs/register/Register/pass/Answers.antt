use Rattle.std.proofs.Common.{None, Some, ◌∙◌}
use Rattle.std.proofs.lemmas.Result.{err_from_is_err_and}
use Rattle.table.specs.declared.state.State.TheVariants.{Free, Held, Kept}
use Rattle.table.specs.Account.{with_kept, with_released}
use Rattle.table.proofs.Histories.{goes_on}
use Rattle.table.proofs.InHand.{accounted_of}
use Rattle.runs.proofs.Frame.{frame_put, marked_or_refused, put_or_refused}
use Rattle.runs.proofs.Passing.{given_here, gives_row_up, keeps_row, refused_alike, spent_at_once}
use Rattle.runs.proofs.register.Register.pass.Goals as goal

pub invariant_of-self : goal.invariant_of-self
invariant_of-self g c = record { history = goes_on g.K.Kind.demand c.args.self.now.table c.hold_answered.new.self _ c.hold_answered.ensures.history c.args.self.now.history }

pub returns-in_err-hold-clause-account : goal.returns-in_err-hold-clause-account
returns-in_err-hold-clause-account g c a agrees =
    let e = err_from_is_err_and c.from_residual.result c.from_residual.ensures.1 in
    let p = c.in_err-hold.ensures.account a agrees in
    (p.0, rw (e.1, e.2) (refused_alike c.args.way a (record { row = c.args.row; demand = g.K.Kind.demand c.args.kind }) c.in_err-hold.field-0.0 p.0 p.1), p.2)

pub invariant_of-self-in-KeepRow : goal.invariant_of-self-in-KeepRow
invariant_of-self-in-KeepRow g c =
    record { history = goes_on g.K.Kind.demand c.hold_answered.new.self c.keep.new.self _ c.keep.ensures.history (goes_on g.K.Kind.demand c.args.self.now.table c.hold_answered.new.self _ c.hold_answered.ensures.history c.args.self.now.history) }

pub unwrap-requires : goal.unwrap-requires
unwrap-requires g c = spent_at_once g.K.Kind.demand c.args.self.now.table c.hold_answered.new.self c.keep.new.self (record { row = c.args.row; demand = g.K.Kind.demand c.args.kind }) c.in_ok-hold.hold c.in_ok-hold.answers c.in_ok-hold.ensures.account (λ a. with_kept a c.in_ok-hold.hold) c.keep.result c.keep.ensures.account (accounted_of g.K.Kind.demand c.args.self.now.table c.args.self.now.history)

pub returns-in-KeepRow-clause-account : goal.returns-in-KeepRow-clause-account
returns-in-KeepRow-clause-account g c = rw c.in-KeepRow.is (keeps_row g.K.Kind.demand c.args.self.now.table c.hold_answered.new.self c.keep.new.self (record { row = c.args.row; demand = g.K.Kind.demand c.args.kind }) c.in_ok-hold.hold c.in_ok-hold.answers c.in_ok-hold.ensures.account c.keep.result c.keep.ensures.account c.unwrap.ensures)

pub invariant_of-self-in-GiveUp : goal.invariant_of-self-in-GiveUp
invariant_of-self-in-GiveUp g c =
    record { history = goes_on g.K.Kind.demand c.hold_answered.new.self c.release.new.self _ c.release.ensures.history (goes_on g.K.Kind.demand c.args.self.now.table c.hold_answered.new.self _ c.hold_answered.ensures.history c.args.self.now.history) }

pub unwrap-requires-in-GiveUp : goal.unwrap-requires-in-GiveUp
unwrap-requires-in-GiveUp g c = spent_at_once g.K.Kind.demand c.args.self.now.table c.hold_answered.new.self c.release.new.self (record { row = c.args.row; demand = g.K.Kind.demand c.args.kind }) c.in_ok-hold.hold c.in_ok-hold.answers c.in_ok-hold.ensures.account (λ a. with_released a c.in_ok-hold.hold) c.release.result c.release.ensures.account (accounted_of g.K.Kind.demand c.args.self.now.table c.args.self.now.history)

pub returns-in-GiveUp-clause-account : goal.returns-in-GiveUp-clause-account
returns-in-GiveUp-clause-account g c = rw c.in-GiveUp.is (gives_row_up g.K.Kind.demand c.args.self.now.table c.hold_answered.new.self c.release.new.self (record { row = c.args.row; demand = g.K.Kind.demand c.args.kind }) c.in_ok-hold.hold c.in_ok-hold.answers c.in_ok-hold.ensures.account c.release.result c.release.ensures.account c.unwrap-in-GiveUp.ensures)

pub returns-in_err-hold-clause-history : goal.returns-in_err-hold-clause-history
returns-in_err-hold-clause-history g c es known =
    let e = err_from_is_err_and c.from_residual.result c.from_residual.ensures.1 in
    rw (e.1, e.2) (c.in_err-hold.ensures.history es known)

pub returns-in-KeepRow-clause-history : goal.returns-in-KeepRow-clause-history
returns-in-KeepRow-clause-history g c es known =
    let is = given_here g.K.Kind.demand c.args.self.now.table c.hold_answered.new.self (record { row = c.args.row; demand = g.K.Kind.demand c.args.kind }) c.in_ok-hold.hold c.in_ok-hold.answers c.in_ok-hold.ensures.account (accounted_of g.K.Kind.demand c.args.self.now.table c.args.self.now.history) in
    rw (c.in-KeepRow.is, ← is, ← c.unwrap.ensures) (c.keep.ensures.history _ (c.in_ok-hold.ensures.history es known))

pub returns-in-GiveUp-clause-history : goal.returns-in-GiveUp-clause-history
returns-in-GiveUp-clause-history g c es known =
    let is = given_here g.K.Kind.demand c.args.self.now.table c.hold_answered.new.self (record { row = c.args.row; demand = g.K.Kind.demand c.args.kind }) c.in_ok-hold.hold c.in_ok-hold.answers c.in_ok-hold.ensures.account (accounted_of g.K.Kind.demand c.args.self.now.table c.args.self.now.history) in
    rw (c.in-GiveUp.is, ← is, ← c.unwrap-in-GiveUp.ensures) (c.release.ensures.history _ (c.in_ok-hold.ensures.history es known))

pub returns-in-KeepRow-clause-frame : goal.returns-in-KeepRow-clause-frame
returns-in-KeepRow-clause-frame g c =
    marked_or_refused c.hold_answered.new.self c.keep.new.self (Held c.in_ok-hold.hold.row) (Kept c.in_ok-hold.hold.row) c.keep.result c.keep.ensures.memory
    ∙ frame_put c.args.self.now.table c.hold_answered.new.self Free (Held c.args.row.number) (Some (record { row = c.args.row; kind = c.args.kind })) c.in_ok-hold.ensures.memory

pub returns-in-GiveUp-clause-frame : goal.returns-in-GiveUp-clause-frame
returns-in-GiveUp-clause-frame g c =
    put_or_refused c.hold_answered.new.self c.release.new.self (Held c.in_ok-hold.hold.row) Free None c.release.result c.release.ensures.memory
    ∙ frame_put c.args.self.now.table c.hold_answered.new.self Free (Held c.args.row.number) (Some (record { row = c.args.row; kind = c.args.kind })) c.in_ok-hold.ensures.memory
