-- The row is taken in where the account accepts it.
use Rattle.std.proofs.Common.{◌∷◌, refl, subst, inr}
use Rattle.std.proofs.lemmas.Result.{err_from_is_err_and}
use Rattle.analysis.specs.Ranks.{Claim}
use Rattle.table.specs.Account.{Accepted, Refused}
use Rattle.runs.specs.Passing.{hold_on}
use Rattle.planfile.specs.Reading.{account_with, RowsKept}
use Rattle.planfile.proofs.Taking.{held_claim, same_claim, taken_in}
use Rattle.planfile.proofs.row.take_row.Goals as goal

pub returns-in_err-take_in : goal.returns-in_err-take_in
returns-in_err-take_in c rows agrees =
    let p = err_from_is_err_and c.from_residual-in_err-take_in.result c.from_residual-in_err-take_in.ensures.1 in
    let task = c.in_ok-row.ensures in
    let same = same_claim c.args.clock c.args.line.now c.in_ok-row.field-0 task.1 in
    let refused = c.in_err-take_in.ensures.account (account_with rows) agrees in
    rw (p.1, p.2) (inr (task.0, (c.in_err-take_in.field-0.0, subst (λ (x : Claim). Refused (account_with rows) x c.in_err-take_in.field-0.0) same refused.1.0, refl)))

pub returns : goal.returns
returns c rows agrees =
    let task = c.in_ok-row.ensures in
    let claim = held_claim c.in_ok-row.field-0 in
    let same = same_claim c.args.clock c.args.line.now c.in_ok-row.field-0 task.1 in
    let taken = c.in_ok-take_in.ensures.account (account_with rows) agrees in (
      record { passes = task.0; token = hold_on (account_with rows) claim; accepted = subst (λ (x : Claim). Accepted (account_with rows) x (hold_on (account_with rows) claim)) same taken.1.0.0 },
      subst (λ (x : Claim). RowsKept (x ∷ rows) c.take_in.new.self.table c.in_ok-take_in.field-0) same (taken_in rows claim c.in_ok-take_in.field-0 c.take_in.new.self.table taken),
    )
