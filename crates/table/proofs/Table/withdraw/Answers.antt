use Rattle.std.proofs.Common.{Ok, refl}
use Rattle.std.proofs.lemmas.Result.{err_from_is_err_and}
use Rattle.table.specs.Account.{with_withdrawn}
use Rattle.table.proofs.Changes.{row_withdrawn}
use Rattle.table.proofs.Spending.{may_withdraw, not_withdrawn}
use Rattle.table.proofs.Histories.{continues}
use Rattle.table.specs.Runs.{withdrawing}
use Rattle.table.proofs.Table.withdraw.Goals as goal

pub returns-in_err-place-clause-account : goal.returns-in_err-place-clause-account
returns-in_err-place-clause-account g c a agrees =
    let e = err_from_is_err_and c.from_residual.result c.from_residual.ensures.1 in
    (a, rw (e.1, e.2) (not_withdrawn c.args.self.now agrees c.args.number c.in_err-place.field-0.0 c.in_err-place.ensures, refl), agrees)

pub returns-clause-account : goal.returns-clause-account
returns-clause-account g c a agrees =
    let kept = c.in_ok-place.ensures in (
      with_withdrawn a c.args.number,
      (may_withdraw c.args.self.now agrees c.args.number c.in_ok-place.place (kept.0.0, kept.1), refl),
      row_withdrawn c.args.self.now agrees c.put.new.self c.args.number c.in_ok-place.place (kept.0.0, kept.1) c.put.ensures,
    )

pub returns-in_err-place-clause-history : goal.returns-in_err-place-clause-history
returns-in_err-place-clause-history g c = continues g.K.Kind.demand c.args.self.now c.args.self.now (withdrawing c.args.number c.from_residual.result) (returns-in_err-place-clause-account g c)

pub returns-clause-history : goal.returns-clause-history
returns-clause-history g c = continues g.K.Kind.demand c.args.self.now c.put.new.self (withdrawing c.args.number (Ok tt)) (returns-clause-account g c)
