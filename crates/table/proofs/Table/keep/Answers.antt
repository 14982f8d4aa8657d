use Rattle.table.proofs.Histories.{continues}
use Rattle.table.specs.Runs.{keeping}
use Rattle.std.proofs.Common.{Ok, Err, refl, ap, ◌∙◌}
use Rattle.std.proofs.lemmas.Result.{err_from_is_err_and}
use Rattle.table.specs.Account.{with_kept}
use Rattle.table.proofs.Changes.{row_kept}
use Rattle.table.proofs.Spending.{comes_back, may_spend}
use Rattle.table.proofs.Table.keep.Goals as goal

pub returns-in_err-place-clause-account : goal.returns-in_err-place-clause-account
returns-in_err-place-clause-account g c a agrees =
    let e = err_from_is_err_and c.from_residual.result c.from_residual.ensures.1 in
    let back = c.in_err-place.ensures in
    comes_back c.args.self.now agrees c.args.hold (with_kept a c.args.hold) c.from_residual.result (e.1 ∙ ap Err (e.2 ∙ back.0)) back.1

pub returns-clause-account : goal.returns-clause-account
returns-clause-account g c a agrees =
    let here = c.in_ok-place.ensures in
    (with_kept a c.args.hold, (may_spend c.args.self.now agrees c.args.hold c.in_ok-place.place here, refl), row_kept c.args.self.now agrees c.mark_kept.new.self c.args.hold c.in_ok-place.place here.0 (here.1.0.0, here.1.1) c.mark_kept.ensures)

pub returns-in_err-place-clause-history : goal.returns-in_err-place-clause-history
returns-in_err-place-clause-history g c = continues g.K.Kind.demand c.args.self.now c.args.self.now (keeping c.args.hold c.from_residual.result) (returns-in_err-place-clause-account g c)

pub returns-clause-history : goal.returns-clause-history
returns-clause-history g c = continues g.K.Kind.demand c.args.self.now _ (keeping c.args.hold (Ok tt)) (returns-clause-account g c)
