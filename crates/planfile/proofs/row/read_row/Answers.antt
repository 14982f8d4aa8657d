-- What is refused first is refused for the first of the checks that applies.
use Rattle.std.proofs.Common.{sym, ◌∙◌, subst}
use Rattle.std.proofs.lemmas.Result.{err_from_is_err_and}
use Rattle.planfile.proofs.Blames.{fault_numbered, ShapePasses, shape_passes}
use Rattle.planfile.proofs.Taking.{by_shape, by_numbers, by_jobs, by_delay, delay_is, task_is}
use Rattle.planfile.proofs.row.read_row.Goals as goal

pub returns-in_err-word : goal.returns-in_err-word
returns-in_err-word c =
    let p = err_from_is_err_and c.from_residual.result c.from_residual.ensures.1 in
    rw (p.1, p.2) (by_shape c.args.line.now _ (fault_numbered _) c.in_err-word.ensures)

pub returns-in_err-row : goal.returns-in_err-row
returns-in_err-row c =
    let p = err_from_is_err_and c.from_residual-in_err-row.result c.from_residual-in_err-row.ensures.1 in
    rw (p.1, p.2) (by_numbers c.args.line.now c.in_ok-word.ensures.0 _ (fault_numbered _) c.in_err-row.ensures)

pub read_jobs-requires : goal.read_jobs-requires
read_jobs-requires c =
    let words = c.in_ok-word.ensures in
    let pass = subst (ShapePasses c.args.line.now) (sym words.1) (shape_passes c.args.line.now words.0) in
    record { named = pass.named; due = pass.due }

pub returns-in_err-jobs : goal.returns-in_err-jobs
returns-in_err-jobs c =
    let p = err_from_is_err_and c.from_residual-in_err-jobs.result c.from_residual-in_err-jobs.ensures.1 in
    let words = c.in_ok-word.ensures in
    rw (p.1, p.2) (by_jobs c.args.line.now words.0 c.in_ok-row.ensures.0 _ (fault_numbered _) (rw words.1 at c.in_err-jobs.ensures))

pub returns-in_err-kind : goal.returns-in_err-kind
returns-in_err-kind c =
    let fs = c.args.line.now in
    let p = err_from_is_err_and c.from_residual-in_err-kind.result c.from_residual-in_err-kind.ensures.1 in
    let words = c.in_ok-word.ensures in
    let row = c.in_ok-row.ensures in
    let jobs = rw words.1 at c.in_ok-jobs.ensures in
    rw (p.1, p.2) (by_delay fs words.0 row.0 _ jobs.0 (c.in_err-kind.ensures.refusal ∙ delay_is fs c.in_ok-row.row c.in_ok-row.delay c.in_ok-jobs.jobs row.1 jobs.1))

pub returns : goal.returns
returns c =
    let fs = c.args.line.now in
    let words = c.in_ok-word.ensures in
    let row = c.in_ok-row.ensures in
    let jobs = rw words.1 at c.in_ok-jobs.ensures in
    let kind = c.in_ok-kind.ensures in (
      by_delay fs words.0 row.0 0 jobs.0 (kind.refusal ∙ delay_is fs c.in_ok-row.row c.in_ok-row.delay c.in_ok-jobs.jobs row.1 jobs.1),
      task_is fs c.in_ok-row.row c.in_ok-row.delay c.in_ok-jobs.jobs row.1 jobs.1 c.args.clock c.in_ok-kind.kind kind.kind kind.delay,
    )
