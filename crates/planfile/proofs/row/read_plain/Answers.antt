-- The numbers are read in two goes, and the first that is none is the leftmost.
use Rattle.std.proofs.Common.{◌∙◌}
use Rattle.std.proofs.lemmas.Result.{err_from_is_err_and}
use Rattle.planfile.specs.Checks.{number_checks}
use Rattle.planfile.proofs.Blames.{stopped, passed, numbered_numbers, fault_numbered}
use Rattle.planfile.proofs.row.read_plain.Goals as goal

pub returns-in_err-number : goal.returns-in_err-number
returns-in_err-number c =
    let fs = c.args.line.now in
    let p = err_from_is_err_and c.from_residual.result c.from_residual.ensures.1 in
    rw (p.1, p.2) (stopped (number_checks fs 2 6) (number_checks fs 8 8) _ (fault_numbered _) c.in_err-number.ensures)

pub returns-in_err-sections : goal.returns-in_err-sections
returns-in_err-sections c =
    let fs = c.args.line.now in
    let p = err_from_is_err_and c.from_residual-in_err-sections.result c.from_residual-in_err-sections.ensures.1 in
    rw (p.1, p.2) (passed (number_checks fs 2 6) (number_checks fs 8 8) (numbered_numbers fs 2 6) c.in_ok-number.ensures.0 ∙ c.in_err-sections.ensures)
