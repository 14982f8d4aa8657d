-- The word and the count pass, and a number is refused.
use Rattle.std.proofs.Common.{◌≡◌, length, sym, ap, ◌∙◌}
use Rattle.std.proofs.lemmas.Result.{err_from_is_err_and}
use Rattle.demand.specs.Refusals.{slowed_checks}
use Rattle.planfile.specs.declared.word.Word.TheVariants.{Clock}
use Rattle.planfile.specs.Checks.{number_checks, number_in, blames_by_number}
use Rattle.planfile.specs.Text.{field, word_of}
use Rattle.planfile.proofs.Blames.{stopped, fault_numbered}
use Rattle.planfile.proofs.row.read_clock.Goals as goal

pub returns-in_err-numerator : goal.returns-in_err-numerator
returns-in_err-numerator c =
    let fs = c.args.line.now in
    let p = err_from_is_err_and c.from_residual.result c.from_residual.ensures.1 in
    let word : word_of (field 1 fs) ≡ Clock = ap word_of (sym c.first.ensures) ∙ (sym c.read_word.ensures ∙ c.in-Clock.is) in
    let three : length fs ≡ 3 = sym c.count.ensures ∙ c.if-count-ne3.false in
    rw (p.1, p.2, word, three) (stopped (number_checks fs 2 2) (blames_by_number (slowed_checks (number_in fs 2) (number_in fs 3))) _ (fault_numbered _) c.in_err-numerator.ensures)
