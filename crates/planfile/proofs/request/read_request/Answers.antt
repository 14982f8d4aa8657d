-- What stands behind the word of a hold line is refused.
use Rattle.std.proofs.Common.{◌≡◌, sym, ap, ◌∙◌}
use Rattle.std.proofs.lemmas.Result.{err_from_is_err_and}
use Rattle.planfile.specs.declared.word.Verb.TheVariants.{Hold}
use Rattle.planfile.specs.Checks.{row_checks}
use Rattle.planfile.specs.Fault.{first_blame}
use Rattle.planfile.specs.Reading.{first_fields}
use Rattle.planfile.specs.Requests.{end_checks, verb_of}
use Rattle.planfile.specs.Text.{field}
use Rattle.planfile.proofs.Blames.{numbered_end, passed}
use Rattle.planfile.proofs.request.read_request.Goals as goal

pub returns-in_err-read_row-in-Hold : goal.returns-in_err-read_row-in-Hold
returns-in_err-read_row-in-Hold c =
    let text = c.args.text.now in
    let fs = first_fields text in
    let p = err_from_is_err_and c.from_residual-in_err-read_row-in-Hold.result c.from_residual-in_err-read_row-in-Hold.ensures.1 in
    let line = c.in_ok-line.ensures in
    let verb : verb_of (field 1 fs) ≡ Hold = ap (λ l. verb_of (field 1 l)) (sym line.1) ∙ (ap verb_of (sym c.first.ensures) ∙ (sym c.read_verb.ensures ∙ c.in-Hold.is)) in
    rw (p.1, p.2, verb)
    (passed (end_checks text) (row_checks fs) (numbered_end text) line.0 ∙ (ap (λ l. first_blame (row_checks l)) (sym line.1) ∙ c.in_err-read_row-in-Hold.ensures))
