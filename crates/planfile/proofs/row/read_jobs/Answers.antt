-- The word that names the kind says how many numbers there are.
use Rattle.std.proofs.Common.{◌≡◌, ℕ, ◌-◌, ◌<◌, Bool, List, length, slice_index_or, sym, refl, ap, ◌∙◌, arith}
use Rattle.std.proofs.lemmas.Result.{err_from_is_err_and}
use Rattle.demand.specs.Refusals.{first, every_checks, heavy_checks}
use Rattle.planfile.specs.declared.word.Word.{Word}
use Rattle.planfile.specs.declared.word.Word.TheVariants.{Clock, Row, Every, Heavy, Other}
use Rattle.planfile.specs.Fault.{by_number}
use Rattle.planfile.specs.Checks.{fields_due, number_checks, numbers_in, blames_by_number, jobs_checks, jobs_in}
use Rattle.planfile.proofs.Blames.{stopped, passed, fault_numbered, numbered_numbers, first_blame-blames_by_number}
use Rattle.planfile.proofs.row.read_jobs.Goals as goal

-- a word that names a kind, and not that of a heavy job, is that of jobs of one length
every_named : (word : Word) → 0 < fields_due word → (word ≡ Heavy → ⊥) → word ≡ Every
every_named Clock named other = absurd (omega arith)
every_named Row named other = absurd (omega arith)
every_named Every named other = refl
every_named Heavy named other = absurd (other refl)
every_named Other named other = absurd (omega arith)

-- the checks of jobs of one length, and of a heavy job, by their numbers
every_by : List ℕ → List (Bool × ℕ)
every_by ns = every_checks (slice_index_or ns 0 0) (slice_index_or ns 1 0)

heavy_by : List ℕ → List (Bool × ℕ)
heavy_by ns = heavy_checks (slice_index_or ns 0 0) (slice_index_or ns 1 0) (slice_index_or ns 2 0) (slice_index_or ns 3 0)

pub returns-in_err-job-in-Heavy : goal.returns-in_err-job-in-Heavy
returns-in_err-job-in-Heavy c =
    let fs = c.args.line.now in
    let p = err_from_is_err_and c.from_residual.result c.from_residual.ensures.1 in
    let four : length fs - 16 ≡ 4 = omega (arith, c.requires.due, ap fields_due c.in-Heavy.is) in
    rw (p.1, p.2, four) (stopped (number_checks fs 17 4) (blames_by_number (jobs_checks (jobs_in fs c.args.kind))) _ (fault_numbered _) c.in_err-job-in-Heavy.ensures)

pub returns-in_err-new-in-Heavy : goal.returns-in_err-new-in-Heavy
unfolding heavy_by
returns-in_err-new-in-Heavy c =
    let fs = c.args.line.now in
    let p = err_from_is_err_and c.from_residual-in_err-new-in-Heavy.result c.from_residual-in_err-new-in-Heavy.ensures.1 in
    let numbers = c.in_ok-job-in-Heavy.ensures in
    let four : length fs - 16 ≡ 4 = omega (arith, c.requires.due, ap fields_due c.in-Heavy.is) in
    let checks = heavy_by (numbers_in fs 17 4) in
    rw (p.1, p.2, four, c.in-Heavy.is)
    (passed (number_checks fs 17 4) (blames_by_number checks) (numbered_numbers fs 17 4) numbers.0
    ∙ (first_blame-blames_by_number checks ∙ ap by_number (sym (c.in_err-new-in-Heavy.ensures.refusal ∙ ap (λ ns. first (heavy_by ns)) numbers.1))))

pub returns-in_err-job-in_default : goal.returns-in_err-job-in_default
returns-in_err-job-in_default c =
    let fs = c.args.line.now in
    let p = err_from_is_err_and c.from_residual-in_err-job-in_default.result c.from_residual-in_err-job-in_default.ensures.1 in
    let word : c.args.kind ≡ Every = every_named c.args.kind c.requires.named c.in_default.not-Heavy in
    let two : length fs - 16 ≡ 2 = omega (arith, c.requires.due, ap fields_due word) in
    rw (p.1, p.2, two) (stopped (number_checks fs 17 2) (blames_by_number (jobs_checks (jobs_in fs c.args.kind))) _ (fault_numbered _) c.in_err-job-in_default.ensures)

pub returns-in_err-new-in_default : goal.returns-in_err-new-in_default
unfolding every_by
returns-in_err-new-in_default c =
    let fs = c.args.line.now in
    let p = err_from_is_err_and c.from_residual-in_err-new-in_default.result c.from_residual-in_err-new-in_default.ensures.1 in
    let numbers = c.in_ok-job-in_default.ensures in
    let word : c.args.kind ≡ Every = every_named c.args.kind c.requires.named c.in_default.not-Heavy in
    let two : length fs - 16 ≡ 2 = omega (arith, c.requires.due, ap fields_due word) in
    let checks = every_by (numbers_in fs 17 2) in
    rw (p.1, p.2, two, word)
    (passed (number_checks fs 17 2) (blames_by_number checks) (numbered_numbers fs 17 2) numbers.0
    ∙ (first_blame-blames_by_number checks ∙ ap by_number (sym (c.in_err-new-in_default.ensures.refusal ∙ ap (λ ns. first (every_by ns)) numbers.1))))
