-- What is answered for a file, which is its report or the line of its refusal. Assumes nothing.
use Rattle.std.proofs.Common.{◌≡◌, ℕ, ◌≤◌, List, length, IfOk, Ok, Err, Result, ap, subst, inl, inr, arith, length-append, length-drop}
use Rattle.analysis.specs.Ranks.{Claim}
use Rattle.planfile.specs.declared.fault.Fault.{Fault}
use Rattle.planfile.specs.Fault.{blame}
use Rattle.planfile.specs.Loading.{Loaded, AnsweredText}
use Rattle.planfile.specs.Reading.{FileRead}
use Rattle.planfile.specs.Report.{report, refusal_line, WrittenAt, RefusalWritten}
use Rattle.planfile.proofs.Blames.{long_enough}

-- a file that is read had memory for its report
read_long : (text : List ℕ) (room : ℕ) (rows : List Claim) → FileRead text room (Ok rows) → 512 ≤ room
read_long text room rows (inl (some, e)) = absurd (cc)
read_long text room rows (inr (pass, read)) = long_enough text room pass

-- a file that is loaded is answered by its report
pub answered_ok : (text before : List ℕ) (n : ℕ) (after : List ℕ) → Loaded text before (Ok n) after → AnsweredText text before (Ok n) after
answered_ok text before n after loaded = (read_long text (length before) loaded.rows loaded.read, inl loaded)

-- one that is refused, by the line of its refusal
pub answered_err : (text before : List ℕ) (f : Fault) (m : List ℕ) → Loaded text before (Err f) m → (r : Result ℕ Fault) (after : List ℕ) → RefusalWritten (blame f) m r after → AnsweredText text before r after
answered_err text before f m loaded (Ok n) after written =
    let here = subst (λ (x : List ℕ). RefusalWritten (blame f) x (Ok n) after) loaded.1 written in
    (here.0, inr (blame f, loaded.0, here.1))
answered_err text before f m loaded (Err e) after written = subst (λ (x : List ℕ). RefusalWritten (blame f) x (Err e) after) loaded.1 written

-- a text at the start of memory is no longer than memory
no_longer : (before text after : List ℕ) → WrittenAt before 0 text after → length after ≡ length before → length text ≤ length before
no_longer before text after written kept =
    omega (arith, kept, simp (length-append, length-drop) at (ap length written))

-- what is answered is no longer than memory
pub answer_within : (text before : List ℕ) (r : Result ℕ Fault) (after : List ℕ) → AnsweredText text before r after → length after ≡ length before → IfOk r (λ n. n ≤ length before)
answer_within text before (Ok n) after (long, inl reported) kept =
    omega (arith, reported.size, no_longer before (report reported.answers) after reported.written kept)
answer_within text before (Ok n) after (long, inr (b, read, wrote)) kept =
    omega (arith, wrote.next, no_longer before (refusal_line b) after wrote.memory kept)
answer_within text before (Err f) after h kept = tt
