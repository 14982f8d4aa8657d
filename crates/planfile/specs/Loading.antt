-- What load answers, and what report memory then holds. Assumes nothing.
-- How to read it: `text` is a file, `before` and `after` are the memory before the call and after it. `Loaded` is for `load`, `AnsweredText` for `answer`.
use Rattle.std.specs.Prelude.{◌≡◌, ℕ, ◌≤◌, ◌⊎◌, List, length, Ok, Err, Result}
use Rattle.analysis.specs.declared.Answer.{Answer}
use Rattle.analysis.specs.Judge.{InTime}
use Rattle.analysis.specs.Ranks.{Claim}
use Rattle.planfile.specs.declared.TheConstants.{REPORT_MEMORY}
use Rattle.planfile.specs.declared.fault.Fault.{Fault}
use Rattle.planfile.specs.declared.fault.Blame.{Blame}
use Rattle.planfile.specs.Fault.{blame}
use Rattle.planfile.specs.Reading.{FileRead}
use Rattle.planfile.specs.Report.{report, refusal_line, MemoryIsShort, WrittenAt, Wrote}

-- A file is loaded: it gives these rows, they are all in time, and the report has an answer for each, highest first, with the bounds, the
-- vectors and the blocking of the best plan. It stands at the start of memory.
pub record Reported (text before : List ℕ) (n : ℕ) (after : List ℕ) : Type 0 where
  pub rows : List Claim
  pub answers : List Answer
  pub read : FileRead text (length before) (Ok rows)
  pub in_time : InTime rows answers
  pub size : n ≡ length (report answers)
  pub written : WrittenAt before 0 (report answers) after

-- what load answers for a text, and report memory before and after; a refusal changes nothing
abbrev pub Loaded : List ℕ → List ℕ → Result ℕ Fault → List ℕ → Type 0
Loaded text before (Ok n) after = Reported text before n after
Loaded text before (Err f) after = FileRead text (length before) (Err (blame f)) × (after ≡ before)

-- a file is refused, and the line of its refusal stands at the start of memory
abbrev pub RefusalReported : List ℕ → List ℕ → ℕ → List ℕ → Type 0
RefusalReported text before n after =
    (b : Blame) × FileRead text (length before) (Err b) × Wrote before 0 (refusal_line b) n after

-- What is answered for a text, and memory before and after: memory of fewer than REPORT_MEMORY bytes is refused and stays as it is, else the report stands
-- at its start, or the line of the refusal.
abbrev pub AnsweredText : List ℕ → List ℕ → Result ℕ Fault → List ℕ → Type 0
AnsweredText text before (Ok n) after =
    (REPORT_MEMORY ≤ length before) × (Reported text before n after ⊎ RefusalReported text before n after)
AnsweredText text before (Err f) after = MemoryIsShort before f after
