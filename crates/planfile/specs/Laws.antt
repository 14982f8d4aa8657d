-- Laws of plan files, in terms of their lines and of the rows that were written. Assumes nothing.
-- How to read it: three clauses of `load` stand here, `InFileOrder`, `OneAnswer` and `RoundTrip`, each behind what it is made of. `text` is a file,
-- `before` and `after` are the memory of the report, r is the answer.
use Rattle.std.specs.Prelude.{◌≡◌, ℕ, ◌+◌, ◌<◌, ◌≤◌, ◌≢◌, ◌⊎◌, List, [], ◌∷◌, ◌++◌, length, take, drop, fold, All, Ok, Err, codes, Result, MatchResult, slice_index_or}
use Rattle.std.specs.List.{flat_map}
use Rattle.analysis.specs.declared.TheConstants.{LOCKS}
use Rattle.analysis.specs.declared.Answer.{Answer}
use Rattle.analysis.specs.Judge.{InTime}
use Rattle.analysis.specs.Ranks.{Claim}
use Rattle.demand.specs.Refusals.{first, slowed_checks}
use Rattle.table.specs.Account.{AllInTime, hold_checks}
use Rattle.demand.specs.declared.factor.Factor.{Factor}
use Rattle.either.specs.declared.Either.TheVariants.{Left, Right}
use Rattle.planfile.specs.declared.TheConstants.{REPORT_MEMORY}
use Rattle.planfile.specs.declared.fault.Fault.{Fault}
use Rattle.planfile.specs.declared.fault.Blame.{Blame}
use Rattle.planfile.specs.Fault.{nothing, at_line, blame}
use Rattle.planfile.specs.Text.{tab, newline, lines, fields, largest_number}
use Rattle.planfile.specs.Checks.{Jobs, Entry, clock_of, kind_checks, claim_of}
use Rattle.planfile.specs.Reading.{account_with, claim_in, clock_blame, file_blame, first_fields, RowTaken, RowRefused, FileRead}
use Rattle.planfile.specs.Report.{number_fields, report, WrittenAt}

-- the row lines of a file: all lines but the first
abbrev pub row_lines : List ℕ → List (List ℕ)
row_lines text = drop 1 (lines text)

-- the factor of a file
abbrev pub factor_of : List ℕ → Factor
factor_of text = clock_of (first_fields text)

-- the rows of these lines, before others; the last is first
abbrev pub rows_onto : Factor → List Claim → List (List ℕ) → List Claim
rows_onto clock = fold (λ rows line. claim_in clock (fields line) ∷ rows)

-- the rows of all row lines of a file
abbrev pub all_rows : List ℕ → List Claim
all_rows text = rows_onto (factor_of text) [] (row_lines text)

-- the fields of the row line of index i
abbrev pub row_fields : List ℕ → ℕ → List (List ℕ)
row_fields text i = fields (slice_index_or (row_lines text) i [])

-- the rows of the first i row lines of a file
abbrev pub rows_before : List ℕ → ℕ → List Claim
rows_before text i = rows_onto (factor_of text) [] (take i (row_lines text))

-- the row line of index i is taken, among the rows of the lines before it
abbrev pub RowLineTaken : List ℕ → ℕ → Type 0
RowLineTaken text i = RowTaken (factor_of text) (rows_before text i) (row_fields text i)

-- The row line of index i is the first that is refused: the clock line passes, and each row line before it is taken.
pub record RowFault (text : List ℕ) (b : Blame) : Type 0 where
  pub index : ℕ
  pub within : index < length (row_lines text)
  pub clock : clock_blame text ≡ nothing
  pub before : (j : ℕ) → j < index → RowLineTaken text j
  pub said : Blame
  pub refused : RowRefused (factor_of text) (rows_before text index) (row_fields text index) said
  pub blamed : b ≡ at_line (index + 2) said

-- the clock line is refused
abbrev pub ClockFault : List ℕ → Blame → Type 0
ClockFault text b = ((clock_blame text).number ≢ 0) × (b ≡ at_line 1 (clock_blame text))

-- The first fault of a file, in the order of the file: of the whole file, of its clock line, or of the first row line that is refused.
abbrev pub FirstFault : List ℕ → ℕ → Blame → Type 0
FirstFault text room b =
    ((file_blame text room ≡ b) × (b.number ≢ 0))
    ⊎ ((file_blame text room ≡ nothing) × (ClockFault text b ⊎ RowFault text b))

-- every row line is taken
abbrev pub AllTaken : List ℕ → Type 0
AllTaken text = (j : ℕ) → j < length (row_lines text) → RowLineTaken text j

-- the report of these rows stands at the start of memory
pub record ReportOf (rows : List Claim) (before : List ℕ) (n : ℕ) (after : List ℕ) : Type 0 where
  pub answers : List Answer
  pub in_time : InTime rows answers
  pub size : n ≡ length (report answers)
  pub written : WrittenAt before 0 (report answers) after

-- A file that is loaded has no fault, and its report is of the rows of its row lines, no more and no fewer; one that is refused is so for its first fault.
abbrev pub InFileOrder : List ℕ → List ℕ → Result ℕ Fault → List ℕ → Type 0
InFileOrder text before r after =
    MatchResult r
    (λ n. AllTaken text × ReportOf (all_rows text) before n after)
    (λ f. FirstFault text (length before) (blame f))

-- a file has one answer: whatever it gives by the definitions is what is answered
abbrev pub OneAnswer : List ℕ → ℕ → Result ℕ Fault → Type 0
OneAnswer text room r =
    (s : Result (List Claim) Blame) → FileRead text room s
    → MatchResult r (λ _. s ≡ Ok (all_rows text)) (λ f. s ≡ Err (blame f))

-- the word of a kind
abbrev pub jobs_word : Jobs → List ℕ
jobs_word (Left k) = codes "every"
jobs_word (Right k) = codes "heavy"

-- the numbers that stand behind the word of a kind
abbrev pub jobs_numbers : Jobs → List ℕ
jobs_numbers (Left k) = k.job ∷ k.period ∷ []
jobs_numbers (Right k) = k.job ∷ k.heavy ∷ k.among ∷ k.period ∷ []

-- a kind's word, and its numbers
abbrev pub jobs_text : Jobs → List ℕ
jobs_text jobs = tab ∷ (jobs_word jobs ++ number_fields (jobs_numbers jobs))

-- the numbers of a row line that stand before its kind
abbrev pub numbers_of : Entry → List ℕ
numbers_of e =
    e.row.number ∷ e.row.priority ∷ e.row.suspension ∷ e.row.suspensions ∷ e.row.deadline ∷ e.delay ∷ e.row.sections

-- a row line, written
abbrev pub row_text : Entry → List ℕ
row_text e = codes "row" ++ (number_fields (numbers_of e) ++ (jobs_text e.jobs ++ newline ∷ []))

-- the row lines of all entries
abbrev pub rows_text : List Entry → List ℕ
rows_text = flat_map row_text

-- a clock line, written
abbrev pub clock_text : Factor → List ℕ
clock_text clock = codes "clock" ++ (number_fields (clock.numerator ∷ clock.denominator ∷ []) ++ newline ∷ [])

-- a plan file, written
abbrev pub plan_text : Factor → List Entry → List ℕ
plan_text clock es = clock_text clock ++ rows_text es

-- each number fits a field
abbrev pub AllFit : List ℕ → Type 0
AllFit = All (λ n. n ≤ largest_number)

-- an entry can be written: its numbers fit their fields, and it has a section length for each lock
pub record Writable (e : Entry) : Type 0 where
  pub locks : length e.row.sections ≡ LOCKS
  pub numbers : AllFit (numbers_of e)
  pub jobs : AllFit (jobs_numbers e.jobs)

-- the rows of entries, before others; the last is first
abbrev pub claims_onto : Factor → List Claim → List Entry → List Claim
claims_onto clock = fold (λ rows e. claim_of clock e ∷ rows)

-- the numbers of each entry pass all checks but lateness, among the rows before it
abbrev pub NumbersPass : Factor → List Claim → List Entry → Type 0
NumbersPass clock rows [] = Unit {0}
NumbersPass clock rows (e ∷ es) =
    Writable e
    × (first (kind_checks e) ≡ 0)
    × (first (hold_checks (account_with rows) (claim_of clock e)) ≡ 0)
    × NumbersPass clock (claim_of clock e ∷ rows) es

-- rows that a plan file can have: their numbers pass, and all are in time together
pub record SoundPlan (clock : Factor) (es : List Entry) : Type 0 where
  pub numerator : clock.numerator ≤ largest_number
  pub denominator : clock.denominator ≤ largest_number
  pub factor : first (slowed_checks clock.numerator clock.denominator) ≡ 0
  pub numbers : NumbersPass clock [] es
  pub in_time : AllInTime (claims_onto clock [] es)

-- A plan file that was written from rows in time loads to the report of those rows.
abbrev pub RoundTrip : List ℕ → List ℕ → Result ℕ Fault → List ℕ → Type 0
RoundTrip text before r after =
    (clock : Factor) (es : List Entry) → SoundPlan clock es → text ≡ plan_text clock es
    → REPORT_MEMORY ≤ length before
    → MatchResult r (λ n. ReportOf (claims_onto clock [] es) before n after) (λ _. ⊥)
