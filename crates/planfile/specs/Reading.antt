-- What a plan file means: which rows it gives, or what is wrong with it. Assumes nothing.
-- How to read it: from one row line (`RowTaken`, `RowRefused`) to all of them (`RowsRead`), with the clock line (`LinesRead`), with the checks of
-- the whole file (`FileRead`). Each relates what is read to what it gives: rows, the last first, or a blame.
use Rattle.std.specs.Prelude.{◌≡◌, ℕ, ◌+◌, Bool, ◌≢◌, ◌⊎◌, List, [], ◌∷◌, drop, Ok, Err, Result, MatchResult, nat_lt, slice_index_or}
use Rattle.analysis.specs.declared.answers.Answers.{Answers}
use Rattle.analysis.specs.declared.TheConstants.{MOST_ROWS}
use Rattle.analysis.specs.Judge.{RowsAnswered, answers_of}
use Rattle.analysis.specs.Ranks.{Claim}
use Rattle.table.specs.declared.hold.Hold.{Hold as Token}
use Rattle.table.specs.declared.refusals.HoldRefusal.{HoldRefusal}
use Rattle.table.specs.declared.Table.{Table}
use Rattle.table.specs.Account.{Account, Accepted, Refused}
use Rattle.table.specs.Agreement.{AgreesWith}
use Rattle.demand.specs.declared.delayed.Delayed.{Delayed}
use Rattle.demand.specs.declared.factor.Factor.{Factor}
use Rattle.demand.specs.declared.slowed.Slowed.{Slowed}
use Rattle.planfile.specs.declared.TheConstants.{LONGEST_FILE, REPORT_MEMORY}
use Rattle.planfile.specs.declared.fault.LineFault.{LineFault}
use Rattle.planfile.specs.declared.fault.LineFault.TheVariants.{Hold}
use Rattle.planfile.specs.declared.fault.Blame.{Blame}
use Rattle.planfile.specs.Fault.{nothing, by_number, at_line, first_blame, line_blame}
use Rattle.planfile.specs.Text.{lines, fields}
use Rattle.planfile.specs.Checks.{Jobs, clock_checks, clock_of, length_checks, line_checks, entry_of, claim_of, row_demand}

-- a table of rows of the kind that a plan file has
abbrev pub PlanTable : Type 0
PlanTable = Table (Slowed (Delayed Jobs))

-- the account of the file's own table, with room for twelve rows, where these are kept and none is held
abbrev pub account_with : List Claim → Account
account_with rows = record { number = 0; room = MOST_ROWS; rows = rows; holds = [] }

-- The table has these rows, all kept and none held, and the answers are those of all of them.
pub record RowsKept (rows : List Claim) (t : PlanTable) (all : Answers) : Type 0 where
  pub agrees : AgreesWith row_demand (account_with rows) t
  pub answered : RowsAnswered rows (answers_of all)

-- the row of a row line
abbrev pub claim_in : Factor → List (List ℕ) → Claim
claim_in clock fs = claim_of clock (entry_of fs)

-- A row line is taken: no check of its own applies, and its row is accepted among those before it.
pub record RowTaken (clock : Factor) (rows : List Claim) (fs : List (List ℕ)) : Type 0 where
  pub passes : first_blame (line_checks fs) ≡ nothing
  pub token : Token
  pub accepted : Accepted (account_with rows) (claim_in clock fs) token

-- The account refuses the row of a row line, and this is what is blamed.
abbrev pub AccountRefuses : Factor → List Claim → List (List ℕ) → Blame → Type 0
AccountRefuses clock rows fs b =
    (e : HoldRefusal) × Refused (account_with rows) (claim_in clock fs) e × (b ≡ line_blame (Hold e))

-- A row line is refused: by the first of its own checks that applies, or, where none does, as the account refuses its row.
abbrev pub RowRefused : Factor → List Claim → List (List ℕ) → Blame → Type 0
RowRefused clock rows fs b =
    ((first_blame (line_checks fs) ≡ b) × (b.number ≢ 0))
    ⊎ ((first_blame (line_checks fs) ≡ nothing) × AccountRefuses clock rows fs b)

-- What reading a row line answers where the table has these rows, and the table then: it is taken, and the answers are those of all rows, or it
-- is refused.
abbrev pub RowLineAnswered : Factor → List Claim → List (List ℕ) → Result Answers LineFault → PlanTable → Type 0
RowLineAnswered clock rows fs r t =
    MatchResult r
    (λ all. RowTaken clock rows fs × RowsKept (claim_in clock fs ∷ rows) t all)
    (λ f. RowRefused clock rows fs (line_blame f))

-- What row lines give, where the first of them is line n and these rows were taken before it: all rows, the last first, or the fault.
abbrev pub RowsRead : Factor → ℕ → List Claim → List (List ℕ) → Result (List Claim) Blame → Type 0
RowsRead clock n rows [] r = r ≡ Ok rows
RowsRead clock n rows (line ∷ rest) r =
    ((b : Blame) × RowRefused clock rows (fields line) b × (r ≡ Err (at_line n b)))
    ⊎ (RowTaken clock rows (fields line)
    × RowsRead clock (n + 1) (claim_in clock (fields line) ∷ rows) rest r)

-- the fields of the first line
abbrev pub first_fields : List ℕ → List (List ℕ)
first_fields text = fields (slice_index_or (lines text) 0 [])

-- what the clock line of a file blames
abbrev pub clock_blame : List ℕ → Blame
clock_blame text = first_blame (clock_checks (first_fields text))

-- What lines give: the first is the clock line, and the others are row lines.
abbrev pub LinesRead : List ℕ → Result (List Claim) Blame → Type 0
LinesRead text r =
    (((clock_blame text).number ≢ 0) × (r ≡ Err (at_line 1 (clock_blame text))))
    ⊎ ((clock_blame text ≡ nothing) × RowsRead (clock_of (first_fields text)) 2 [] (drop 1 (lines text)) r)

-- When a file is refused before its lines are read, in this order: memory has fewer than REPORT_MEMORY bytes; the file has more than LONGEST_FILE, or is not
-- ended by a newline.
abbrev pub file_checks : List ℕ → ℕ → List (Bool × Blame)
file_checks text room = (nat_lt room REPORT_MEMORY, by_number 19) ∷ length_checks LONGEST_FILE text

-- what the file itself blames, with room for a report of so many bytes
abbrev pub file_blame : List ℕ → ℕ → Blame
file_blame text room = first_blame (file_checks text room)

-- What a file gives, with room for a report of so many bytes: its rows, the last first, or the fault.
abbrev pub FileRead : List ℕ → ℕ → Result (List Claim) Blame → Type 0
FileRead text room r =
    (((file_blame text room).number ≢ 0) × (r ≡ Err (file_blame text room)))
    ⊎ ((file_blame text room ≡ nothing) × LinesRead text r)
