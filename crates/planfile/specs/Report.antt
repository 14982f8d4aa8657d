-- The texts that are written, and what memory holds then. Assumes nothing.
-- How to read it: a text is a list of bytes. `report` and `refusal_line` are the two texts; the rest says where they stand.
use Rattle.std.specs.Prelude.{◌≡◌, ℕ, ◌+◌, ◌<◌, ◌≤◌, List, [], ◌∷◌, ◌++◌, length, take, drop, Ok, Err, codes, decimal, Result}
use Rattle.std.specs.List.{flat_map}
use Rattle.analysis.specs.declared.Answer.{Answer}
use Rattle.arrayvec.specs.ArrayString.{ArrayString, array_string_len}
use Rattle.planfile.specs.declared.TheConstants.{REPORT_MEMORY}
use Rattle.planfile.specs.declared.fault.Fault.{Fault}
use Rattle.planfile.specs.declared.fault.Blame.{Blame}
use Rattle.planfile.specs.Fault.{by_number, blame}
use Rattle.planfile.specs.Text.{tab, newline}

-- a tab, and the digits of a number without leading zeros
abbrev pub number_field : ℕ → List ℕ
number_field n = tab ∷ decimal n

-- numbers, each behind a tab
abbrev pub number_fields : List ℕ → List ℕ
number_fields = flat_map number_field

-- a line of a word and numbers
abbrev pub line_of : List ℕ → List ℕ → List ℕ
line_of word ns = word ++ (number_fields ns ++ newline ∷ [])

-- the line of a row: its number, its bound, its vector, its blocking
abbrev pub report_line : Answer → List ℕ
report_line a = line_of (codes "row") (a.number ∷ a.bound ∷ a.vector ∷ a.blocking ∷ [])

-- the lines of all rows, as they come
abbrev pub report : List Answer → List ℕ
report = flat_map report_line

-- the line of a refusal: line, field, number, late row
abbrev pub refusal_line : Blame → List ℕ
refusal_line b = line_of (codes "refused") (b.line ∷ b.field ∷ b.number ∷ b.late ∷ [])

-- there is room for more bytes behind a text that is composed
abbrev pub HasRoom : ArrayString → List ℕ → Type 0
HasRoom text bytes = array_string_len text + length bytes ≤ REPORT_MEMORY

-- bytes were appended to a text
abbrev pub Appended : ArrayString → List ℕ → ArrayString → Type 0
Appended before bytes after = after.bytes ≡ before.bytes ++ bytes

-- memory after a text was written at a place of it: what stood before and behind is as it was
abbrev pub WrittenAt : List ℕ → ℕ → List ℕ → List ℕ → Type 0
WrittenAt before at text after = after ≡ take at before ++ (text ++ drop (at + length text) before)

-- a text was written at a place of memory; r is the place behind it
pub record Wrote (before : List ℕ) (at : ℕ) (text : List ℕ) (r : ℕ) (after : List ℕ) : Type 0 where
  pub next : r ≡ at + length text
  pub memory : WrittenAt before at text after

-- memory has fewer than REPORT_MEMORY bytes, which is refused by 19, and stays as it is
abbrev pub MemoryIsShort : List ℕ → Fault → List ℕ → Type 0
MemoryIsShort before f after = (length before < REPORT_MEMORY) × (blame f ≡ by_number 19) × (after ≡ before)

-- What writing the line of a refusal answers, and memory after: memory of fewer than REPORT_MEMORY bytes is refused and stays as it is, else the line
-- stands at its start.
abbrev pub RefusalWritten : Blame → List ℕ → Result ℕ Fault → List ℕ → Type 0
RefusalWritten b before (Ok n) after =
    (REPORT_MEMORY ≤ length before) × Wrote before 0 (refusal_line b) n after
RefusalWritten b before (Err f) after = MemoryIsShort before f after
