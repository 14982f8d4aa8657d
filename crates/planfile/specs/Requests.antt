-- The lines of a log: which checks each meets, and what it asks. Assumes nothing.
-- How to read it: `text` is a line with its newline, fs are its fields, which count from 1. Checks are as in Checks.antt. For a table line see
-- `opening_checks` and `opening_of`, for its clock line `clock_line_checks`, for any other line `request_checks` and `request_of`.
use Rattle.std.specs.Prelude.{◌≡◌, ℕ, Bool, true, false, not, ◌&&◌, List, [], ◌∷◌, ◌++◌, length, Some, None, Option, Ok, Err, Result, if◌then◌else◌, codes, ◌==◌, nat_le}
use Rattle.std.specs.Cmp.Lexicographic.{pointwise}
use Rattle.analysis.specs.declared.TheConstants.{MOST_ROWS}
use Rattle.demand.specs.declared.factor.Factor.{Factor}
use Rattle.runs.specs.declared.call.HoldId.{HoldId}
use Rattle.runs.specs.declared.call.Call.TheVariants.{Hold as HoldCall, Keep as KeepCall, Release as ReleaseCall, Withdraw as WithdrawCall, Bound as BoundCall}
use Rattle.planfile.specs.declared.TheConstants.{LONGEST_LINE}
use Rattle.planfile.specs.declared.fault.Blame.{Blame}
use Rattle.planfile.specs.declared.fault.LineFault.{LineFault}
use Rattle.planfile.specs.declared.request.Opening.{Opening}
use Rattle.planfile.specs.declared.request.Request.{Request}
use Rattle.planfile.specs.declared.request.Request.TheVariants.{Table as TableAsked, Call as CallAsked, Rows as RowsAsked}
use Rattle.planfile.specs.declared.word.Verb.{Verb}
use Rattle.planfile.specs.declared.word.Verb.TheVariants.{Table, Hold, Keep, Release, Withdraw, Bound, Rows, Other}
use Rattle.planfile.specs.Checks.{clock_checks, length_checks, number_checks, number_in, row_checks, task_of}
use Rattle.planfile.specs.Fault.{nothing, by_number, by_field, first_blame, line_blame}
use Rattle.planfile.specs.Reading.{first_fields}
use Rattle.planfile.specs.Text.{field, is_number}

-- which verb a field is
abbrev pub verb_of : List ℕ → Verb
verb_of f =
    if pointwise ◌==◌ f (codes "table") then Table
    else if pointwise ◌==◌ f (codes "hold") then Hold
    else if pointwise ◌==◌ f (codes "keep") then Keep
    else if pointwise ◌==◌ f (codes "release") then Release
    else if pointwise ◌==◌ f (codes "withdraw") then Withdraw
    else if pointwise ◌==◌ f (codes "bound") then Bound
    else if pointwise ◌==◌ f (codes "rows") then Rows
    else Other

-- which verb a line begins with
abbrev pub verb_in : List ℕ → Verb
verb_in text = verb_of (field 1 (first_fields text))

-- the verb is the one that begins a table line
abbrev pub is_table : Verb → Bool
is_table Table = true
is_table Hold = false
is_table Keep = false
is_table Release = false
is_table Withdraw = false
is_table Bound = false
is_table Rows = false
is_table Other = false

-- When a line is refused before its fields are looked at: it has more than LONGEST_LINE bytes, or is not ended by a newline.
abbrev pub end_checks : List ℕ → List (Bool × Blame)
end_checks = length_checks LONGEST_LINE

-- there are not so many fields
abbrev pub count_checks : List (List ℕ) → ℕ → List (Bool × Blame)
count_checks fs n = (not (length fs == n), by_number 15) ∷ []

-- There is not just one field behind the first word, or it is no number.
abbrev pub single_checks : List (List ℕ) → List (Bool × Blame)
single_checks fs = count_checks fs 2 ++ number_checks fs 2 1

-- field k is no number, or one above the limit
abbrev pub limit_checks : List (List ℕ) → ℕ → ℕ → List (Bool × Blame)
limit_checks fs k limit = (not (is_number (field k fs) && nat_le (number_in fs k) limit), by_field 16 k) ∷ []

-- When a table line is refused behind its first word, in this order: there are not just two fields behind it; the number of the table is none, or
-- above the largest u8; that of its places is none, or above MOST_ROWS.
abbrev pub table_checks : List (List ℕ) → List (Bool × Blame)
table_checks fs = count_checks fs 3 ++ (limit_checks fs 2 255 ++ limit_checks fs 3 MOST_ROWS)

-- When a line is refused that has to be a table line, in this order.
abbrev pub opening_checks : List ℕ → List (Bool × Blame)
opening_checks text =
    end_checks text
    ++ (not (is_table (verb_in text)), by_field 17 1)
    ∷ table_checks (first_fields text)

-- When a line is refused that has to be a clock line, in this order.
abbrev pub clock_line_checks : List ℕ → List (Bool × Blame)
clock_line_checks text = end_checks text ++ clock_checks (first_fields text)

-- When a line of an evening is refused behind its first word, by what this is; no other word is due. A table line ends the evening, whatever stands
-- behind its first word.
abbrev pub verb_checks : Verb → List (List ℕ) → List (Bool × Blame)
verb_checks Table fs = []
verb_checks Hold fs = row_checks fs
verb_checks Keep fs = single_checks fs
verb_checks Release fs = single_checks fs
verb_checks Withdraw fs = single_checks fs
verb_checks Bound fs = single_checks fs
verb_checks Rows fs = count_checks fs 1
verb_checks Other fs = (true, by_field 17 1) ∷ []

-- When a line of an evening is refused, in this order.
abbrev pub request_checks : List ℕ → List (Bool × Blame)
request_checks text = end_checks text ++ verb_checks (verb_in text) (first_fields text)

-- the table that a table line asks for
abbrev pub opening_of : List (List ℕ) → Opening
opening_of fs = record { number = number_in fs 2; places = number_in fs 3 }

-- the hold of this table that a line names
abbrev pub hold_in : ℕ → List (List ℕ) → HoldId
hold_in table fs = record { table = table; row = number_in fs 2 }

-- what a line asks of this table, by its first word; no other word asks anything
abbrev pub asked_by : Factor → ℕ → List (List ℕ) → Verb → Option Request
asked_by clock table fs Table = Some TableAsked
asked_by clock table fs Hold = Some (CallAsked (HoldCall (task_of clock fs)))
asked_by clock table fs Keep = Some (CallAsked (KeepCall (hold_in table fs)))
asked_by clock table fs Release = Some (CallAsked (ReleaseCall (hold_in table fs)))
asked_by clock table fs Withdraw = Some (CallAsked (WithdrawCall (number_in fs 2)))
asked_by clock table fs Bound = Some (CallAsked (BoundCall (number_in fs 2)))
asked_by clock table fs Rows = Some RowsAsked
asked_by clock table fs Other = None

-- what a line of an evening asks
abbrev pub request_of : Factor → ℕ → List ℕ → Option Request
request_of clock table text = asked_by clock table (first_fields text) (verb_in text)

-- What reading a line of an evening answers: what it asks where no check applies, else a fault that says what the first says that applies.
abbrev pub RequestRead : Factor → ℕ → List ℕ → Result Request LineFault → Type 0
RequestRead clock table text (Ok request) =
    (first_blame (request_checks text) ≡ nothing) × (request_of clock table text ≡ Some request)
RequestRead clock table text (Err f) = first_blame (request_checks text) ≡ line_blame f
