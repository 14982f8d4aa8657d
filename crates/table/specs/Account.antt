-- The account of holds: what a table answers, by the arguments of its calls alone. Assumes nothing.
-- How to read it: a is the account before a call, b the one after it, c a row with the meaning of its kind, h a hold, n the number of a row. The
-- calls are `Holds`, `HoldsAnswered`, `Spends` (keep and release), `Withdraws` and `BoundsAnswered`; each says which answers the account allows.
-- A check is a pair, whether it applies and its number; `first` is the number of the first that applies, and 0 where none does.
use Rattle.std.specs.Prelude.{◌≡◌, ℕ, ◌<◌, Bool, if◌then◌else◌, not, ◌&&◌, ◌||◌, List, [], ◌∷◌, ◌++◌, length, Ok, Err, Result, ◌==◌, nat_le, nat_lt}
use Rattle.demand.specs.Refusals.{first}
use Rattle.std.specs.Bool.{beq}
use Rattle.std.specs.List.{filter, list_any}
use Rattle.table.specs.declared.TheConstants.{LARGEST_NUMBER, LARGEST_PRIORITY, LONGEST_SUSPENSION, MOST_SUSPENSIONS}
use Rattle.analysis.specs.declared.answers.Answers.{Answers}
use Rattle.analysis.specs.Judge.{LateRow, RowsAnswered, answers_of}
use Rattle.analysis.specs.Plans.{Bounds}
use Rattle.analysis.specs.Ranks.{Claim, ranking, loads, load_at, system_of}
use Rattle.table.specs.declared.hold.Hold.{Hold}
use Rattle.table.specs.declared.refusals.HoldRefusal.{HoldRefusal}
use Rattle.table.specs.declared.refusals.HoldRefusal.TheVariants.{Number, Priority, Suspension, Deadline, Section, NoPlace, Late}
use Rattle.table.specs.declared.refusals.SpendRefusal.{SpendRefusal}
use Rattle.table.specs.declared.refusals.SpendRefusal.TheVariants.{NotHeld}
use Rattle.table.specs.declared.refusals.WithdrawRefusal.{WithdrawRefusal}
use Rattle.table.specs.declared.refusals.WithdrawRefusal.TheVariants.{NoSuchRow as WithdrawNoSuchRow, NotKept}
use Rattle.table.specs.declared.refusals.BoundRefusal.{BoundRefusal}
use Rattle.table.specs.declared.refusals.BoundRefusal.TheVariants.{NoSuchRow as BoundNoSuchRow}

-- the numbers that a hold bears: of its table and of its row
pub record Bears : Type 0 where
  pub table : ℕ
  pub row : ℕ

-- the table's number, how many rows it can take, its rows with the meanings of their kinds, and the holds not yet spent
pub record Account : Type 0 where
  pub number : ℕ
  pub room : ℕ
  pub rows : List Claim
  pub holds : List Bears

-- neither rows nor holds
abbrev pub fresh_account : ℕ → ℕ → Account
fresh_account number room = record { number = number; room = room; rows = []; holds = [] }

-- the row's number
abbrev pub number_of : Claim → ℕ
number_of c = c.row.number

-- a row of these has the number n
abbrev pub has_number : ℕ → List Claim → Bool
has_number n cs = list_any (λ c. number_of c == n) cs

-- a row of these has the priority p
abbrev pub has_priority : ℕ → List Claim → Bool
has_priority p cs = list_any (λ c. c.row.priority == p) cs

-- some length is above the limit
abbrev pub any_above : ℕ → List ℕ → Bool
any_above limit ns = list_any (nat_lt limit) ns

-- no row may have this number
abbrev pub is_no_number : ℕ → Bool
is_no_number n = n == 0 || nat_lt LARGEST_NUMBER n

-- no row may have this priority
abbrev pub is_no_priority : ℕ → Bool
is_no_priority p = p == 0 || nat_lt LARGEST_PRIORITY p

-- the suspension or its count is beyond its limit, or just one of the two is 0
abbrev pub is_no_suspension : ℕ → ℕ → Bool
is_no_suspension total count =
    nat_lt LONGEST_SUSPENSION total
    || (nat_lt MOST_SUSPENSIONS count || not (beq (total == 0) (count == 0)))

-- When the numbers of a row are refused, and by which number, in this order.
abbrev pub row_checks : Account → Claim → List (Bool × ℕ)
row_checks a c =
    -- the number is beyond its limits, or taken
    (is_no_number (number_of c) || has_number (number_of c) a.rows, 5)
    -- the priority is beyond its limits, or taken
    ∷ (is_no_priority c.row.priority || has_priority c.row.priority a.rows, 6)
    -- the suspension is beyond its limits
    ∷ (is_no_suspension c.row.suspension c.row.suspensions, 7)
    -- the deadline is 0 or beyond the spacing
    ∷ (c.row.deadline == 0 || nat_lt c.demand.spacing c.row.deadline, 8)
    -- a section is longer than the longest job
    ∷ (any_above c.demand.own c.row.sections, 9)
    ∷ []

-- When a row is refused before deadlines are looked at: as above, and last where no place is left.
abbrev pub hold_checks : Account → Claim → List (Bool × ℕ)
hold_checks a c = row_checks a c ++ (nat_le a.room (length a.rows), 10) ∷ []

-- the number of a refusal of a hold
abbrev pub hold_number : HoldRefusal → ℕ
hold_number Number = 5
hold_number Priority = 6
hold_number Suspension = 7
hold_number Deadline = 8
hold_number Section = 9
hold_number NoPlace = 10
hold_number (Late n) = 11

-- the number of what checks answer, 0 where none applies
abbrev pub check_number : Result (Unit {0}) HoldRefusal → ℕ
check_number (Ok u) = 0
check_number (Err e) = hold_number e

-- the late row that a refusal names, else 0
abbrev pub hold_late : HoldRefusal → ℕ
hold_late Number = 0
hold_late Priority = 0
hold_late Suspension = 0
hold_late Deadline = 0
hold_late Section = 0
hold_late NoPlace = 0
hold_late (Late n) = n

-- the number of a refusal of keep or release
abbrev pub spend_number : SpendRefusal → ℕ
spend_number (NotHeld h) = 12

-- the number of a refusal of withdraw
abbrev pub withdraw_number : WithdrawRefusal → ℕ
withdraw_number WithdrawNoSuchRow = 13
withdraw_number NotKept = 14

-- the number of a refusal of bound
abbrev pub bound_number : BoundRefusal → ℕ
bound_number BoundNoSuchRow = 13

-- all rows have bounds
pub record AllInTime (cs : List Claim) : Type 0 where
  pub R : ℕ → ℕ
  pub V : ℕ → ℕ
  pub bounds : Bounds (system_of cs) (length cs) R V

-- A hold is refused by the first check that applies, or as late where none does and some row would then be late; the first
-- such row is named.
pub record Refused (a : Account) (c : Claim) (e : HoldRefusal) : Type 0 where
  pub by_number : first (hold_checks a c) ≡ (if hold_number e == 11 then 0 else hold_number e)
  pub late : hold_number e ≡ 11 → LateRow (loads (ranking (c ∷ a.rows))) (hold_late e)

-- the account with one row more, held
abbrev pub with_row : Account → Claim → Account
with_row a c = record {
  number = a.number;
  room = a.room;
  rows = c ∷ a.rows;
  holds = record { table = a.number; row = number_of c } ∷ a.holds;
}

-- a hold that is accepted: no check applies, all rows are in time, and the hold bears the two numbers
pub record Accepted (a : Account) (c : Claim) (h : Hold) : Type 0 where
  pub passes : first (hold_checks a c) ≡ 0
  pub in_time : AllInTime (c ∷ a.rows)
  pub table : h.table ≡ a.number
  pub row : h.row ≡ number_of c

-- what a call of hold answers, and the account after it
abbrev pub Holds : Account → Claim → Result Hold HoldRefusal → Account → Type 0
Holds a c (Ok h) b = Accepted a c h × (b ≡ with_row a c)
Holds a c (Err e) b = Refused a c e × (b ≡ a)

-- the hold that came with answers, or why none did
abbrev pub hold_part : Result (Hold × Answers) HoldRefusal → Result Hold HoldRefusal
hold_part (Ok p) = Ok p.0
hold_part (Err e) = Err e

-- the same, where all rows are answered too, the new one among them
abbrev pub HoldsAnswered : Account → Claim → Result (Hold × Answers) HoldRefusal → Account → Type 0
HoldsAnswered a c (Ok p) b = Holds a c (Ok p.0) b × RowsAnswered (c ∷ a.rows) (answers_of p.1)
HoldsAnswered a c (Err e) b = Holds a c (Err e) b

-- a hold bears these two numbers
abbrev pub bears : ℕ → ℕ → Bears → Bool
bears table row h = h.table == table && h.row == row

-- one of these holds bears the two numbers
abbrev pub has_unspent : ℕ → ℕ → List Bears → Bool
has_unspent table row hs = list_any (bears table row) hs

-- one of these holds bears the row's number
abbrev pub has_hold_on : ℕ → List Bears → Bool
has_hold_on row hs = list_any (λ h. h.row == row) hs

-- the holds but those that bear the two numbers
abbrev pub without_hold : ℕ → ℕ → List Bears → List Bears
without_hold table row hs = filter (λ h. not (bears table row h)) hs

-- the rows but that with the number n
abbrev pub without_row : ℕ → List Claim → List Claim
without_row n cs = filter (λ c. not (number_of c == n)) cs

-- the hold is spent, and its row stays
abbrev pub with_kept : Account → Hold → Account
with_kept a h = record { number = a.number; room = a.room; rows = a.rows; holds = without_hold h.table h.row a.holds }

-- the hold is spent, and its row goes out
abbrev pub with_released : Account → Hold → Account
with_released a h = record { number = a.number; room = a.room; rows = without_row h.row a.rows; holds = without_hold h.table h.row a.holds }

-- the hold that a refusal hands back
abbrev pub hold_of : SpendRefusal → Hold
hold_of (NotHeld h) = h

-- When a hold is not spent: it is none of the unspent ones.
abbrev pub spend_checks : Account → Hold → List (Bool × ℕ)
spend_checks a h = (not (has_unspent h.table h.row a.holds), 12) ∷ []

-- what a call of keep or release answers, where `after` is the account with the hold spent; a hold that is not spent comes back
abbrev pub Spends : Account → Hold → Account → Result (Unit {0}) SpendRefusal → Account → Type 0
Spends a h after (Ok u) b = (first (spend_checks a h) ≡ 0) × (b ≡ after)
Spends a h after (Err e) b = (first (spend_checks a h) ≡ spend_number e) × (hold_of e ≡ h) × (b ≡ a)

-- the row of this number goes out
abbrev pub with_withdrawn : Account → ℕ → Account
with_withdrawn a n = record { number = a.number; room = a.room; rows = without_row n a.rows; holds = a.holds }

-- When a row is not withdrawn, in this order: there is no such row; it is held.
abbrev pub withdraw_checks : Account → ℕ → List (Bool × ℕ)
withdraw_checks a n = (not (has_number n a.rows), 13) ∷ (has_hold_on n a.holds, 14) ∷ []

-- what a call of withdraw answers
abbrev pub Withdraws : Account → ℕ → Result (Unit {0}) WithdrawRefusal → Account → Type 0
Withdraws a n (Ok u) b = (first (withdraw_checks a n) ≡ 0) × (b ≡ with_withdrawn a n)
Withdraws a n (Err e) b = (first (withdraw_checks a n) ≡ withdraw_number e) × (b ≡ a)

-- t and v are the bound and the vector of the row with the number n among these rows
pub record BoundOf (cs : List Claim) (n t v : ℕ) : Type 0 where
  pub rank : ℕ
  pub within : rank < length cs
  pub number : (load_at (loads (ranking cs)) rank).claim.row.number ≡ n
  pub R : ℕ → ℕ
  pub V : ℕ → ℕ
  pub bounds : Bounds (system_of cs) (length cs) R V
  pub bound : t ≡ R rank
  pub vector : v ≡ V rank

-- When no bound is answered: there is no such row.
abbrev pub bound_checks : Account → ℕ → List (Bool × ℕ)
bound_checks a n = (not (has_number n a.rows), 13) ∷ []

-- what a call of bound answers; it changes nothing
abbrev pub BoundsAnswered : Account → ℕ → Result (ℕ × ℕ) BoundRefusal → Type 0
BoundsAnswered a n (Ok p) = BoundOf a.rows n p.0 p.1
BoundsAnswered a n (Err e) = first (bound_checks a n) ≡ bound_number e
