-- Holds in hand, and what a call does to the rows that stand as held. Assumes nothing.
-- How to read it: t is a table before a call and u the one after it, hs are holds, n is the number of a row.
use Rattle.std.specs.Prelude.{◌≡◌, ◌≢◌, ℕ, Bool, not, ◌&&◌, ◌||◌, ◌==◌, List, Option, All, AllPairs, IsTrue, IsFalse, drop, length, min}
use Rattle.std.specs.List.{list_any}
use Rattle.std.specs.Borrow.{MutBor}
use Rattle.analysis.specs.declared.TheConstants.{MOST_ROWS}
use Rattle.analysis.specs.declared.Task.{Task}
use Rattle.table.specs.declared.hold.Hold.{Hold}
use Rattle.table.specs.declared.refusals.SpendRefusal.{SpendRefusal}
use Rattle.table.specs.declared.Table.{Table}
use Rattle.table.specs.Account.{Account, fresh_account, hold_of}
use Rattle.table.specs.History.{fresh_of}
use Rattle.table.specs.Places.{has_held}

-- the hold is on the row with the number n
abbrev pub is_on : ℕ → Hold → Bool
is_on n h = h.row == n

-- one of these holds is on the row with the number n
abbrev pub has_hold : ℕ → List Hold → Bool
has_hold n hs = list_any (is_on n) hs

-- the hold bears these two numbers
abbrev pub is_token : ℕ → ℕ → Hold → Bool
is_token table n h = h.table == table && h.row == n

-- one of these holds bears the number of this table
abbrev pub has_own : ℕ → List Hold → Bool
has_own table hs = list_any (λ h. h.table == table) hs

module _ {K : Type 0} where
  -- what no call changes: the number and the room of a table, the memory that it was lent, and what stands there behind the places that it uses
  abbrev pub frame_of : Table K → Account × ℕ × List (Option (Task K))
  frame_of t = (fresh_of t, t.places.ghost_name, drop MOST_ROWS t.places.now)

  -- the same of a table that is made with this number over this row memory
  abbrev pub frame_over : ℕ → MutBor (List (Option (Task K))) → Account × ℕ × List (Option (Task K))
  frame_over number places = (fresh_account number (min (length places.now) MOST_ROWS), places.ghost_name, drop MOST_ROWS places.now)

  -- These holds are those in hand: each bears the table's number, no two are on one row, and a row stands as held exactly where one is on it.
  pub record InHand (t : Table K) (hs : List Hold) : Type 0 where
    pub own : All (λ h. h.table ≡ t.number) hs
    pub apart : AllPairs (λ g h. g.row ≢ h.row) hs
    pub exactly : (n : ℕ) → has_held t n ≡ has_hold n hs

  module _ (t u : Table K) where
    -- the same rows stand as held, in the same frame
    pub record SameHeld : Type 0 where
      pub frame : frame_of u ≡ frame_of t
      pub held : (n : ℕ) → has_held u n ≡ has_held t n

    -- a hold was given on the row n, which was not held before
    pub record GivesHoldOn (n : ℕ) (h : Hold) : Type 0 where
      pub frame : frame_of u ≡ frame_of t
      pub table : h.table ≡ t.number
      pub row : h.row ≡ n
      pub was : IsFalse (has_held t n)
      pub held : (m : ℕ) → has_held u m ≡ (n == m || has_held t m)

    -- the hold was spent, which bears the table's number and whose row was held, and its row is held no more
    pub record SpendsHoldOn (h : Hold) : Type 0 where
      pub frame : frame_of u ≡ frame_of t
      pub table : h.table ≡ t.number
      pub was : IsTrue (has_held t h.row)
      pub held : (m : ℕ) → has_held u m ≡ (not (h.row == m) && has_held t m)

    -- the hold came back: it is of another table, or its row is not held
    pub record HandsBack (h : Hold) (e : SpendRefusal) : Type 0 where
      pub same : hold_of e ≡ h
      pub why : h.table ≡ t.number → IsFalse (has_held t h.row)
      pub held : SameHeld
