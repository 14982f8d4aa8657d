-- What stands at a place, and at which places a table looks. Assumes nothing.
-- How to read it: t is a table, p a place, and P something that is said of the state at a place.
use Rattle.std.specs.Prelude.{◌≡◌, ℕ, ◌<◌, Bool, true, false, List, length, Option, MatchOption, ◌==◌, slice_index_or}
use Rattle.std.specs.List.{find, list_any}
use Rattle.std.specs.Option.{option_map}
use Rattle.analysis.specs.declared.TheConstants.{MOST_ROWS}
use Rattle.analysis.specs.declared.Answer.{Answer}
use Rattle.table.specs.declared.hold.Hold.{Hold}
use Rattle.table.specs.declared.state.State.{State}
use Rattle.table.specs.declared.state.State.TheVariants.{Free, Held, Kept}
use Rattle.table.specs.declared.refusals.WithdrawRefusal.{WithdrawRefusal}
use Rattle.table.specs.declared.refusals.WithdrawRefusal.TheVariants.{NoSuchRow, NotKept}
use Rattle.table.specs.declared.Table.{Table}

-- a row with the number n stands there
abbrev pub names : State → ℕ → Bool
names Free n = false
names (Held m) n = m == n
names (Kept m) n = m == n

-- the row with the number n stands there as held
abbrev pub is_held : ℕ → State → Bool
is_held n Free = false
is_held n (Held m) = m == n
is_held n (Kept m) = false

-- bound and vector of the first answer for the row with the number n
abbrev pub answer_of : ℕ → List Answer → Option (ℕ × ℕ)
answer_of n answers = option_map (λ a. (a.bound, a.vector)) (find (λ a. a.number == n) answers)

module _ {K : Type 0} (t : Table K) where
  -- the table uses the place: it is one of the first `MOST_ROWS`, and within the row memory
  abbrev pub Uses : ℕ → Type 0
  Uses p = (p < MOST_ROWS) × (p < length t.places.now)

  -- the table uses the place, and P is true of its state
  abbrev pub At : (State → Type 0) → ℕ → Type 0
  At P p = Uses p × P (slice_index_or t.states p Free)

  -- a place that the table uses and of whose state P is true, or `None` where there is none
  abbrev pub PlaceWhere : (State → Type 0) → Option ℕ → Type 0
  PlaceWhere P r = MatchOption r ((p : ℕ) → At P p → ⊥) (At P)

  -- the row with the number n stands as held at some place
  abbrev pub has_held : ℕ → Bool
  has_held n = list_any (is_held n) t.states

  -- the row of the hold is held at the place
  abbrev pub HeldHere : Hold → ℕ → Type 0
  HeldHere h p = (h.table ≡ t.number) × At (λ s. s ≡ Held h.row) p

  -- the row of the hold is held at no place
  abbrev pub HeldNowhere : Hold → Type 0
  HeldNowhere h = (p : ℕ) → HeldHere h p → ⊥

  -- why no row with the number n is withdrawn: no place names it, or one has it as held
  abbrev pub NoneKept : ℕ → WithdrawRefusal → Type 0
  NoneKept n NoSuchRow = (p : ℕ) → At (λ s. names s n ≡ true) p → ⊥
  NoneKept n NotKept = (p : ℕ) × At (λ s. s ≡ Held n) p

  -- s is the state at a place that names the number n, or free where none does
  abbrev pub StateHere : ℕ → State → Type 0
  StateHere n Free = (p : ℕ) → At (λ s. names s n ≡ true) p → ⊥
  StateHere n (Held m) = (m ≡ n) × ((p : ℕ) × At (λ s. s ≡ Held m) p)
  StateHere n (Kept m) = (m ≡ n) × ((p : ℕ) × At (λ s. s ≡ Kept m) p)
