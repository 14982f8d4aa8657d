-- What a table has been through since it was made, and what that promises. Assumes nothing.
-- How to read it: t is a table, es are its calls with their answers, the last one first, and `demand` is what values of the kind K mean. A fact in
-- `∥ ∥₁` is that fact, and nothing of how it came to be. `HasHistory` relates a table to the list of its calls; `Promise` is what is then true of
-- the two, and `EveryHistory` says it of all lists and tables.
use Rattle.std.specs.Prelude.{◌≡◌, ℕ, ◌<◌, min, ◌⊎◌, List, ◌∷◌, ◌++◌, length, take, Some, None, Ok, Result, slice_index_or, ◌↔◌, IsPermutation}
use Rattle.demand.specs.Demand.{Demand}
use Rattle.analysis.specs.declared.Task.{Task}
use Rattle.analysis.specs.Candidates.{claims_of}
use Rattle.analysis.specs.Plans.{BestPlan}
use Rattle.analysis.specs.Ranks.{Claim, ranking, loads, load_at, system_of}
use Rattle.table.specs.declared.refusals.BoundRefusal.{BoundRefusal}
use Rattle.table.specs.declared.hold.Hold.{Hold}
use Rattle.table.specs.declared.refusals.HoldRefusal.{HoldRefusal}
use Rattle.table.specs.declared.state.State.TheVariants.{Free, Held, Kept}
use Rattle.table.specs.declared.Table.{Table}
use Rattle.table.specs.Account.{Account, fresh_account, number_of}
use Rattle.analysis.specs.declared.TheConstants.{MOST_ROWS}
use Rattle.table.specs.Agreement.{AgreesWith}
use Rattle.table.specs.Runs.{Event, holding, bounding, after_all, Run, Step, LateWithoutPlan, Stands, Unspent}

-- the fresh account of a table: with its number, and with room for as many rows as it uses places
abbrev pub fresh_of : {K : Type 0} → Table K → Account
fresh_of t = fresh_account t.number (min (length t.places.now) MOST_ROWS)

-- the account of a table after these calls
abbrev pub account_of : {K : Type 0} → List Event → Table K → Account
account_of es t = after_all (fresh_of t) es

module _ {K : Type 0} (demand : K → Demand) where
  -- the account answers these calls so, from the fresh one on, and the table is as they leave it
  pub record History (es : List Event) (t : Table K) : Type 0 where
    pub answered : Run (fresh_of t) es
    pub agrees : AgreesWith demand (account_of es t) t

  -- the same as a mere fact
  abbrev pub HasHistory : List Event → Table K → Type 0
  HasHistory es t = ∥ History es t ∥₁

  -- the table has been through some calls
  abbrev pub HasSomeHistory : Table K → Type 0
  HasSomeHistory t = ∥ ((es : List Event) × History es t) ∥₁

  -- a call with its answer makes the table t the table u: whatever calls t has been through, u has been through this one too
  abbrev pub Continues : Event → Table K → Table K → Type 0
  Continues e t u = (es : List Event) → HasHistory es t → HasHistory (e ∷ es) u

  -- the rows at the places that a table uses, with the meanings of their kinds
  abbrev pub rows_at : Table K → List Claim
  rows_at t = claims_of demand (take MOST_ROWS t.places.now)

  -- the row c stands at the place p, which the table may use
  pub record RowAt (t : Table K) (p : ℕ) (c : Claim) : Type 0 where
    pub used : p < MOST_ROWS
    pub task : Task K
    pub there : slice_index_or t.places.now p None ≡ Some task
    pub row : c ≡ record { row = task.row; demand = demand task.kind }

  -- a row with the number n stands at some place, as held
  pub record StandsHeld (t : Table K) (n : ℕ) : Type 0 where
    pub place : ℕ
    pub claim : Claim
    pub row : RowAt t place claim
    pub number : number_of claim ≡ n
    pub state : slice_index_or t.states place Free ≡ Held n

  -- after these calls `bound` answers this pair for the row with the number n, and nothing else
  abbrev pub JustBound : List Event → Table K → ℕ → ℕ × ℕ → Type 0
  JustBound es t n p = (r : Result (ℕ × ℕ) BoundRefusal) → HasHistory (bounding n r ∷ es) t ↔ (r ≡ Ok p)

  -- c has the rank k among the rows of the table, 0 being the highest
  pub record HasRank (t : Table K) (c : Claim) (k : ℕ) : Type 0 where
    pub within : k < length (rows_at t)
    pub claim : (load_at (loads (ranking (rows_at t))) k).claim ≡ c

  -- What is promised of a table and its calls, with the bound R k and the vector V k of the row of each rank k.
  pub record Promise (es : List Event) (t : Table K) (R V : ℕ → ℕ) : Type 0 where
    -- the row at each place has a rank, and `bound` answers just the pair of that rank for it
    pub bounds : (p : ℕ) (c : Claim) → RowAt t p c → (k : ℕ) × HasRank t c k × JustBound es t (number_of c) (R k, V k)
    -- the vectors are a plan with these bounds, and no plan under which all rows are in time has a smaller bound for any row
    pub best_plan : BestPlan (system_of (rows_at t)) R V
    -- the rows of the account after the calls are those at the places, in some order
    pub rows : IsPermutation (rows_at t) (account_of es t).rows
    -- each hold among the calls was refused as late exactly when there was no plan, if it passed the checks before
    pub late : (later : List Event) (c : Claim) (r : Result Hold HoldRefusal) (earlier : List Event) → es ≡ later ++ holding c r ∷ earlier → LateWithoutPlan (account_of earlier t) c r
    -- and so will the next one be
    pub next_late : (c : Claim) (r : Result Hold HoldRefusal) (b : Account) → Step (account_of es t) (holding c r) b → LateWithoutPlan (account_of es t) c r
    -- each call was answered as the account of the calls before it answers
    pub answered : Run (fresh_of t) es
    -- the rows at the places are exactly those held and not since released or withdrawn
    pub standing : (c : Claim) → ((p : ℕ) × RowAt t p c) ↔ Stands c es
    -- those that stand as held are exactly those whose hold was given and not since spent
    pub held : (n : ℕ) → StandsHeld t n ↔ Unspent n es
    -- every other row stands as kept
    pub held_or_kept : (p : ℕ) (c : Claim) → RowAt t p c → (slice_index_or t.states p Free ≡ Held (number_of c)) ⊎ (slice_index_or t.states p Free ≡ Kept (number_of c))
    -- no two rows share a number
    pub one_row : (p q : ℕ) (c d : Claim) → RowAt t p c → RowAt t q d → number_of c ≡ number_of d → p ≡ q

  -- the promise, with some bounds and vectors
  abbrev pub Promised : List Event → Table K → Type 0
  Promised es t = ∥ ((R : ℕ → ℕ) × (V : ℕ → ℕ) × Promise es t R V) ∥₁

  -- whatever calls a table has been through, all of this is true of them and of the table
  abbrev pub EveryHistory : Type 0
  EveryHistory = (es : List Event) (t : Table K) → HasHistory es t → Promised es t
