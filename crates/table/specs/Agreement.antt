-- When a table agrees with an account. Assumes nothing.
-- How to read it: `Agrees` ties the fields of a table to an account, and `demand` is what values of the kind K mean. Up to `Sound` all is about
-- accounts alone.
use Rattle.std.specs.Prelude.{◌≡◌, ℕ, ◌<◌, min, true, false, ◌≢◌, List, length, All, AllPairs, take, Some, None, Option, slice_index_or, IsPermutation}
use Rattle.demand.specs.Demand.{Demand, Lawful}
use Rattle.analysis.specs.declared.Task.{Task}
use Rattle.analysis.specs.Candidates.{claims_of}
use Rattle.analysis.specs.Ranks.{Claim, DistinctPriorities}
use Rattle.table.specs.declared.Table.{Table}
use Rattle.table.specs.declared.state.State.{State}
use Rattle.table.specs.declared.state.State.TheVariants.{Free, Held, Kept}
use Rattle.analysis.specs.declared.TheConstants.{MOST_ROWS}
use Rattle.table.specs.Account.{Account, Bears, number_of, has_number, has_unspent, has_hold_on, AllInTime}

-- no two rows share a number
abbrev pub DistinctNumbers : List Claim → Type 0
DistinctNumbers cs = AllPairs (λ c d. number_of c ≢ number_of d) cs

-- each row's kind keeps the laws
abbrev pub LawfulRows : List Claim → Type 0
LawfulRows cs = All (λ c. Lawful c.demand) cs

-- each unspent hold is of this table and of one of its rows
abbrev pub OwnHolds : ℕ → List Claim → List Bears → Type 0
OwnHolds table cs hs = All (λ h. (h.table ≡ table) × (has_number h.row cs ≡ true)) hs

-- what is true of the account after every run
pub record Sound (a : Account) : Type 0 where
  pub numbers : DistinctNumbers a.rows
  pub priorities : DistinctPriorities a.rows
  pub lawful : LawfulRows a.rows
  pub in_time : AllInTime a.rows
  pub holds : OwnHolds a.number a.rows a.holds

-- what the account says of the row with the number n
abbrev pub StateOf : Account → ℕ → State → Type 0
StateOf a n Free = has_number n a.rows ≡ false
StateOf a n (Held m) = (m ≡ n) × (has_number n a.rows ≡ true) × (has_hold_on n a.holds ≡ true)
StateOf a n (Kept m) = (m ≡ n) × (has_number n a.rows ≡ true) × (has_hold_on n a.holds ≡ false)

module _ {K : Type 0} where
  -- what stands at a place, as the account has it: a row is held while its hold is unspent, else kept
  abbrev pub StandsAt : Account → State → Option (Task K) → Type 0
  StandsAt a Free None = Unit {0}
  StandsAt a Free (Some t) = ⊥
  StandsAt a (Held n) None = ⊥
  StandsAt a (Held n) (Some t) = (n ≡ t.row.number) × (has_unspent a.number n a.holds ≡ true)
  StandsAt a (Kept n) None = ⊥
  StandsAt a (Kept n) (Some t) = (n ≡ t.row.number) × (has_unspent a.number n a.holds ≡ false)

  -- the table's number, its states and its row memory agree with the account
  pub record Agrees (demand : K → Demand) (a : Account) (number : ℕ) (states : List State) (places : List (Option (Task K))) : Type 0 where
    pub number_is : a.number ≡ number
    pub states_are : length states ≡ MOST_ROWS
    pub room_is : a.room ≡ min (length places) MOST_ROWS
    pub rows_are : IsPermutation (claims_of demand (take MOST_ROWS places)) a.rows
    pub at_each : (i : ℕ) → i < MOST_ROWS
        → StandsAt a (slice_index_or states i Free) (slice_index_or (take MOST_ROWS places) i None)
    pub sound : Sound a

  -- a table agrees with an account
  abbrev pub AgreesWith : (K → Demand) → Account → Table K → Type 0
  AgreesWith demand a t = Agrees demand a t.number t.states t.places.now

  -- The answer is what any account that agrees with the table t says of it.
  abbrev pub MatchesAccount : (K → Demand) → (Account → Type 0) → Table K → Type 0
  MatchesAccount demand says t = (a : Account) → AgreesWith demand a t → says a

  -- A call makes the table t the table u. It is answered as any account that agrees with t answers it, where `answers a b` says that the account a
  -- answers so and is b after it; and that account agrees with u.
  abbrev pub FollowsAccount : (K → Demand) → (Account → Account → Type 0) → Table K → Table K → Type 0
  FollowsAccount demand answers t u = (a : Account) → AgreesWith demand a t → (b : Account) × answers a b × AgreesWith demand b u
