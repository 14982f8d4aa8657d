-- What a look into the table says of the account. Assumes nothing.
use Rattle.std.proofs.Common.{MatchOption, ◌≡◌, ℕ, suc, ◌+◌, ◌<◌, ◌≤◌, Bool, true, false, if◌then◌else◌, not, ◌||◌, ◌==◌, nat_le, nat_lt, List, [], ◌∷◌, length, slice_index_or, take, is_some, Some, None, Option, sym, refl, ap, ◌∙◌, subst, arith, lt-ltb}
use Rattle.std.specs.List.{filter, flat_map, list_any}
use native.Mathlib.Decide.{dec_lt}
use denote.Ref.{Bor}
use Rattle.std.specs.declared.option.Iter.{OptionIter}
use Rattle.std.specs.Iterator.Adapters.{option_iter_done, option_iter_item, option_iter_steps}
use Rattle.std.proofs.lemmas.Iterator.{YieldsList}
use Rattle.std.proofs.lemmas.Iterator.Consumers.{YieldsList-from_shown}
use Rattle.std.specs.Option.{is_none, option_to_list}
use Rattle.std.proofs.lemmas.List.{length-take, get_or_past}
use Rattle.std.proofs.lemmas.List.Recursion.{or_is}
use Rattle.std.proofs.lemmas.Bool.{both_ways, false_from_ne_true}
use Rattle.std.proofs.lemmas.Bool.Decides.{nat_tests}
use Rattle.demand.specs.Demand.{Demand}
use Rattle.analysis.specs.declared.Task.{Task}
use Rattle.analysis.specs.Candidates.{claims_of}
use Rattle.table.specs.declared.state.State.{State}
use Rattle.table.specs.declared.state.State.TheVariants.{Free}
use Rattle.table.specs.declared.Table.{Table}
use Rattle.table.specs.Account.{Account, has_number, has_priority}
use Rattle.table.specs.Agreement.{AgreesWith, StandsAt}
use Rattle.table.specs.Places.{names, At, PlaceWhere}
use Rattle.table.proofs.Shared.{length_permuted, number_permuted, priority_permuted}

-- the tasks at the places that a table uses
abbrev pub tasks : {K : Type 0} → Table K → List (Option (Task K))
tasks t = take 12 t.places.now

-- the task and the state at one of them
abbrev pub task_at : {K : Type 0} → Table K → ℕ → Option (Task K)
task_at t i = slice_index_or (tasks t) i None

abbrev pub state_at : {K : Type 0} → Table K → ℕ → State
state_at t i = slice_index_or t.states i Free

-- at one of the first twelve places, P is true of the state
abbrev pub AtLow : {K : Type 0} → Table K → (State → Type 0) → ℕ → Type 0
AtLow t P p = (p < 12) × P (state_at t p)

-- what a search through the places found, by less: a place that it found is one of the first twelve
abbrev pub LowWhere : {K : Type 0} → Table K → (State → Type 0) → Option ℕ → Type 0
LowWhere t P r = MatchOption r ((p : ℕ) → At t P p → ⊥) (AtLow t P)

pub low_where : {K : Type 0} (t : Table K) (P : State → Type 0) (r : Option ℕ) → PlaceWhere t P r → LowWhere t P r
low_where t P None f = f
low_where t P (Some p) f = (f.0.0, f.1)

-- a place with a task is within the row memory
pub within : {K : Type 0} (t : Table K) (p : ℕ) (u : Task K) → task_at t p ≡ Some u → p < length t.places.now
within t p u e = elim (dec_lt p (length (tasks t))) [
  | yes l ↦ omega (arith, length-take 12 t.places.now)
  | no l ↦ let past = get_or_past (tasks t) p None (omega arith) in cc
]

-- the task at a place has the number n
abbrev pub named : {K : Type 0} → ℕ → Option (Task K) → Bool
named n None = false
named n (Some u) = u.row.number == n

names_task : {K : Type 0} (a : Account) (n : ℕ) (s : State) (o : Option (Task K)) → StandsAt a s o → names s n ≡ named n o
names_task a n s o h = grind arith

not_below : (m n : ℕ) → nat_le n m ≡ not (nat_lt m n)
not_below m n = grind (arith, nat_tests)

ltb_suc : (m n : ℕ) → (nat_lt (suc m) (suc n)) ≡ (nat_lt m n)
ltb_suc m n = grind (arith, nat_tests)

module _ {K : Type 0} (demand : K → Demand) where
  -- the tasks of the places are those of the rows
  pub priority_is : (p : ℕ) (os : List (Option (Task K))) → list_any (λ (t : Task K). t.row.priority == p) (flat_map option_to_list os) ≡ has_priority p (claims_of demand os)
  priority_is p [] = refl
  priority_is p (None ∷ os) = priority_is p os
  priority_is p (Some t ∷ os) = ap (λ b. (t.row.priority == p) || b) (priority_is p os)

  -- where the rows have the number n, a task has it
  pub named_more : (n : ℕ) (o : Option (Task K)) (os : List (Option (Task K))) → has_number n (claims_of demand (o ∷ os)) ≡ (named n o || has_number n (claims_of demand os))
  named_more n o os = grind arith

  -- a place has a row or none
  pub vacant : (os : List (Option (Task K))) → length (filter is_none os) + length (claims_of demand os) ≡ length os
  vacant [] = refl
  vacant (None ∷ os) = omega (arith, vacant os)
  vacant (Some t ∷ os) = omega (arith, vacant os)

  pub claims_at_most : (os : List (Option (Task K))) → length (claims_of demand os) ≤ length os
  claims_at_most os = omega (arith, vacant os)

module _ {K : Type 0} {demand : K → Demand} {a : Account} (t : Table K) (agrees : AgreesWith demand a t) where
  -- A place of whose state P is true is found exactly where F is true of the tasks: where one of them passes the test p,
  -- as it does exactly where P is true of the state.
  found : (P : State → Type 0) (F : List (Option (Task K)) → Bool) (p : Option (Task K) → Bool) → F [] ≡ false → ((o : Option (Task K)) (os : List (Option (Task K))) → F (o ∷ os) ≡ (p o || F os)) → ((s : State) (o : Option (Task K)) → StandsAt a s o → P s → p o ≡ true) → ((s : State) (o : Option (Task K)) → StandsAt a s o → p o ≡ true → P s) → (r : Option ℕ) → PlaceWhere t P r → is_some r ≡ F (tasks t)
  found P F p none step to from r f = or_is F p none step (tasks t) None (is_some r) (there r f) (nowhere r f)
    where
      there : (r : Option ℕ) → PlaceWhere t P r → is_some r ≡ true → (i : ℕ) × (i < length (tasks t)) × (p (task_at t i) ≡ true)
      there None f e = cc
      there (Some i) f e =
          (i, let l = length-take 12 t.places.now in omega arith, to (state_at t i) (task_at t i) (agrees.at_each i f.0.0) f.1)

      nowhere : (r : Option ℕ) → PlaceWhere t P r → is_some r ≡ false → (i : ℕ) → i < length (tasks t) → p (task_at t i) ≡ false
      nowhere (Some k) f e i l = cc
      nowhere None f e i l =
          let all = length-take 12 t.places.now in
          let low : i < 12 = omega arith in
          false_from_ne_true (p (task_at t i)) (λ q. f i ((low, omega arith), from (state_at t i) (task_at t i) (agrees.at_each i low) q))

  -- a place names the number exactly where the account has such a row
  pub number_found : (n : ℕ) (r : Option ℕ) → LowWhere t (λ s. names s n ≡ true) r → is_some r ≡ has_number n a.rows
  number_found n r f =
      found (λ s. names s n ≡ true) (λ os. has_number n (claims_of demand os)) (named n) refl (named_more demand n) (λ s o h e. sym (names_task a n s o h) ∙ e) (λ s o h e. names_task a n s o h ∙ e) r (used_where r f)
      ∙ number_permuted n agrees.rows_are
    where
      used_at : (p : ℕ) → (o : Option (Task K)) → task_at t p ≡ o → named n o ≡ true → p < length t.places.now
      used_at p None e named = cc
      used_at p (Some u) e named = within t p u e

      used_where : (r : Option ℕ) → LowWhere t (λ s. names s n ≡ true) r → PlaceWhere t (λ s. names s n ≡ true) r
      used_where None f = f
      used_where (Some p) f =
          ((f.0, used_at p (task_at t p) refl (sym (names_task a n (state_at t p) (task_at t p) (agrees.at_each p f.0)) ∙ f.1)), f.1)

  -- the same, of what a search through the places says of each
  pub number_found_within : (n : ℕ) (r : Option ℕ) → MatchOption r ((i : ℕ) → i < 12 → i < length t.places.now → names (state_at t i) n ≡ false) (λ p. (p < 12) × (p < length t.places.now) × (names (state_at t p) n ≡ true)) → is_some r ≡ has_number n a.rows
  number_found_within n None f = number_found n None (λ p at. both_ways (names (state_at t p) n) (f p at.0.0 at.0.1) at.1)
  number_found_within n (Some p) f = number_found n (Some p) (f.0, f.2)

  pub priority_found : (p : ℕ) → has_priority p (claims_of demand (tasks t)) ≡ has_priority p a.rows
  priority_found p = priority_permuted p agrees.rows_are

  -- a place is free exactly where the account has room
  pub place_free : (r : Option ℕ) → PlaceWhere t (λ s. s ≡ Free) r → nat_le a.room (length a.rows) ≡ not (is_some r)
  place_free r f =
      let room : length (tasks t) ≡ a.room = omega (arith, length-take 12 t.places.now, agrees.room_is) in
      not_below (length a.rows) a.room
      ∙ ap not (sym (found (λ s. s ≡ Free) (λ os. (nat_lt (length (claims_of demand os)) (length os))) is_none refl step (λ s o h e. grind arith) (λ s o h e. grind arith) r f ∙ rw (room, length_permuted agrees.rows_are)))
    where
      step : (o : Option (Task K)) (os : List (Option (Task K))) → (nat_lt (length (claims_of demand (o ∷ os))) (length (o ∷ os))) ≡ (is_none o || (nat_lt (length (claims_of demand os)) (length os)))
      step None os = lt-ltb (length (claims_of demand os)) (length (None ∷ os)) (let l = claims_at_most demand os in omega arith)
      step (Some u) os = ltb_suc (length (claims_of demand os)) (length os)

  -- as many rows can enter as places are empty
  pub room_left : length (filter is_none (tasks t)) + length a.rows ≡ a.room
  room_left = omega (arith, vacant demand (tasks t), length_permuted agrees.rows_are, length-take 12 t.places.now, agrees.room_is)

-- what a place gives where its tasks are gone through: its task, if it has one
pub given_at : {A : Type 0} (s : OptionIter A) (o : Option A) → option_iter_item s ≡ o → option_iter_done s ≡ false → YieldsList option_iter_steps (λ x. x.now) s (option_to_list o)
given_at {A} s o item unread = subst (YieldsList option_iter_steps (λ x. x.now) s) (ap left_of unread ∙ ap option_to_list item) (YieldsList-from_shown option_iter_steps (λ x. x.now) left none some s)
  where
    left_of : Bool → List A
    left_of b = (if b then [] else (option_to_list (option_iter_item s)))

    left : OptionIter A → List A
    left s = (if (option_iter_done s) then [] else (option_to_list (option_iter_item s)))

    none : (s t : OptionIter A) → option_iter_steps s None t → length (left s) ≡ 0
    none s t h = grind arith

    some : (s : OptionIter A) (x : Bor A) (t : OptionIter A) → option_iter_steps s (Some x) t → left s ≡ x.now ∷ left t
    some s x t h = grind arith
