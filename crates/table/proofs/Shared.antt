-- Rows in another order, checks of which none applies, rows that are in time, and places. Assumes nothing.
use Rattle.std.proofs.Common.{◌≡◌, ℕ, zero, suc, ◌<◌, ◌≤◌, Bool, true, false, if◌then◌else◌, ◌==◌, nat_lt, ◌≢◌, List, [], ◌∷◌, length, slice_index_or, Some, None, Option, sym, refl, ap, ◌∙◌, subst, arith}
use Rattle.std.specs.Prelude.{All, Contains, IsPermutation}
use Rattle.std.proofs.lemmas.List.Sorted.{Contains-permutation, list_any-IsPermutation, IsPermutation-cons, IsPermutation-sym, IsPermutation-trans, length_permutation}
use Rattle.std.specs.List.{filter}
use Rattle.std.proofs.lemmas.Bool.Decides.{nat_tests}
use Rattle.std.proofs.lemmas.Bool.{leb-false, ltb-false, or_parts}
use Rattle.demand.specs.Demand.{Demand}
use Rattle.demand.specs.Refusals.{first}
use Rattle.analysis.specs.declared.Row.{Row}
use Rattle.analysis.specs.declared.Task.{Task}
use Rattle.analysis.specs.Candidates.{claims_of}
use Rattle.analysis.specs.Plans.{Bounds, NoPlan}
use Rattle.analysis.specs.Ranks.{Claim, ranking, rows, loads_of, loads, system_of}
use Rattle.analysis.proofs.Best.{Grows, is_plan}
use Rattle.analysis.proofs.Lawful.{grows, lawful_loads}
use Rattle.analysis.proofs.Order.{lawful_ranking}
use Rattle.analysis.proofs.Reordered.{Reordered, same, next, swapped, through, reordered_refl, reordered_is_permutation, permutation_is_reordered, pairs_permuted}
use Rattle.analysis.proofs.Ranked.{length_ranked}
use Rattle.table.specs.declared.refusals.HoldRefusal.{HoldRefusal}
use Rattle.table.specs.declared.state.State.{State}
use Rattle.table.specs.Account.{Account, number_of, has_number, has_priority, is_no_number, is_no_priority, hold_checks, hold_number, has_unspent, AllInTime}
use Rattle.table.specs.Agreement.{DistinctNumbers, LawfulRows, StandsAt}
use Rattle.table.proofs.Parts.{other_priorities}

pub permuted_back : {A : Type 0} {xs ys : List A} → IsPermutation xs ys → IsPermutation ys xs
permuted_back {xs = xs} {ys = ys} = IsPermutation-sym xs ys

pub permuted_through : {A : Type 0} {xs ys zs : List A} → IsPermutation xs ys → IsPermutation ys zs → IsPermutation xs zs
permuted_through {xs = xs} {ys = ys} {zs = zs} = IsPermutation-trans xs ys zs

pub length_permuted : {A : Type 0} {xs ys : List A} → IsPermutation xs ys → length xs ≡ length ys
length_permuted {xs = xs} {ys = ys} p = sym (length_permutation xs ys p)

pub permuted_next : {A : Type 0} (a : A) {xs ys : List A} → IsPermutation xs ys → IsPermutation (a ∷ xs) (a ∷ ys)
permuted_next a {xs = xs} {ys = ys} = IsPermutation-cons a xs ys

pub contains_permuted : {A : Type 0} (x : A) {xs ys : List A} → IsPermutation xs ys → Contains xs x → Contains ys x
contains_permuted x {xs = xs} {ys = ys} = Contains-permutation xs ys x

-- those that pass a test are the same in another order
filter_reordered : {A : Type 0} (test : A → Bool) {xs ys : List A} → Reordered xs ys → Reordered (filter test xs) (filter test ys)
filter_reordered test same = same
filter_reordered test (next {a = a} {xs = xs} {ys = ys} r) = go (test a) (filter_reordered test r)
  where
    go : (b : Bool) → Reordered (filter test xs) (filter test ys) → Reordered (if b then (a ∷ filter test xs) else (filter test xs)) (if b then (a ∷ filter test ys) else (filter test ys))
    go true q = next q
    go false q = q
filter_reordered {A = A} test (swapped {a = a} {b = b} {xs = xs}) = go (test a) (test b) (filter test xs)
  where
    go : (s t : Bool) (zs : List A) → Reordered (if s then (a ∷ (if t then (b ∷ zs) else zs)) else (if t then (b ∷ zs) else zs)) (if t then (b ∷ (if s then (a ∷ zs) else zs)) else (if s then (a ∷ zs) else zs))
    go true true zs = swapped
    go true false zs = reordered_refl (a ∷ zs)
    go false true zs = reordered_refl (b ∷ zs)
    go false false zs = reordered_refl zs
filter_reordered test (through r q) = through (filter_reordered test r) (filter_reordered test q)

pub filter_permuted : {A : Type 0} (test : A → Bool) {xs ys : List A} → IsPermutation xs ys → IsPermutation (filter test xs) (filter test ys)
filter_permuted test p = reordered_is_permutation (filter_reordered test (permutation_is_reordered p))

-- the order of the rows does not matter
pub number_permuted : (n : ℕ) {xs ys : List Claim} → IsPermutation xs ys → has_number n xs ≡ has_number n ys
number_permuted n {xs = xs} {ys = ys} = list_any-IsPermutation (λ c. number_of c == n) xs ys

pub priority_permuted : (q : ℕ) {xs ys : List Claim} → IsPermutation xs ys → has_priority q xs ≡ has_priority q ys
priority_permuted q {xs = xs} {ys = ys} = list_any-IsPermutation (λ c. c.row.priority == q) xs ys

pub numbers_permuted : {xs ys : List Claim} → IsPermutation xs ys → DistinctNumbers xs → DistinctNumbers ys
numbers_permuted {xs = xs} {ys = ys} p = pairs_permuted (λ c d. number_of c ≢ number_of d) (λ c d ne e. ne (sym e)) xs ys p

-- each check has a number from low to high
abbrev pub Numbered : ℕ → ℕ → List (Bool × ℕ) → Type 0
Numbered low high [] = Unit {0}
Numbered low high (c ∷ cs) = ((low ≤ c.1) × (c.1 ≤ high)) × Numbered low high cs

abbrev NoneApplies : List (Bool × ℕ) → Type 0
NoneApplies [] = Unit {0}
NoneApplies (c ∷ cs) = (c.0 ≡ false) × NoneApplies cs

none_applies : (low high : ℕ) (cs : List (Bool × ℕ)) → 1 ≤ low → Numbered low high cs → first cs ≡ 0 → NoneApplies cs
none_applies low high [] h n e = tt
none_applies low high (c ∷ cs) h n e = grind (arith, n.0.0, none_applies low high cs h n.1)

pub at_least_five : (e : HoldRefusal) → 5 ≤ hold_number e
at_least_five e = grind arith

-- The number and the priority of a row that passes are new, and there is room for it. Its number is one byte, and its deadline within its spacing.
pub record Passed (a : Account) (c : Claim) : Type 0 where
  pub number : has_number (number_of c) a.rows ≡ false
  pub priority : All (λ d. c.row.priority ≢ d.row.priority) a.rows
  pub room : length a.rows < a.room
  pub byte : number_of c ≤ 255
  pub deadline : c.row.deadline ≤ c.demand.spacing

pub passed : (a : Account) (c : Claim) → first (hold_checks a c) ≡ 0 → Passed a c
passed a c e =
    let none_of = none_applies 5 10 (hold_checks a c) (omega arith) ((omega arith, omega arith), ((omega arith, omega arith), ((omega arith, omega arith), ((omega arith, omega arith), ((omega arith, omega arith), ((omega arith, omega arith), tt)))))) e in
    record {
      number = (or_parts (is_no_number (number_of c)) (has_number (number_of c) a.rows) none_of.0).1;
      priority = other_priorities c.row.priority a.rows (or_parts (is_no_priority c.row.priority) (has_priority c.row.priority a.rows) none_of.1.0).1;
      room = leb-false a.room (length a.rows) none_of.1.1.1.1.1.0;
      byte =
          ltb-false 255 (number_of c)
          (or_parts (number_of c == 0) (nat_lt 255 (number_of c)) (or_parts (is_no_number (number_of c)) (has_number (number_of c) a.rows) none_of.0).0).1;
      deadline =
          ltb-false c.demand.spacing c.row.deadline
          (or_parts (c.row.deadline == 0) (nat_lt c.demand.spacing c.row.deadline) none_of.1.1.1.0).1;
    }

pub needs_grow : (cs : List Claim) → LawfulRows cs → Grows (system_of cs)
needs_grow cs h = grows (loads (ranking cs)) (lawful_loads (rows (ranking cs)) (ranking cs) (lawful_ranking cs h))

length_loads : (all : List Row) (cs : List Claim) → length (loads_of all cs) ≡ length cs
length_loads all [] = refl
length_loads all (c ∷ cs) = ap suc (length_loads all cs)

-- as many ranks as rows
pub length_ranks : (cs : List Claim) → length (loads (ranking cs)) ≡ length cs
length_ranks cs = length_loads (rows (ranking cs)) (ranking cs) ∙ length_ranked cs

-- bounds for all ranks
pub all_ranks : (cs : List Claim) (t : AllInTime cs) → Bounds (system_of cs) (system_of cs).ranks t.R t.V
all_ranks cs t = subst (λ (n : ℕ). Bounds (system_of cs) n t.R t.V) (sym (length_ranks cs)) t.bounds

-- rows that are in time have a plan
pub has_plan : (cs : List Claim) → LawfulRows cs → AllInTime cs → NoPlan (system_of cs) → ⊥
has_plan cs lawful t no_plan = no_plan t.V t.R (is_plan (system_of cs) (needs_grow cs lawful) t.R t.V (all_ranks cs t))

pub none_named_at : {K : Type 0} (demand : K → Demand) (n : ℕ) (os : List (Option (Task K))) (p : ℕ) (u : Task K) → has_number n (claims_of demand os) ≡ false → slice_index_or os p None ≡ Some u → u.row.number ≢ n
none_named_at demand n [] p u h e = cc
none_named_at demand n (o ∷ os) zero u h e = grind (arith, nat_tests)
none_named_at demand n (o ∷ os) (suc p) u h e = grind (arith, nat_tests, none_named_at demand n os p u)

module _ {K : Type 0} (a : Account) where
  -- a row of another number stands as it stood
  pub stands_still : (b : Account) (n : ℕ) → ((m : ℕ) → m ≢ n → has_unspent b.number m b.holds ≡ has_unspent a.number m a.holds) → (s : State) (o : Option (Task K)) → ((t : Task K) → o ≡ Some t → t.row.number ≢ n) → StandsAt a s o → StandsAt b s o
  stands_still b n still s o other h = grind arith
