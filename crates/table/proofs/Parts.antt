-- Rows and holds that are taken out of a list, by their numbers. Assumes nothing.
use Rattle.std.proofs.Common.{◌≡◌, ◌<◌, ℕ, zero, suc, true, false, not, ◌==◌, ◌≢◌, ◌⊎◌, inl, inr, Bool, List, [], ◌∷◌, length, slice_index_or, sym, refl, ◌∙◌, subst, arith}
use Rattle.std.specs.Prelude.{All, Contains}
use Rattle.std.specs.List.{filter, list_any}
use Rattle.std.proofs.lemmas.List.Elements.{Contains-append_cases, All-contains, All-contains_itself, All-filter, All-weaker, filter_passes}
use Rattle.std.proofs.lemmas.List.Folds.{Any-from_list_any, list_any_at, list_any_none}
use Rattle.std.proofs.lemmas.List.Sorted.{Contains-permutation, IsPermutation-filter_both}
use Rattle.std.proofs.lemmas.Bool.Decides.{nat_tests}
use Rattle.std.proofs.lemmas.Bool.{and_parts, both_ways, cond_both, eq-eqb, eqb-true, false_from_ne_true, not-true, or_right}
use Rattle.analysis.specs.Ranks.{Claim}
use Rattle.analysis.specs.Removal.{SomeOf, none, keep, leave}
use Rattle.table.specs.Account.{Bears, bears, number_of, has_number, has_priority, has_unspent, has_hold_on, without_hold, without_row}
use Rattle.table.specs.Agreement.{OwnHolds}

-- lists of anything
module _ {A : Type 0} where
  pub is_first : {x y : A} (ys : List A) → y ≡ x → Contains (y ∷ ys) x
  is_first ys e = (0, omega arith, e)

  pub is_later : {x : A} (y : A) (ys : List A) → Contains ys x → Contains (y ∷ ys) x
  is_later y ys m = (suc m.0, omega (arith, m.1), m.2)

  pub first_or_later : {x : A} (y : A) (ys : List A) → Contains (y ∷ ys) x → (y ≡ x) ⊎ Contains ys x
  first_or_later {x = x} y ys m = go m.0 m.1 m.2
    where
      go : (k : ℕ) → k < length (y ∷ ys) → slice_index_or (y ∷ ys) k x ≡ x → (y ≡ x) ⊎ Contains ys x
      go zero l e = inl e
      go (suc k) l e = inr (k, omega arith, e)

  -- where no element passes a test, each fails it
  pub none_passes : (test : A → Bool) (xs : List A) → list_any test xs ≡ false → All (λ x. test x ≡ false) xs
  none_passes test xs e k d l = false_from_ne_true (test (slice_index_or xs k d)) (λ q. both_ways (list_any test xs) e (list_any_at test xs k d l q))

  -- what a filter keeps was there, and passes; and what was there and passes is kept
  pub was_kept : (test : A → Bool) (x : A) (xs : List A) → Contains (filter test xs) x → Contains xs x × (test x ≡ true)
  was_kept test x xs m = (
    All-contains (Contains xs) (filter test xs) x (All-filter test (Contains xs) xs (All-contains_itself xs)) m,
    All-contains (λ y. test y ≡ true) (filter test xs) x (filter_passes test xs) m,
  )

  pub is_kept : (test : A → Bool) (x : A) (xs : List A) → test x ≡ true → Contains xs x → Contains (filter test xs) x
  is_kept test x xs passes m = elim (Contains-append_cases (filter test xs) (filter (λ y. not (test y)) xs) x (Contains-permutation xs _ x (IsPermutation-filter_both test (λ y. not (test y)) (λ _. refl) xs) m)) [
    | inl here ↦ here
    | inr other ↦ absurd (both_ways (test x) (not-true (test x) (All-contains (λ y. not (test y) ≡ true) (filter (λ y. not (test y)) xs) x (filter_passes (λ y. not (test y)) xs) other)) passes)
  ]

-- the rows that are left are some of the rows
pub without_some : (n : ℕ) (cs : List Claim) → SomeOf ◌≡◌ (without_row n cs) cs
without_some n [] = none
without_some n (c ∷ cs) =
    let rest = without_some n cs in
    cond_both (not (number_of c == n)) (c ∷ without_row n cs) (without_row n cs) (λ xs. SomeOf ◌≡◌ xs (c ∷ cs)) (λ _. keep refl rest) (λ _. leave rest)

-- where no row has the number n by `by`, that of each is another
pub others_differ : (by : Claim → ℕ) (n : ℕ) (cs : List Claim) → list_any (λ c. by c == n) cs ≡ false → All (λ c. n ≢ by c) cs
others_differ by n cs e = All-weaker (λ c. (by c == n) ≡ false) (λ c. n ≢ by c) (λ c q same. both_ways (by c == n) q (eq-eqb (by c) n (sym same))) cs (none_passes (λ c. by c == n) cs e)

pub other_numbers : (n : ℕ) (cs : List Claim) → has_number n cs ≡ false → All (λ c. n ≢ number_of c) cs
other_numbers = others_differ number_of

pub other_priorities : (p : ℕ) (cs : List Claim) → has_priority p cs ≡ false → All (λ c. p ≢ c.row.priority) cs
other_priorities = others_differ (λ c. c.row.priority)

-- and one that is none of theirs no row has
pub no_number : (n : ℕ) (cs : List Claim) → All (λ c. n ≢ number_of c) cs → has_number n cs ≡ false
no_number n cs others = list_any_none (λ c. number_of c == n) cs (λ k d l. false_from_ne_true ((number_of (slice_index_or cs k d)) == n) (λ q. others k d l (sym (eqb-true (number_of (slice_index_or cs k d)) n q))))

-- the row of another number is still there
has_still : (m n : ℕ) → m ≢ n → (cs : List Claim) → has_number m (without_row n cs) ≡ has_number m cs
has_still m n ne [] = refl
has_still m n ne (c ∷ cs) = grind (arith, nat_tests, has_still m n ne cs)

-- a hold of other numbers is as before, once a hold is spent
pub other_stays : (table n : ℕ) (x : Bears) (hs : List Bears) → bears table n x ≡ false → has_unspent x.table x.row (without_hold table n hs) ≡ has_unspent x.table x.row hs
other_stays table n x [] e = refl
other_stays table n x (h ∷ hs) e = grind (arith, nat_tests, other_stays table n x hs e)

-- and so is a hold of another row
pub others_stay : (table n other m : ℕ) (hs : List Bears) → m ≢ n → has_unspent other m (without_hold table n hs) ≡ has_unspent other m hs
others_stay table n other m hs ne = other_stays table n (record { table = other; row = m }) hs (grind (arith, nat_tests))

module _ (table : ℕ) (cs : List Claim) where
  abbrev Own : List Claim → Bears → Type 0
  Own rows h = (h.table ≡ table) × (has_number h.row rows ≡ true)

  pub own_more : (c : Claim) (hs : List Bears) → OwnHolds table cs hs → OwnHolds table (c ∷ cs) hs
  own_more c hs o = All-weaker (Own cs) (Own (c ∷ cs)) (λ h p. (p.0, or_right (number_of c == h.row) (has_number h.row cs) p.1)) hs o

  -- a row goes out that no hold bears
  pub own_without : (n : ℕ) (hs : List Bears) → has_hold_on n hs ≡ false → OwnHolds table cs hs → OwnHolds table (without_row n cs) hs
  own_without n hs e o k d l =
      let other = none_passes (λ (h : Bears). h.row == n) hs e k d l in
      ((o k d l).0, has_still (slice_index_or hs k d).row n (λ q. both_ways ((slice_index_or hs k d).row == n) other (eq-eqb (slice_index_or hs k d).row n q)) cs ∙ (o k d l).1)

  -- a row goes out with its hold
  pub own_released : (t n : ℕ) → t ≡ table → (hs : List Bears) → OwnHolds table cs hs → OwnHolds table (without_row n cs) (without_hold t n hs)
  own_released t n e hs o k d l =
      let h : Bears = slice_index_or (without_hold t n hs) k d in
      let own = All-filter (λ h. not (bears t n h)) (Own cs) hs o k d l in
      let left = not-true (bears t n h) (filter_passes (λ h. not (bears t n h)) hs k d l) in
      (own.0, has_still h.row n (λ q. both_ways (bears t n h) left (grind (arith, nat_tests, own.0))) cs ∙ own.1)

  -- an unspent hold is of this table, and its row is among the rows
  pub unspent_of : (t n : ℕ) (hs : List Bears) → OwnHolds table cs hs → has_unspent t n hs ≡ true → (t ≡ table) × (has_number n cs ≡ true)
  unspent_of t n hs o e =
      let found = Any-from_list_any (bears t n) hs e in
      let h : Bears = found.1 in
      let own : Own cs h = subst (Own cs) found.3 (o found.0 h found.2) in
      let numbers = and_parts (h.table == t) (h.row == n) found.4 in
      (sym (eqb-true h.table t numbers.0) ∙ own.0, subst (λ (m : ℕ). has_number m cs ≡ true) (eqb-true h.row n numbers.1) own.1)

  pub unspent_own : (t n : ℕ) (hs : List Bears) → OwnHolds table cs hs → has_unspent t n hs ≡ true → t ≡ table
  unspent_own t n hs o e = (unspent_of t n hs o e).0

  pub unspent_row : (t n : ℕ) (hs : List Bears) → OwnHolds table cs hs → has_unspent t n hs ≡ true → has_number n cs ≡ true
  unspent_row t n hs o e = (unspent_of t n hs o e).1

-- a row that is left was there, and has another number
pub was_there : (c : Claim) (n : ℕ) (cs : List Claim) → Contains (without_row n cs) c → Contains cs c × (number_of c ≢ n)
was_there c n cs m = let was = was_kept (λ d. not (number_of d == n)) c cs m in (was.0, grind (arith, nat_tests, was.1))

pub stays_there : (c : Claim) (n : ℕ) (cs : List Claim) → number_of c ≢ n → Contains cs c → Contains (without_row n cs) c
stays_there c n cs ne m = is_kept (λ d. not (number_of d == n)) c cs (grind (arith, nat_tests)) m

-- a hold that is left was unspent, and bears another row
pub was_unspent : (x : Bears) (t n : ℕ) (hs : List Bears) → x.table ≡ t → Contains (without_hold t n hs) x → Contains hs x × (x.row ≢ n)
was_unspent x t n hs own m = let was = was_kept (λ h. not (bears t n h)) x hs m in (was.0, grind (arith, nat_tests, was.1))

pub stays_unspent : (x : Bears) (t n : ℕ) (hs : List Bears) → x.row ≢ n → Contains hs x → Contains (without_hold t n hs) x
stays_unspent x t n hs ne m = is_kept (λ h. not (bears t n h)) x hs (grind (arith, nat_tests)) m
