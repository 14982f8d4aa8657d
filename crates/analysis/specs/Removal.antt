-- Taking rows out of a set. Assumes nothing.
-- How to read it: `SomeOf E xs ys` says that xs are some of ys. The law is `RemovalKeepsInTime`, at the end.
use Rattle.std.specs.Prelude.{◌≡◌, ℕ, zero, suc, ◌<◌, ◌≤◌, List, [], ◌∷◌, length}
use Rattle.analysis.specs.Plans.{Bounds}
use Rattle.analysis.specs.Ranks.{Claim, ranking, system_of, DistinctPriorities}

-- the list xs has some of the members of ys, in the same order, each as E says
pub data SomeOf {A B : Type 0} (E : A → B → Type 0) : List A → List B → Type 0 where
  none : SomeOf E [] []
  keep : {a : A} {b : B} {xs : List A} {ys : List B} → E a b → SomeOf E xs ys → SomeOf E (a ∷ xs) (b ∷ ys)
  leave : {b : B} {xs : List A} {ys : List B} → SomeOf E xs ys → SomeOf E xs (b ∷ ys)

-- the rank in ys of what has rank k in xs
abbrev pub rank_of : {A B : Type 0} {E : A → B → Type 0} {xs : List A} {ys : List B} → SomeOf E xs ys → ℕ → ℕ
rank_of none k = k
rank_of (keep e s) zero = zero
rank_of (keep e s) (suc k) = suc (rank_of s k)
rank_of (leave s) k = suc (rank_of s k)

-- The rows `rest` are in time. Their ranking has them as they stood in that of the rows `all`, and none has a larger bound
-- than R was there.
pub record InTimeStill (rest all : List Claim) (R : ℕ → ℕ) : Type 0 where
  pub kept : SomeOf ◌≡◌ (ranking rest) (ranking all)
  pub Q : ℕ → ℕ
  pub W : ℕ → ℕ
  pub bounds : Bounds (system_of rest) (length rest) Q W
  pub no_larger : (k : ℕ) → k < length rest → Q k ≤ R (rank_of kept k)

-- Where all rows are in time and no two share a priority, taking some out leaves the rest in time, with bounds no larger.
abbrev pub RemovalKeepsInTime : List Claim → Type 0
RemovalKeepsInTime all =
    (R V : ℕ → ℕ) → Bounds (system_of all) (length all) R V → DistinctPriorities all
    → (rest : List Claim) → SomeOf ◌≡◌ rest all → InTimeStill rest all R
