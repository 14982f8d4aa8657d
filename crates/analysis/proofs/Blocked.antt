-- Fewer rows, lower ceilings and less blocking. Assumes nothing.
use Rattle.std.specs.Prelude.{if◌then◌else◌, ◌==◌}
use Rattle.std.proofs.Common.{◌≡◌, ℕ, zero, suc, ◌+◌, ◌≤◌, Bool, true, false, leb, List, ◌∷◌, Some, None, Option, refl, ap, subst, mul-le-mul_left, arith, leb-false, leb-true}
use Rattle.analysis.specs.declared.Row.{Row}
use Rattle.analysis.specs.Locks.{section, greater_of, ceiling, reaches, longest_in_row, longest_in, blocking}
use Rattle.analysis.specs.Ranks.{Claim, Load, rows, loads_of, loads}
use Rattle.analysis.specs.Removal.{SomeOf, none, keep, leave, rank_of}

-- one more than the ceiling, or 0 where there is none
abbrev pub top : Option ℕ → ℕ
top None = 0
top (Some c) = suc c

top_raised : (q : ℕ) (c d : Option ℕ) → top c ≤ top d → top (Some (greater_of q c)) ≤ top (Some (greater_of q d))
top_raised q None None h = omega arith
top_raised q None (Some d) h = omega arith
top_raised q (Some c) None h = omega arith
top_raised q (Some c) (Some d) h = omega arith

top_raised_over : (q : ℕ) (c d : Option ℕ) → top c ≤ top d → top c ≤ top (Some (greater_of q d))
top_raised_over q None d h = omega arith
top_raised_over q (Some c) None h = omega arith
top_raised_over q (Some c) (Some d) h = omega arith

-- a lower ceiling reaches no more
blocks_less : (c d : Option ℕ) (p n : ℕ) → top c ≤ top d → (if reaches c p then n else 0) ≤ (if reaches d p then n else 0)
blocks_less None d p n h = omega arith
blocks_less (Some c) None p n h = omega arith
blocks_less (Some c) (Some d) p n h = go (leb p c) (leb p d) refl refl
  where
    go : (x y : Bool) → leb p c ≡ x → leb p d ≡ y → (if x then n else 0) ≤ (if y then n else 0)
    go true true e f = omega arith
    go true false e f = let a = leb-true p c e in let b = leb-false p d f in omega arith
    go false y e f = omega arith

-- a row that does or does not use the lock
used : (x : Bool) (q : ℕ) (c d : Option ℕ) → top c ≤ top d → top (if x then c else Some (greater_of q c)) ≤ top (if x then d else Some (greater_of q d))
used true q c d h = h
used false q c d h = top_raised q c d h

used_above : (x : Bool) (q : ℕ) (c d : Option ℕ) → top c ≤ top d → top c ≤ top (if x then d else Some (greater_of q d))
used_above true q c d h = h
used_above false q c d h = top_raised_over q c d h

-- the rows that are left have no higher ceiling
pub ceiling_less : {xs ys : List Claim} (lock : ℕ) → SomeOf ◌≡◌ xs ys → top (ceiling (rows xs) lock) ≤ top (ceiling (rows ys) lock)
ceiling_less lock none = omega arith
ceiling_less lock (keep {a = a} {b = b} {xs = xs} {ys = ys} e s) =
    subst (λ (c : Claim). top (ceiling (rows (a ∷ xs)) lock) ≤ top (ceiling (rows (c ∷ ys)) lock)) e
    (used (section a.row lock == 0) a.row.priority _ _ (ceiling_less lock s))
ceiling_less lock (leave {b = b} {xs = xs} {ys = ys} s) =
    used_above (section b.row lock == 0) b.row.priority _ _ (ceiling_less lock s)

module _ (c d : ℕ → Option ℕ) (le : (lock : ℕ) → top (c lock) ≤ top (d lock)) (p : ℕ) where
  longest_of_less : (r : Row) (n : ℕ) → longest_in_row c p r n ≤ longest_in_row d p r n
  longest_of_less r zero = omega arith
  longest_of_less r (suc n) =
      let first = blocks_less (c n) (d n) p (section r n) (le n) in
      let others = longest_of_less r n in
      omega arith

  longest_less : {xs ys : List Claim} → SomeOf ◌≡◌ xs ys → longest_in c p (rows xs) ≤ longest_in d p (rows ys)
  longest_less none = omega arith
  longest_less (keep {a = a} {b = b} {xs = xs} {ys = ys} e s) =
      let first : longest_in_row c p a.row 8 ≤ longest_in_row d p b.row 8 = subst (λ (z : Claim). longest_in_row c p a.row 8 ≤ longest_in_row d p z.row 8) e (longest_of_less a.row 8) in
      let others : longest_in c p (rows xs) ≤ longest_in d p (rows ys) = longest_less s in
      omega arith
  longest_less (leave {b = b} {xs = xs} {ys = ys} s) =
      let others : longest_in c p (rows xs) ≤ longest_in d p (rows ys) = longest_less s in
      omega arith

-- the same row with no more blocking
pub record Lighter (l m : Load) : Type 0 where
  pub claim : l.claim ≡ m.claim
  pub blocked : l.blocked ≤ m.blocked

blocking_less : (c d : List Row) → ((lock : ℕ) → top (ceiling c lock) ≤ top (ceiling d lock)) → (r : Row) {xs ys : List Claim} → SomeOf ◌≡◌ xs ys → blocking c r (rows xs) ≤ blocking d r (rows ys)
blocking_less c d le r s = mul-le-mul_left (r.suspensions + 1) (longest_less (ceiling c) (ceiling d) le r.priority s)

lighter_from : (c d : List Row) → ((lock : ℕ) → top (ceiling c lock) ≤ top (ceiling d lock)) → {xs ys : List Claim} → SomeOf ◌≡◌ xs ys → SomeOf Lighter (loads_of c xs) (loads_of d ys)
lighter_from c d le none = none
lighter_from c d le (keep {a = a} {b = b} {xs = xs} {ys = ys} e s) =
    keep (record { claim = e; blocked = subst (λ (z : Claim). blocking c a.row (rows xs) ≤ blocking d z.row (rows ys)) e (blocking_less c d le a.row s) })
    (lighter_from c d le s)
lighter_from c d le (leave s) = leave (lighter_from c d le s)

same_rank : (c d : List Row) (le : (lock : ℕ) → top (ceiling c lock) ≤ top (ceiling d lock)) {xs ys : List Claim} (s : SomeOf ◌≡◌ xs ys) (k : ℕ) → rank_of (lighter_from c d le s) k ≡ rank_of s k
unfolding lighter_from
same_rank c d le none k = refl
same_rank c d le (keep e s) zero = refl
same_rank c d le (keep e s) (suc k) = ap suc (same_rank c d le s k)
same_rank c d le (leave s) k = ap suc (same_rank c d le s k)

-- with rows taken out, each row that is left has no more blocking
pub lighter : {xs ys : List Claim} → SomeOf ◌≡◌ xs ys → SomeOf Lighter (loads xs) (loads ys)
lighter {xs} {ys} s = lighter_from (rows xs) (rows ys) (λ lock. ceiling_less lock s) s

pub lighter_rank : {xs ys : List Claim} (s : SomeOf ◌≡◌ xs ys) (k : ℕ) → rank_of (lighter s) k ≡ rank_of s k
unfolding lighter
lighter_rank {xs} {ys} s k = same_rank (rows xs) (rows ys) (λ lock. ceiling_less lock s) s k
