-- Every rank has a bound or is late, so that some row is late exactly when no plan brings all in time. Assumes nothing.
use Rattle.std.specs.Prelude.{if◌then◌else◌, ◌==◌}
use Rattle.std.proofs.Common.{◌≡◌, ℕ, zero, suc, ◌<◌, ◌≤◌, ◌⊎◌, sym, refl, ap, subst, subst₂, inl, inr, not-suc-le-zero, arith, eq-eqb, ne_eqb}
use native.Mathlib.Decide.{dec_le, dec_lt, ℕ_discrete}
use Rattle.analysis.specs.Plans.{System, Window, Bound, Bounds, FirstLate, LateExactlyWhenNoPlan}
use Rattle.analysis.proofs.Best.{Grows, window_kept, late_settled, in_time_settled}
use Rattle.analysis.proofs.Least.{Least, NoneBelow, least_of, search_below, decide_below}

window_dec : (s : System) (R : ℕ → ℕ) (k v t : ℕ) → Dec (Window s R k v t)
window_dec s R k v t = go (dec_le 1 t) (dec_le t (s.deadline k)) (dec_lt v (s.vectors k)) (dec_le (s.need k R v t) t)
  where
    go : Dec (1 ≤ t) → Dec (t ≤ s.deadline k) → Dec (v < s.vectors k) → Dec (s.need k R v t ≤ t) → Dec (Window s R k v t)
    go (no a) b c d = no (λ w. a w.from_one)
    go (yes a) (no b) c d = no (λ w. b w.to_deadline)
    go (yes a) (yes b) (no c) d = no (λ w. c w.vector)
    go (yes a) (yes b) (yes c) (no d) = no (λ w. d w.covered)
    go (yes a) (yes b) (yes c) (yes d) = yes (record { from_one = a; to_deadline = b; vector = c; covered = d })

module _ (s : System) (R : ℕ → ℕ) (k : ℕ) where
  abbrev Covers : ℕ → Type 0
  Covers u = (x : ℕ) × (x < s.vectors k) × Window s R k x u

  covers_dec : (u : ℕ) → Dec (Covers u)
  covers_dec u = decide_below (λ x. Window s R k x u) (λ x. window_dec s R k x u) (s.vectors k)

  abbrev pub NoLargerBound : ℕ → Type 0
  NoLargerBound t = (b : ℕ) × (w : ℕ) × (b ≤ t) × Bound s R k b w

  smallest_vector : (t : ℕ) → Covers t → (l : Least Covers) → Least (λ x. Window s R k x l.value) → NoLargerBound t
  smallest_vector t c l p = (
    l.value,
    p.value,
    l.least t c,
    record { covers = p.holds; least = λ u x z. l.least u (x, z.vector, z); smallest = p.least },
  )

  least_window : (t : ℕ) → Covers t → Least Covers → NoLargerBound t
  least_window t c l =
      smallest_vector t c l
      (least_of (λ x. Window s R k x l.value) (λ x. window_dec s R k x l.value) l.holds.0 l.holds.2)

  -- where some window covers, there is a bound, and it is no larger
  pub bound_exists : (t : ℕ) → Covers t → NoLargerBound t
  bound_exists t c = least_window t c (least_of Covers covers_dec t c)

-- the bound at one rank does not depend on those at the ranks below
bound_moved : (s : System) → Grows s → (R Q : ℕ → ℕ) (k t v : ℕ) → ((i : ℕ) → i < k → R i ≡ Q i) → Bound s R k t v → Bound s Q k t v
bound_moved s grows R Q k t v same b =
    let back : (w u : ℕ) → Window s Q k w u → Window s R k w u = λ w u x. window_kept s grows k R Q w u (λ i h. let e = same i h in omega arith) x in
    record {
      covers = window_kept s grows k Q R v t (λ i h. let e = same i h in omega arith) b.covers;
      least = λ u w x. b.least u w (back w u x);
      smallest = λ w x. b.smallest w (back w t x);
    }

-- f, but a at n
pub put : (ℕ → ℕ) → ℕ → ℕ → ℕ → ℕ
put f n a k = if k == n then a else f k

put_here : (f : ℕ → ℕ) (n a : ℕ) → put f n a n ≡ a
unfolding put
put_here f n a = ap (λ b. if b then a else f n) (eq-eqb n n refl)

put_other : (f : ℕ → ℕ) (n a k : ℕ) → k < n → put f n a k ≡ f k
unfolding put
put_other f n a k h = ap (λ b. if b then a else f k) (ne_eqb k n (omega arith))

-- one rank more
pub bounds_more : (s : System) → Grows s → (n : ℕ) (Q W : ℕ → ℕ) → Bounds s n Q W → (b w : ℕ) → Bound s Q n b w → Bounds s (suc n) (put Q n b) (put W n w)
bounds_more s grows n Q W above b w bound k h = elim (ℕ_discrete k n) [
  | yes e ↦
      subst (λ (i : ℕ). Bound s (put Q n b) i (put Q n b i) (put W n w i)) (sym e)
      (subst₂ (Bound s (put Q n b) n) (sym (put_here Q n b)) (sym (put_here W n w))
      (bound_moved s grows Q (put Q n b) n b w (λ i l. sym (put_other Q n b i l)) bound))
  | no ne ↦
      let l : k < n = omega arith in
      subst₂ (Bound s (put Q n b) k) (sym (put_other Q n b k l)) (sym (put_other W n w k l))
      (bound_moved s grows Q (put Q n b) k (Q k) (W k) (λ i m. sym (put_other Q n b i (omega arith))) (above k l))
]

pub no_larger_more : (n : ℕ) (Q P : ℕ → ℕ) → ((k : ℕ) → k < n → Q k ≤ P k) → (b : ℕ) → b ≤ P n → (k : ℕ) → k < suc n → put Q n b k ≤ P k
no_larger_more n Q P less b le k h = elim (ℕ_discrete k n) [
  | yes e ↦ subst (λ (i : ℕ). put Q n b i ≤ P i) (sym e) (rw put_here le)
  | no ne ↦ let l : k < n = omega arith in let same = put_other Q n b k l in let small = less k l in omega arith
]

-- bounds for the first n ranks, or a late one among them
abbrev Decided : System → ℕ → Type 0
Decided s n = ((R : ℕ → ℕ) × (V : ℕ → ℕ) × Bounds s n R V) ⊎ ((k : ℕ) × FirstLate s k)

module _ (s : System) (grows : Grows s) where
  next_rank : (n : ℕ) → n < s.ranks → (R V : ℕ → ℕ) → Bounds s n R V → Least (Covers s R n) ⊎ NoneBelow (Covers s R n) (suc (s.deadline n)) → Decided s (suc n)
  next_rank n h R V b (inl l) =
      let found = least_window s R n l.value l.holds l in
      inl (put R n found.0, put V n found.1, bounds_more s grows n R V b found.0 found.1 found.3)
  next_rank n h R V b (inr uncovered) =
      inr (n, record { R = R; V = V; within = h; above = b; none = λ v t w. uncovered t (let l = w.to_deadline in omega arith) (v, w.vector, w) })

  next_decided : (n : ℕ) → n < s.ranks → Decided s n → Decided s (suc n)
  next_decided n h (inr late) = inr late
  next_decided n h (inl found) =
      next_rank n h found.0 found.1 found.2 (search_below (Covers s found.0 n) (covers_dec s found.0 n) (suc (s.deadline n)))

  decided : (n : ℕ) → n ≤ s.ranks → Decided s n
  decided zero h = inl (λ k. 0, λ k. 0, λ k l. absurd (not-suc-le-zero l))
  decided (suc n) h = next_decided n h (decided n (omega arith))

  settled : Decided s s.ranks → LateExactlyWhenNoPlan s
  settled (inl found) = in_time_settled s grows found.0 found.1 found.2
  settled (inr late) = late_settled s grows late.0 late.1

  pub late_exactly_when_no_plan : LateExactlyWhenNoPlan s
  late_exactly_when_no_plan = settled (decided s.ranks (omega arith))
