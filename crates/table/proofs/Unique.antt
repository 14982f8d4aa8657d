-- Rows have one bound and one vector each. Assumes nothing.
use Rattle.std.proofs.Common.{◌≡◌, ℕ, zero, suc, ◌<◌, ◌≤◌, sym, subst, not-suc-le-zero, arith}
use Rattle.analysis.specs.Plans.{System, Window, Bounds}
use Rattle.analysis.proofs.Best.{Grows, window_kept}

module _ (s : System) (grows : Grows s) where
  pub same_bounds : (n : ℕ) (R V Q W : ℕ → ℕ) → Bounds s n R V → Bounds s n Q W → (k : ℕ) → k < n → R k ≡ Q k
  same_bounds zero R V Q W b d k h = absurd (not-suc-le-zero h)
  same_bounds (suc n) R V Q W b d k h =
      let above : (i : ℕ) → i < n → R i ≡ Q i = same_bounds n R V Q W (λ i m. b i (omega arith)) (λ i m. d i (omega arith)) in
      let le : R k ≤ Q k = (b k h).least (Q k) (W k) (window_kept s grows k R Q (W k) (Q k) (λ i m. let e = above i (omega arith) in omega arith) (d k h).covers) in
      let ge : Q k ≤ R k = (d k h).least (R k) (V k) (window_kept s grows k Q R (V k) (R k) (λ i m. let e = above i (omega arith) in omega arith) (b k h).covers) in
      omega arith

  no_larger_vector : (n : ℕ) (R V Q W : ℕ → ℕ) → Bounds s n R V → Bounds s n Q W → (k : ℕ) → k < n → V k ≤ W k
  no_larger_vector n R V Q W b d k h =
      let same : (i : ℕ) → i < n → R i ≡ Q i = same_bounds n R V Q W b d in
      (b k h).smallest (W k)
      (subst (λ (t : ℕ). Window s R k (W k) t) (sym (same k h))
      (window_kept s grows k R Q (W k) (Q k) (λ i m. let e = same i (omega arith) in omega arith) (d k h).covers))

  pub same_vectors : (n : ℕ) (R V Q W : ℕ → ℕ) → Bounds s n R V → Bounds s n Q W → (k : ℕ) → k < n → V k ≡ W k
  same_vectors n R V Q W b d k h =
      let le = no_larger_vector n R V Q W b d k h in
      let ge = no_larger_vector n Q W R V d b k h in
      omega arith
