-- The bounds found form the best plan, and a row is late only where no plan brings all in time. Assumes nothing.
use Rattle.std.proofs.Common.{ℕ, zero, suc, ◌<◌, ◌≤◌, le_trans, arith}
use Rattle.analysis.specs.Plans.{System, Window, Bounds, PlanGives, NoPlan, FirstLate, BestPlan, LateExactlyWhenNoPlan}

-- what a rank needs never falls when the bounds above it grow
abbrev pub Grows : System → Type 0
Grows s = (k : ℕ) (R Q : ℕ → ℕ) (v t : ℕ) → ((i : ℕ) → i < k → R i ≤ Q i) → s.need k R v t ≤ s.need k Q v t

module _ (s : System) (grows : Grows s) where
  -- a window stays one under smaller bounds above
  pub window_kept : (k : ℕ) (R Q : ℕ → ℕ) (v t : ℕ) → ((i : ℕ) → i < k → R i ≤ Q i) → Window s Q k v t → Window s R k v t
  window_kept k R Q v t below w =
      record {
        from_one = w.from_one;
        to_deadline = w.to_deadline;
        vector = w.vector;
        covered = le_trans (grows k R Q v t below) w.covered;
      }

  -- the bounds are no larger than those of any plan, as far down as they go
  pub no_larger : (n : ℕ) (R V : ℕ → ℕ) → Bounds s n R V → n ≤ s.ranks → (Q W : ℕ → ℕ) → PlanGives s W Q → (k : ℕ) → k < n → R k ≤ Q k
  no_larger zero R V b h Q W p k l = omega arith
  no_larger (suc n) R V b h Q W p k l =
      let above : (i : ℕ) → i < n → R i ≤ Q i = no_larger n R V (λ i m. b i (omega arith)) (omega arith) Q W p in
      (b k l).least (Q k) (W k) (window_kept k R Q (W k) (Q k) (λ i m. above i (omega arith)) (p k (omega arith)).covers)

  pub is_plan : (R V : ℕ → ℕ) → Bounds s s.ranks R V → PlanGives s V R
  is_plan R V b k l = record { covers = (b k l).covers; least = λ u w. (b k l).least u (V k) w }

  pub best_plan : (R V : ℕ → ℕ) → Bounds s s.ranks R V → BestPlan s R V
  best_plan R V b =
      record { plan = is_plan R V b; best = λ W Q p. no_larger s.ranks R V b (omega arith) Q W p }

  pub late_no_plan : (k : ℕ) → FirstLate s k → NoPlan s
  late_no_plan k f V R p =
      f.none (V k) (R k)
      (window_kept k f.R R (V k) (R k) (no_larger k f.R f.V f.above (let h = f.within in omega arith) R V p)
      (p k f.within).covers)

  pub late_settled : (k : ℕ) → FirstLate s k → LateExactlyWhenNoPlan s
  late_settled k f = record { late_no_plan = late_no_plan; no_plan_late = λ _. (k, f) }

  pub in_time_settled : (R V : ℕ → ℕ) → Bounds s s.ranks R V → LateExactlyWhenNoPlan s
  in_time_settled R V b =
      record { late_no_plan = late_no_plan; no_plan_late = λ no_plan. absurd (no_plan V R (is_plan R V b)) }
