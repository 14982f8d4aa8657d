-- Bounds, vectors and plans, over what each rank needs. Assumes nothing.
-- How to read it: up to `Searched` all is about one rank, which needs `need v t` by window t under vector v. From `System` on it is about all ranks,
-- 0 being the highest: R and Q are bounds by rank, V and W are vectors by rank, k is a rank. Nothing here speaks of rows or locks.
use Rattle.std.specs.Prelude.{ℕ, ◌<◌, ◌≤◌, Some, None, Option}

-- window t, from 1 to the deadline, covers what is needed by it under vector v
pub record Covers (need : ℕ → ℕ → ℕ) (deadline vectors v t : ℕ) : Type 0 where
  pub from_one : 1 ≤ t
  pub to_deadline : t ≤ deadline
  pub vector : v < vectors
  pub covered : need v t ≤ t

-- t is the least window that covers under any vector, and v the smallest vector under which it does
pub record LeastCover (need : ℕ → ℕ → ℕ) (deadline vectors t v : ℕ) : Type 0 where
  pub covers : Covers need deadline vectors v t
  pub least : (u w : ℕ) → Covers need deadline vectors w u → t ≤ u
  pub smallest : (w : ℕ) → Covers need deadline vectors w t → v ≤ w

-- no window covers under any vector
abbrev pub NoCover : (ℕ → ℕ → ℕ) → ℕ → ℕ → Type 0
NoCover need deadline vectors = (v t : ℕ) → Covers need deadline vectors v t → ⊥

-- the answer of a search: the least window with the smallest vector at it, or none where no window covers
abbrev pub Searched : (ℕ → ℕ → ℕ) → ℕ → ℕ → Option (ℕ × ℕ) → Type 0
Searched need deadline vectors None = NoCover need deadline vectors
Searched need deadline vectors (Some p) = LeastCover need deadline vectors p.0 p.1

-- Rank 0 is the highest. `need k R v t` is the time that rank k asks for within window t, under vector v and the bounds R.
pub record System : Type 0 where
  pub ranks : ℕ
  pub deadline : ℕ → ℕ
  pub vectors : ℕ → ℕ
  pub need : ℕ → (ℕ → ℕ) → ℕ → ℕ → ℕ

-- window t covers rank k under vector v
abbrev pub Window : System → (ℕ → ℕ) → ℕ → ℕ → ℕ → Type 0
Window s R k v t = Covers (s.need k R) (s.deadline k) (s.vectors k) v t

-- t is the bound of rank k, and v the vector answered with it
abbrev pub Bound : System → (ℕ → ℕ) → ℕ → ℕ → ℕ → Type 0
Bound s R k t v = LeastCover (s.need k R) (s.deadline k) (s.vectors k) t v

-- R and V are the bounds and vectors of the first n ranks, from the top down
abbrev pub Bounds : System → ℕ → (ℕ → ℕ) → (ℕ → ℕ) → Type 0
Bounds s n R V = (k : ℕ) → k < n → Bound s R k (R k) (V k)

-- t is the least window that covers rank k under the one vector v
pub record Fixed (s : System) (R : ℕ → ℕ) (k v t : ℕ) : Type 0 where
  pub covers : Window s R k v t
  pub least : (u : ℕ) → Window s R k v u → t ≤ u

-- Under the plan that chooses vector V k for rank k all rows are in time, with the bounds R. A bound is the least window
-- under the chosen vector, where the ranks above have the bounds of this same plan.
abbrev pub PlanGives : System → (ℕ → ℕ) → (ℕ → ℕ) → Type 0
PlanGives s V R = (k : ℕ) → k < s.ranks → Fixed s R k (V k) (R k)

-- under every plan some row is not in time
abbrev pub NoPlan : System → Type 0
NoPlan s = (V R : ℕ → ℕ) → PlanGives s V R → ⊥

-- rank k is the first late one: those above have bounds, and it has none
pub record FirstLate (s : System) (k : ℕ) : Type 0 where
  pub R : ℕ → ℕ
  pub V : ℕ → ℕ
  pub within : k < s.ranks
  pub above : Bounds s k R V
  pub none : NoCover (s.need k R) (s.deadline k) (s.vectors k)

-- V is a plan with the bounds R, and no plan under which all rows are in time has a smaller bound for any row
pub record BestPlan (s : System) (R V : ℕ → ℕ) : Type 0 where
  pub plan : PlanGives s V R
  pub best : (W Q : ℕ → ℕ) → PlanGives s W Q → (k : ℕ) → k < s.ranks → R k ≤ Q k

-- there is a late row if, and only if, there is no plan under which all rows are in time
pub record LateExactlyWhenNoPlan (s : System) : Type 0 where
  pub late_no_plan : (k : ℕ) → FirstLate s k → NoPlan s
  pub no_plan_late : NoPlan s → (k : ℕ) × FirstLate s k
