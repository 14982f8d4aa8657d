-- What a kind of demand means, and the laws that every kind keeps. Assumes nothing.
-- How to read it: numbers that are cut to a range come first; then `Demand`, which is what a kind means, and `Lawful`, which is the laws.
use Rattle.std.specs.Prelude.{ℕ, ◌+◌, ◌-◌, ◌/◌, ◌≤◌, min, max}
use Rattle.demand.specs.declared.TheConstants.{CAP, LONGEST}

-- the largest window
abbrev pub widest : ℕ
widest = 4_294_967_295

-- a job or some work above the largest that is ever answered is answered as that
abbrev pub up_to_cap : ℕ → ℕ
up_to_cap n = min n CAP

-- a window beyond the largest counts as the largest
abbrev pub window : ℕ → ℕ
window w = min w widest

-- a number outside a range counts as the nearest in it
abbrev pub nearest_in : ℕ → ℕ → ℕ → ℕ
nearest_in low high n = min (max n low) high

-- n / d rounded up, for d of 1 or more
abbrev pub div_up : ℕ → ℕ → ℕ
div_up n d = (n + (d - 1)) / d

-- What the jobs of a task can ask of the processor: the least time from one job to the next, the longest job,
-- the shortest job, and the most work that falls into a window.
pub record Demand : Type 0 where
  pub spacing : ℕ
  pub own : ℕ
  pub least : ℕ
  pub work : ℕ → ℕ

-- what holds of every kind; windows beyond the largest are never asked about
pub record Lawful (d : Demand) : Type 0 where
  pub least_positive : 1 ≤ d.least
  pub least_within_own : d.least ≤ d.own
  pub own_within_cap : d.own ≤ CAP
  pub spacing_positive : 1 ≤ d.spacing
  pub spacing_limited : d.spacing ≤ LONGEST
  pub work_never_falls : (v w : ℕ) → v ≤ w → w ≤ widest → d.work v ≤ d.work w
  pub work_within_cap : (w : ℕ) → w ≤ widest → d.work w ≤ CAP
  pub work_covers_own : (w : ℕ) → 1 ≤ w → w ≤ widest → d.own ≤ d.work w
