-- The kind whose job comes once: what it means, and that it keeps the laws of a kind. Assumes nothing.
-- How to read it: c is the length of the job, as a value of the code has it; `once` is the meaning; `once_lawful` has a line for each law.
use Rattle.std.specs.Prelude.{ℕ, if◌then◌else◌, ◌==◌}
use Rattle.std.proofs.Common.{arith}
use Rattle.demand.specs.declared.TheConstants.{LONGEST}
use Rattle.demand.specs.Demand.{Demand, Lawful}
use Rattle.demand.specs.Basic.{length_of_job}
use Rattle.own_kind.specs.declared.once.Once.{Once}

-- a window of 1 or more has the one job, and an empty window has none
abbrev pub once : ℕ → Demand
once c = record {
  spacing = LONGEST;
  own = length_of_job c;
  least = length_of_job c;
  work = λ w. if w == 0 then 0 else length_of_job c;
}

-- what a value of the code means
abbrev pub once_demand : Once → Demand
once_demand k = once k.job

-- the laws, for all values
pub once_lawful : (c : ℕ) → Lawful (once c)
once_lawful c = record {
  least_positive = omega arith;
  least_within_own = omega arith;
  own_within_cap = omega arith;
  spacing_positive = omega arith;
  spacing_limited = omega arith;
  work_never_falls = λ v w le _. grind arith;
  work_within_cap = λ w _. grind arith;
  work_covers_own = λ w some _. grind arith;
}
