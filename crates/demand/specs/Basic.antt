-- The kinds that are given by numbers alone. Assumes nothing.
-- How to read it: c is the length of a job and h that of a heavy one, m how many jobs in a row have one heavy job among them, t the spacing.
-- The numbers may be any; `one_heavy` alone is for numbers in their ranges. What ends in `_demand` is the same of a value of the code.
use Rattle.std.specs.Prelude.{ℕ, zero, suc, ◌+◌, ◌-◌, ◌*◌, ◌%◌, max, if◌then◌else◌, ◌==◌}
use Rattle.demand.specs.declared.TheConstants.{FEWEST_AMONG, LONGEST, MOST_AMONG}
use Rattle.demand.specs.Demand.{Demand, up_to_cap, nearest_in, div_up}
use Rattle.demand.specs.declared.every.Every.{Every}
use Rattle.demand.specs.declared.heavy.Heavy.{Heavy}

-- a job's length out of range counts as the nearest in it
abbrev pub length_of_job : ℕ → ℕ
length_of_job = nearest_in 1 LONGEST

-- a spacing out of range counts as the nearest in it
abbrev pub length_of_spacing : ℕ → ℕ
length_of_spacing = nearest_in 1 LONGEST

-- a heavy job counts as at least as long as another
abbrev pub length_of_heavy : ℕ → ℕ → ℕ
length_of_heavy c h = max (length_of_job h) (length_of_job c)

-- how many consecutive jobs have one heavy job among them; a number out of range counts as the nearest in it
abbrev pub length_of_pattern : ℕ → ℕ
length_of_pattern = nearest_in FEWEST_AMONG MOST_AMONG

-- every job takes C, and jobs are T apart
abbrev pub every : ℕ → ℕ → Demand
every c t = record {
  spacing = length_of_spacing t;
  own = length_of_job c;
  least = length_of_job c;
  work = λ w. up_to_cap (div_up w (length_of_spacing t) * length_of_job c);
}

-- what a value of the code means
abbrev pub every_demand : Every → Demand
every_demand k = every k.job k.period

-- job number j takes H where j is a multiple of m, and C elsewhere
abbrev pub job_number : ℕ → ℕ → ℕ → ℕ → ℕ
job_number c h m j = if j % m == 0 then h else c

-- the total of the n consecutive jobs from number p on
abbrev pub total : ℕ → ℕ → ℕ → ℕ → ℕ → ℕ
total c h m p zero = 0
total c h m p (suc n) = total c h m p n + job_number c h m (p + n)

-- the largest total of n consecutive jobs that begin at one of the first q numbers
abbrev pub largest_before : ℕ → ℕ → ℕ → ℕ → ℕ → ℕ
largest_before c h m n zero = 0
largest_before c h m n (suc q) = max (largest_before c h m n q) (total c h m q n)

-- the largest total of n consecutive jobs: at any place of the pattern, which repeats after m jobs
abbrev pub largest_total : ℕ → ℕ → ℕ → ℕ → ℕ
largest_total c h m n = largest_before c h m n m

-- the total of n consecutive jobs that begin with a heavy one: C for each, and H - C more for each heavy one
abbrev pub from_heavy : ℕ → ℕ → ℕ → ℕ → ℕ
from_heavy c h m n = n * c + div_up n m * (h - c)

-- in every stretch of m jobs there is one of length H among jobs of length C, and jobs are T apart
abbrev pub one_heavy : ℕ → ℕ → ℕ → ℕ → Demand
one_heavy c h m t = record {
  spacing = t;
  own = h;
  least = c;
  work = λ w. up_to_cap (largest_total c h m (div_up w t));
}

-- the same at any numbers, each counting as the nearest in its range
abbrev pub heavy : ℕ → ℕ → ℕ → ℕ → Demand
heavy c h m t = one_heavy (length_of_job c) (length_of_heavy c h) (length_of_pattern m) (length_of_spacing t)

-- what a value of the code means
abbrev pub heavy_demand : Heavy → Demand
heavy_demand k = heavy k.job k.heavy k.among k.period
