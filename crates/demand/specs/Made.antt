-- The kinds that are made of other kinds. Assumes nothing.
-- How to read it: d is what the kind below means, j the delay, a / b the factor. What ends in `_demand` is the same of a value of the code, and
-- is given what values of the kinds below mean.
use Rattle.std.specs.Prelude.{ℕ, ◌+◌, ◌-◌, ◌*◌, ◌/◌, min, max}
use Rattle.demand.specs.declared.TheConstants.{LARGEST_PART}
use Rattle.demand.specs.Demand.{Demand, up_to_cap, window, nearest_in, div_up}
use Rattle.demand.specs.declared.delayed.Delayed.{Delayed}
use Rattle.either.specs.declared.Either.{Either}
use Rattle.either.specs.declared.Either.TheVariants.{Left, Right}
use Rattle.demand.specs.declared.slowed.Slowed.{Slowed}

-- the one kind or the other means what the kind that it holds means
abbrev pub either_demand : {A B : Type 0} → (A → Demand) → (B → Demand) → Either A B → Demand
either_demand one other (Left a) = one a
either_demand one other (Right b) = other b

-- a delay counts as at most the spacing less 1
abbrev pub delay_of : ℕ → Demand → ℕ
delay_of j d = min j (d.spacing - 1)

-- each job may come late by up to J: two can be closer by J, and a window can have the jobs of one wider by J
abbrev pub delayed_by : ℕ → Demand → Demand
delayed_by j d = record {
  spacing = d.spacing - delay_of j d;
  own = d.own;
  least = d.least;
  work = λ w. d.work (window (w + delay_of j d));
}

-- what a value of the code means, over what its kind means
abbrev pub delayed_demand : {K : Type 0} → (K → Demand) → Delayed K → Demand
delayed_demand below k = delayed_by k.delay (below k.kind)

-- the b of a factor a / b counts as the nearest in its range
abbrev pub denominator_of : ℕ → ℕ
denominator_of = nearest_in 1 LARGEST_PART

-- the a of a factor a / b counts as the nearest in its range, and as at least b
abbrev pub numerator_of : ℕ → ℕ → ℕ
numerator_of a b = max (nearest_in 1 LARGEST_PART a) (denominator_of b)

-- n times a / b, rounded up
abbrev pub times_up : ℕ → ℕ → ℕ → ℕ
times_up a b n = up_to_cap (div_up (n * a) b)

-- n times a / b, rounded down
abbrev pub times_down : ℕ → ℕ → ℕ → ℕ
times_down a b n = up_to_cap (n * a / b)

-- each job takes a / b times as long
abbrev pub longer_by : ℕ → ℕ → Demand → Demand
longer_by a b d = record {
  spacing = d.spacing;
  own = times_up a b d.own;
  least = times_down a b d.least;
  work = λ w. times_up a b (d.work w);
}

-- the same at any factor, its parts counting as ones in their range
abbrev pub slowed_by : ℕ → ℕ → Demand → Demand
slowed_by a b = longer_by (numerator_of a b) (denominator_of b)

-- what a value of the code means, over what its kind means
abbrev pub slowed_demand : {K : Type 0} → (K → Demand) → Slowed K → Demand
slowed_demand below k = slowed_by k.factor.numerator k.factor.denominator (below k.kind)
