-- That each kind keeps the laws. Assumes nothing.
-- How to read it: a theorem for each kind of Basic.antt and Made.antt, named after it. Behind each law stands its proof.
use Rattle.std.specs.Prelude.{ℕ, ◌+◌, ◌-◌, ◌*◌, ◌<◌, ◌≤◌}
use Rattle.std.proofs.Common.{arith}
use Rattle.std.proofs.lemmas.Nat.{mul-le, le-div}
use Rattle.demand.specs.declared.TheConstants.{LONGEST}
use Rattle.demand.specs.Demand.{Demand, Lawful, window, div_up}
use Rattle.demand.specs.Basic.{every, heavy, one_heavy, length_of_job, length_of_heavy, length_of_pattern, length_of_spacing}
use Rattle.demand.specs.Made.{either_demand, delayed_by, delay_of, longer_by, slowed_by, times_up, numerator_of, denominator_of}
use Rattle.either.specs.declared.Either.{Either}
use Rattle.either.specs.declared.Either.TheVariants.{Left, Right}
use Rattle.demand.specs.Rounding.{up_is, up_never_falls, up_positive}
use Rattle.demand.specs.Runs.{largest_is}

-- for any numbers, since those that are used are in their ranges
pub every_lawful : (c t : ℕ) → Lawful (every c t)
every_lawful c t = record {
  least_positive = omega arith;
  least_within_own = omega arith;
  own_within_cap = omega arith;
  spacing_positive = omega arith;
  spacing_limited = omega arith;
  work_never_falls = λ v w le _.
      let rise = up_never_falls v w (length_of_spacing t) (omega arith) le in
      omega (arith, mul-le (div_up v (length_of_spacing t)) (length_of_job c) (div_up w (length_of_spacing t)) (length_of_job c) rise (omega arith));
  work_within_cap = λ w _. omega arith;
  work_covers_own = λ w some _.
      let jobs = up_positive w (length_of_spacing t) (omega arith) some in
      omega (arith, mul-le 1 (length_of_job c) (div_up w (length_of_spacing t)) (length_of_job c) jobs (omega arith));
}

-- for numbers in their ranges
pub one_heavy_lawful : (c h m t : ℕ) → 1 ≤ c → c ≤ h → h ≤ LONGEST → 0 < m → 1 ≤ t → t ≤ LONGEST → Lawful (one_heavy c h m t)
one_heavy_lawful c h m t c_pos less h_top m_pos t_pos t_top = record {
  least_positive = c_pos;
  least_within_own = less;
  own_within_cap = omega arith;
  spacing_positive = t_pos;
  spacing_limited = t_top;
  work_never_falls = λ v w le _.
      let rise = up_never_falls v w t t_pos le in
      omega (
        arith,
        largest_is c h m less m_pos (div_up v t),
        largest_is c h m less m_pos (div_up w t),
        mul-le (div_up v t) c (div_up w t) c rise (omega arith),
        mul-le (div_up (div_up v t) m) (h - c) (div_up (div_up w t) m) (h - c) (up_never_falls (div_up v t) (div_up w t) m m_pos rise) (omega arith),
      );
  work_within_cap = λ w _. omega arith;
  work_covers_own = λ w some _.
      let jobs = up_positive w t t_pos some in
      omega (
        arith,
        largest_is c h m less m_pos (div_up w t),
        mul-le 1 c (div_up w t) c jobs (omega arith),
        mul-le 1 (h - c) (div_up (div_up w t) m) (h - c) (up_positive (div_up w t) m m_pos jobs) (omega arith),
      );
}

-- for any numbers
pub heavy_lawful : (c h m t : ℕ) → Lawful (heavy c h m t)
heavy_lawful c h m t =
    one_heavy_lawful (length_of_job c) (length_of_heavy c h) (length_of_pattern m) (length_of_spacing t) (omega arith) (omega arith) (omega arith) (omega arith) (omega arith) (omega arith)

-- a larger number times the factor is no smaller
times_up_never_falls : (a b m n : ℕ) → 1 ≤ b → m ≤ n → times_up a b m ≤ times_up a b n
times_up_never_falls a b m n b_pos le =
    omega (arith, up_never_falls (m * a) (n * a) b b_pos (mul-le m a n a le (omega arith)))

-- a kind whose jobs take a / b times as long keeps the laws of the kind, where a / b is at least 1
pub longer_lawful : (a b : ℕ) (d : Demand) → 1 ≤ b → b ≤ a → Lawful d → Lawful (longer_by a b d)
longer_lawful a b d b_pos slower law = record {
  least_positive = omega (arith, le-div 1 (d.least * a) b b_pos (omega (arith, mul-le 1 b d.least a law.least_positive slower)));
  least_within_own = omega (arith, up_is (d.least * a) b b_pos, times_up_never_falls a b d.least d.own b_pos law.least_within_own);
  own_within_cap = omega arith;
  spacing_positive = law.spacing_positive;
  spacing_limited = law.spacing_limited;
  work_never_falls = λ v w le top. times_up_never_falls a b (d.work v) (d.work w) b_pos (law.work_never_falls v w le top);
  work_within_cap = λ w _. omega arith;
  work_covers_own = λ w some top. times_up_never_falls a b d.own (d.work w) b_pos (law.work_covers_own w some top);
}

-- the same for any a and b, since those that are used come to at least 1
pub slowed_lawful : (a b : ℕ) (d : Demand) → Lawful d → Lawful (slowed_by a b d)
slowed_lawful a b d = longer_lawful (numerator_of a b) (denominator_of b) d (omega arith) (omega arith)

-- a kind that comes late keeps the laws of the kind
pub delayed_lawful : (j : ℕ) (d : Demand) → Lawful d → Lawful (delayed_by j d)
delayed_lawful j d law = record {
  least_positive = law.least_positive;
  least_within_own = law.least_within_own;
  own_within_cap = law.own_within_cap;
  spacing_positive = let some = law.spacing_positive in omega arith;
  spacing_limited = let most = law.spacing_limited in omega arith;
  work_never_falls = λ v w le top. law.work_never_falls (window (v + delay_of j d)) (window (w + delay_of j d)) (omega arith) (omega arith);
  work_within_cap = λ w top. law.work_within_cap (window (w + delay_of j d)) (omega arith);
  work_covers_own = λ w some top. law.work_covers_own (window (w + delay_of j d)) (omega arith) (omega arith);
}

-- one kind or the other keeps the laws that both keep
pub either_lawful : {A B : Type 0} (one : A → Demand) (other : B → Demand) → ((a : A) → Lawful (one a)) → ((b : B) → Lawful (other b)) → (k : Either A B) → Lawful (either_demand one other k)
either_lawful one other law_of_one law_of_other (Left a) = law_of_one a
either_lawful one other law_of_one law_of_other (Right b) = law_of_other b
