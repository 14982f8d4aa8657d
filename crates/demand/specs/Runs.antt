-- The largest total of consecutive jobs, one of each m of them heavy. Assumes nothing.
-- How to read it: c, h and m are as in Basic.antt, where c is at most h and m is not 0. `largest_is` at the end is the theorem, and what stands
-- before it leads there.
use Rattle.std.specs.Prelude.{◌≡◌, ℕ, zero, suc, ◌+◌, ◌-◌, ◌*◌, ◌%◌, ◌<◌, ◌≤◌, ◌==◌, ◌≢◌}
use Rattle.std.proofs.Math.Path.{ap}
use Rattle.std.proofs.Math.Logic.{⊎_elim}
use Rattle.std.proofs.Math.Nat.{add-mul}
use Rattle.std.proofs.Common.{add-zero, zero-add, arith}
use Rattle.std.proofs.lemmas.Nat.{mul-le}
use Rattle.std.proofs.lemmas.Bool.{cases_eq, cond-true, cond-false, eq-eqb, ne_eqb}
use Rattle.demand.specs.Demand.{div_up}
use Rattle.demand.specs.Basic.{job_number, total, largest_before, largest_total, from_heavy}
use Rattle.demand.specs.Rounding.{up_least, up_next_exact, up_next_more, up_of_sum}

module _ (c h m : ℕ) (less : c ≤ h) (pos : 0 < m) where
  -- the heavy jobs before number j, each at what it takes beyond another
  beyond : ℕ → ℕ
  beyond j = div_up j m * (h - c)

  -- a job, by the heavy jobs before it and before the next
  job_is : (j : ℕ) → job_number c h m j + beyond j ≡ c + beyond (j + 1)
  unfolding beyond
  job_is j =
      let heavy_one : j % m ≡ 0 → job_number c h m j ≡ h = λ none. cond-true (j % m == 0) h c (eq-eqb (j % m) 0 none) in
      let other_one : (j % m ≢ 0) → job_number c h m j ≡ c = λ some. cond-false (j % m == 0) h c (ne_eqb (j % m) 0 some) in
      ⊎_elim
      (λ none. omega (arith, heavy_one none, ap (λ n. n * (h - c)) (up_next_exact j m pos none), add-mul (div_up j m) 1 (h - c)))
      (λ some. omega (arith, other_one some, ap (λ n. n * (h - c)) (up_next_more j m pos some)))
      (cases_eq (j % m) 0)

  -- a run's total, by the heavy jobs before its end and before its start
  total_is : (p n : ℕ) → total c h m p n + beyond p ≡ n * c + beyond (p + n)
  total_is p zero = omega (arith, ap beyond (add-zero p))
  total_is p (suc n) =
      let next : p + suc n ≡ p + n + 1 = omega arith in
      omega (arith, total_is p n, job_is (p + n), ap beyond next, add-mul n 1 c)

  -- the run that begins with a heavy job
  from_start : (n : ℕ) → total c h m 0 n ≡ from_heavy c h m n
  unfolding beyond
  from_start n =
      let none : div_up 0 m ≡ 0 = omega (arith, up_least 0 m 0 pos (omega arith)) in
      omega (arith, total_is 0 n, ap (λ k. k * (h - c)) none, ap beyond (zero-add n))

  -- no run of as many jobs has a larger total
  none_larger : (p n : ℕ) → total c h m p n ≤ from_heavy c h m n
  unfolding beyond
  none_larger p n =
      let less_heavy = mul-le (div_up (p + n) m) (h - c) (div_up p m + div_up n m) (h - c) (up_of_sum p n m pos) (omega arith) in
      omega (arith, total_is p n, add-mul (div_up p m) (div_up n m) (h - c), less_heavy)

  -- so the largest is at most that total
  bounded : (q n : ℕ) → largest_before c h m n q ≤ from_heavy c h m n
  bounded zero n = omega arith
  bounded (suc q) n = omega (arith, bounded q n, none_larger q n)

  -- and at least that, since this run is among those that are compared
  reached : (q n : ℕ) → 0 < q → from_heavy c h m n ≤ largest_before c h m n q
  reached zero n some = omega arith
  reached (suc zero) n some = omega (arith, from_start n)
  reached (suc (suc q)) n some = omega (arith, reached (suc q) n (omega arith))

  -- the run from a heavy job on is the largest
  pub largest_is : (n : ℕ) → from_heavy c h m n ≡ largest_total c h m n
  largest_is n = omega (arith, bounded m n, reached m n pos)
