-- What every run keeps, of the account: bounds and vectors, who is late, ranks. Assumes nothing.
use Rattle.std.proofs.Common.{◌≡◌, ℕ, zero, suc, ◌<◌, if◌then◌else◌, ◌==◌, List, [], ◌∷◌, ◌++◌, length, slice_index_or, Ok, Err, Result, sym, refl, ap, ◌∙◌, not-suc-le-zero, arith}
use native.Mathlib.Decide.{dec_lt}
use Rattle.std.specs.Prelude.{Contains}
use Rattle.std.proofs.lemmas.List.Elements.{All-cons}
use Rattle.demand.specs.Demand.{Lawful}
use Rattle.demand.specs.Refusals.{first}
use Rattle.analysis.specs.declared.Row.{Row}
use Rattle.analysis.specs.Plans.{Bounds}
use Rattle.analysis.specs.Ranks.{Claim, ranking, rows, loads_of, loads, load_at, system_of}
use Rattle.analysis.proofs.Best.{late_no_plan}
use Rattle.analysis.proofs.Order.{highest_first}
use Rattle.analysis.proofs.Ranked.{length_ranked}
use Rattle.table.specs.declared.hold.Hold.{Hold}
use Rattle.table.specs.declared.refusals.HoldRefusal.{HoldRefusal}
use Rattle.table.specs.declared.refusals.BoundRefusal.{BoundRefusal}
use Rattle.table.specs.declared.refusals.BoundRefusal.TheVariants.{NoSuchRow}
use Rattle.table.specs.Account.{Account, number_of, has_number, hold_number, BoundOf, bound_checks, bound_number}
use Rattle.table.specs.Agreement.{Sound, DistinctNumbers}
use Rattle.table.specs.Runs.{Event, holding, keeping, releasing, withdrawing, bounding, Step, after, Run, LateWithoutPlan}
use Rattle.table.proofs.Checks.{is_absent}
use Rattle.table.proofs.Parts.{other_numbers}
use Rattle.table.proofs.Shared.{contains_permuted, number_permuted, numbers_permuted, needs_grow, has_plan}
use Rattle.table.proofs.Unique.{same_bounds, same_vectors}

-- the account after a step is determined
pub step_after : (a b : Account) (e : Event) → Step a e b → b ≡ after a e
step_after a b (holding c (Ok h)) s = s.1.1
step_after a b (holding c (Err e)) s = s.1.1
step_after a b (keeping h (Ok u)) s = s.1
step_after a b (keeping h (Err e)) s = s.2
step_after a b (releasing h (Ok u)) s = s.1
step_after a b (releasing h (Err e)) s = s.2
step_after a b (withdrawing n (Ok u)) s = s.1
step_after a b (withdrawing n (Err e)) s = s.1
step_after a b (bounding n r) s = s.1

-- no call changes the number or the room
pub same_number : (a : Account) (e : Event) → ((after a e).number ≡ a.number) × ((after a e).room ≡ a.room)
same_number a (holding c (Ok h)) = (refl, refl)
same_number a (holding c (Err e)) = (refl, refl)
same_number a (keeping h (Ok u)) = (refl, refl)
same_number a (keeping h (Err e)) = (refl, refl)
same_number a (releasing h (Ok u)) = (refl, refl)
same_number a (releasing h (Err e)) = (refl, refl)
same_number a (withdrawing n (Ok u)) = (refl, refl)
same_number a (withdrawing n (Err e)) = (refl, refl)
same_number a (bounding n r) = (refl, refl)

-- what came before any one call of a run is a run, and that call a step
pub run_before : (start : Account) (later : List Event) (e : Event) (earlier : List Event) → Run start (later ++ e ∷ earlier) → Run start (e ∷ earlier)
run_before start [] e earlier run = run
run_before start (x ∷ later) e earlier run = run_before start later e earlier run.0

-- the row of a rank
claim_at : (all : List Row) (cs : List Claim) (k : ℕ) (d : Claim) → k < length cs → (load_at (loads_of all cs) k).claim ≡ slice_index_or cs k d
claim_at all [] k d l = absurd (not-suc-le-zero l)
claim_at all (c ∷ cs) zero d l = refl
claim_at all (c ∷ cs) (suc k) d l = claim_at all cs k d (omega arith)

-- each row has a rank
pub rank_of_row : (cs : List Claim) (c : Claim) → Contains cs c → (k : ℕ) × (k < length cs) × ((load_at (loads (ranking cs)) k).claim ≡ c)
rank_of_row cs c m =
    let there = contains_permuted c (highest_first cs).reordered m in
    let same_length = length_ranked cs in
    (there.0, omega (arith, there.1), claim_at (rows (ranking cs)) (ranking cs) there.0 c there.1 ∙ there.2)

-- where no two share a number, a number has one rank
same_rank : (all : List Row) (cs : List Claim) → DistinctNumbers cs → (j k : ℕ) → j < length cs → k < length cs → (load_at (loads_of all cs) j).claim.row.number ≡ (load_at (loads_of all cs) k).claim.row.number → j ≡ k
same_rank all cs d j k hj hk e = elim (dec_lt j k) [
  | yes l ↦ absurd (d j k c l hk same_number_there)
  | no l ↦ elim (dec_lt k j) [
    | yes m ↦ absurd (d k j c m hj (sym same_number_there))
    | no m ↦ omega arith
  ]
]
  where
    c : Claim
    c = (load_at (loads_of all cs) j).claim

    same_number_there : number_of (slice_index_or cs j c) ≡ number_of (slice_index_or cs k c)
    same_number_there = sym (ap number_of (claim_at all cs j c hj)) ∙ e ∙ ap number_of (claim_at all cs k c hk)

pub is_late : (e : HoldRefusal) → (if hold_number e == 11 then 0 else hold_number e) ≡ 0 → hold_number e ≡ 11
is_late e q = grind arith

module _ (a : Account) (s : Sound a) where
  -- bound and vector of a row are determined
  pub bound_once : (R V : ℕ → ℕ) → Bounds (system_of a.rows) (length a.rows) R V → (k : ℕ) → k < length a.rows → (p : ℕ × ℕ) → BoundOf a.rows (load_at (loads (ranking a.rows)) k).claim.row.number p.0 p.1 → (p.0 ≡ R k) × (p.1 ≡ V k)
  bound_once R V bounds k h p b =
      let few = length_ranked a.rows in
      let within = b.within in
      let rank : b.rank ≡ k = same_rank (rows (ranking a.rows)) (ranking a.rows) (numbers_permuted (highest_first a.rows).reordered s.numbers) b.rank k (omega arith) (omega arith) b.number in
      let grow = needs_grow a.rows s.lawful in (
        b.bound ∙ ap b.R rank ∙ same_bounds (system_of a.rows) grow (length a.rows) b.R b.V R V b.bounds bounds k h,
        b.vector ∙ ap b.V rank ∙ same_vectors (system_of a.rows) grow (length a.rows) b.R b.V R V b.bounds bounds k h,
      )

  -- and a row that has a rank is there
  pub bound_given : (k : ℕ) → k < length a.rows → (e : BoundRefusal) → first (bound_checks a (load_at (loads (ranking a.rows)) k).claim.row.number) ≡ bound_number e → ⊥
  bound_given k h NoSuchRow b =
      let few = length_ranked a.rows in
      let n : ℕ = (load_at (loads (ranking a.rows)) k).claim.row.number in
      let c : Claim = (load_at (loads (ranking a.rows)) k).claim in
      other_numbers n (ranking a.rows) (sym (number_permuted n (highest_first a.rows).reordered) ∙ is_absent (has_number n a.rows) b) k c (omega arith)
      (ap number_of (claim_at (rows (ranking a.rows)) (ranking a.rows) k c (omega arith)))

  pub late_only : (c : Claim) (r : Result Hold HoldRefusal) (b : Account) → Step a (holding c r) b → LateWithoutPlan a c r
  late_only c (Ok h) b step passes =
      (λ x. absurd (omega arith), λ no_plan. absurd (has_plan (c ∷ a.rows) (All-cons (λ d. Lawful d.demand) c a.rows step.0 s.lawful) step.1.0.in_time no_plan))
  late_only c (Err d) b step passes = (
    λ x.
        let late = step.1.0.late x in
        late_no_plan (system_of (c ∷ a.rows)) (needs_grow (c ∷ a.rows) (All-cons (λ d. Lawful d.demand) c a.rows step.0 s.lawful)) late.0 late.1,
    λ no_plan. is_late d (sym step.1.0.by_number ∙ passes),
  )
