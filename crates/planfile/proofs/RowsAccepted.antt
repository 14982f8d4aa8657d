-- Rows that are in time together are accepted one by one. Assumes nothing.
use Rattle.std.proofs.Common.{◌≡◌, ◌+◌, ◌≤◌, List, [], ◌∷◌, length, sym, refl, ◌∙◌, arith}
use Rattle.std.proofs.Common.{not-suc-le-zero, ◌≢◌}
use Rattle.std.proofs.lemmas.List.Elements.{All-nil, All-cons}
use Rattle.std.proofs.lemmas.List.Kept.{AllPairs-cons}
use Rattle.demand.specs.Demand.{Lawful}
use Rattle.demand.specs.Basic.{every_demand, heavy_demand}
use Rattle.demand.specs.Made.{delayed_by}
use Rattle.demand.specs.Refusals.{first}
use Rattle.demand.specs.Laws.{every_lawful, heavy_lawful, either_lawful, delayed_lawful, slowed_lawful}
use Rattle.analysis.specs.Ranks.{Claim, DistinctPriorities, system_of}
use Rattle.analysis.specs.Removal.{SomeOf, none, keep, leave}
use Rattle.analysis.proofs.Best.{late_no_plan}
use Rattle.analysis.proofs.Removal.{removal_keeps_in_time}
use Rattle.table.specs.declared.refusals.HoldRefusal.{HoldRefusal}
use Rattle.table.specs.Account.{AllInTime, Refused, hold_checks}
use Rattle.table.specs.Agreement.{LawfulRows}
use Rattle.table.proofs.Promise.{is_late}
use Rattle.analysis.proofs.Order.{lawful_ranking}
use Rattle.table.proofs.Shared.{needs_grow, has_plan, passed}
use Rattle.demand.specs.declared.factor.Factor.{Factor}
use Rattle.planfile.specs.Checks.{Jobs, Entry, jobs_demand, claim_of}
use Rattle.planfile.specs.Reading.{account_with}
use Rattle.planfile.specs.Laws.{claims_onto, NumbersPass}

jobs_lawful : (jobs : Jobs) → Lawful (jobs_demand jobs)
jobs_lawful = either_lawful every_demand heavy_demand (λ k. every_lawful k.job k.period) (λ k. heavy_lawful k.job k.heavy k.among k.period)

pub claim_lawful : (clock : Factor) (e : Entry) → Lawful (claim_of clock e).demand
claim_lawful clock e =
    slowed_lawful clock.numerator clock.denominator (delayed_by e.delay (jobs_demand e.jobs)) (delayed_lawful e.delay (jobs_demand e.jobs) (jobs_lawful e.jobs))

-- a lawful row before lawful rows
pub lawful_before : (c : Claim) (rows : List Claim) → Lawful c.demand → LawfulRows rows → LawfulRows (c ∷ rows)
lawful_before = All-cons (λ c. Lawful c.demand)

pub none_lawful : LawfulRows []
none_lawful = All-nil (λ c. Lawful c.demand)

-- a row that passes all checks has a new priority
distinct_before : (rows : List Claim) (c : Claim) → first (hold_checks (account_with rows) c) ≡ 0 → DistinctPriorities rows → DistinctPriorities (c ∷ rows)
distinct_before rows c pass more = AllPairs-cons (λ c d. c.row.priority ≢ d.row.priority) c rows (passed (account_with rows) c pass).priority more

pub none_distinct : DistinctPriorities []
none_distinct = λ i j d l m. absurd (not-suc-le-zero m)

-- rows that were there before entries are among all
some_onto : (clock : Factor) (xs rows : List Claim) (es : List Entry) → SomeOf ◌≡◌ xs rows → SomeOf ◌≡◌ xs (claims_onto clock rows es)
some_onto clock xs rows [] s = s
some_onto clock xs rows (e ∷ es) s = some_onto clock xs (claim_of clock e ∷ rows) es (leave s)

all_of : (xs : List Claim) → SomeOf ◌≡◌ xs xs
all_of [] = none
all_of (x ∷ xs) = keep refl (all_of xs)

-- the kinds of entries are lawful
pub lawful_onto : (clock : Factor) (rows : List Claim) (es : List Entry) → LawfulRows rows → LawfulRows (claims_onto clock rows es)
lawful_onto clock rows [] h = h
lawful_onto clock rows (e ∷ es) h = lawful_onto clock (claim_of clock e ∷ rows) es (lawful_before (claim_of clock e) rows (claim_lawful clock e) h)

-- entries that pass have new priorities
distinct_onto : (clock : Factor) (rows : List Claim) (es : List Entry) → NumbersPass clock rows es → DistinctPriorities rows → DistinctPriorities (claims_onto clock rows es)
distinct_onto clock rows [] pass d = d
distinct_onto clock rows (e ∷ es) pass d =
    distinct_onto clock (claim_of clock e ∷ rows) es pass.3 (distinct_before rows (claim_of clock e) pass.2 d)

-- there are no more entries than a table has places
pub few_entries : (clock : Factor) (rows : List Claim) (es : List Entry) → NumbersPass clock rows es → length rows ≤ 12 → length es + length rows ≤ 12
few_entries clock rows [] pass few = omega arith
few_entries clock rows (e ∷ es) pass few =
    let room = (passed (account_with rows) (claim_of clock e) pass.2).room in
    let rest = few_entries clock (claim_of clock e ∷ rows) es pass.3 (omega arith) in
    omega arith

-- entries that pass behind rows, where all are in time together
pub record SoundBehind (clock : Factor) (rows : List Claim) (es : List Entry) : Type 0 where
  pub numbers : NumbersPass clock rows es
  pub distinct : DistinctPriorities rows
  pub lawful : LawfulRows rows
  pub in_time : AllInTime (claims_onto clock rows es)

-- the first entry goes to the rows
pub sound_more : (clock : Factor) (rows : List Claim) (e : Entry) (es : List Entry) → SoundBehind clock rows (e ∷ es) → SoundBehind clock (claim_of clock e ∷ rows) es
sound_more clock rows e es s =
    record {
      numbers = s.numbers.3;
      distinct = distinct_before rows (claim_of clock e) s.numbers.2 s.distinct;
      lawful = lawful_before (claim_of clock e) rows (claim_lawful clock e) s.lawful;
      in_time = s.in_time;
    }

-- the rows before the entries are in time without them
rows_in_time : (clock : Factor) (rows : List Claim) (es : List Entry) → SoundBehind clock rows es → AllInTime rows
rows_in_time clock rows es s =
    let all : List Claim = claims_onto clock rows es in
    let t = s.in_time in
    let left = removal_keeps_in_time all (lawful_ranking all (lawful_onto clock rows es s.lawful)) t.R t.V t.bounds (distinct_onto clock rows es s.numbers s.distinct) rows (some_onto clock rows rows es (all_of rows)) in
    record { R = left.Q; V = left.W; bounds = left.bounds }

-- a row that passes all checks, and is in time with the others, is not refused
pub not_refused : (rows : List Claim) (c : Claim) → LawfulRows (c ∷ rows) → first (hold_checks (account_with rows) c) ≡ 0 → AllInTime (c ∷ rows) → (r : HoldRefusal) → Refused (account_with rows) c r → ⊥
not_refused rows c lawful pass t r refused =
    let late = refused.late (is_late r (sym refused.by_number ∙ pass)) in
    has_plan (c ∷ rows) lawful t (late_no_plan (system_of (c ∷ rows)) (needs_grow (c ∷ rows) lawful) late.0 late.1)

-- so the first entry is not
pub entry_not_refused : (clock : Factor) (rows : List Claim) (e : Entry) (es : List Entry) → SoundBehind clock rows (e ∷ es) → (r : HoldRefusal) → Refused (account_with rows) (claim_of clock e) r → ⊥
entry_not_refused clock rows e es s =
    let more = sound_more clock rows e es s in
    not_refused rows (claim_of clock e) more.lawful s.numbers.2 (rows_in_time clock (claim_of clock e ∷ rows) es more)
