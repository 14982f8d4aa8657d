-- What a table has been through, and what is then true of it. Assumes nothing.
use Rattle.std.proofs.Common.{◌≡◌, ℕ, zero, suc, ◌<◌, min, true, false, List, [], ◌∷◌, ◌++◌, length, slice_index_or, take, Some, None, Ok, Err, Option, Result, ◌==◌, sym, refl, ap, ◌∙◌, subst, inl, inr, ◌⊎◌, arith, eqb-true, not-suc-le-zero}
use mathlib.Core.Path.{ap₂}
use Rattle.std.proofs.Math.Logic.{∥∥₁_elim, ∥∥₁_map, ∥∥₁_prop}
use Rattle.std.specs.Prelude.{◌↔◌, ◌≢◌, Contains}
use Rattle.std.proofs.lemmas.List.Folds.{Any-from_list_any, list_any_at}
use Rattle.std.specs.Coded.{Coded-set, coded_ℕ}
use Rattle.std.proofs.lemmas.Bool.Decides.{nat_tests}
use Rattle.std.proofs.lemmas.Bool.{and_parts, cases_Bool, eq-eqb}
use Rattle.std.proofs.lemmas.List.{get_or-take, length-take}
use Rattle.demand.specs.Demand.{Demand}
use Rattle.analysis.specs.declared.Answer.{Answer}
use Rattle.analysis.specs.declared.Task.{Task}
use Rattle.analysis.specs.Candidates.{claims_of}
use Rattle.analysis.specs.Judge.{Answered, bounds_of, vectors_of}
use Rattle.analysis.specs.Plans.{Bounds, BestPlan}
use Rattle.analysis.specs.Ranks.{Claim, ranking, loads, load_at, system, system_of}
use Rattle.analysis.proofs.AnyOrder.{any_order}
use Rattle.analysis.proofs.Best.{best_plan}
use Rattle.table.specs.declared.refusals.BoundRefusal.{BoundRefusal}
use Rattle.table.specs.declared.hold.Hold.{Hold}
use Rattle.table.specs.declared.refusals.HoldRefusal.{HoldRefusal}
use Rattle.table.specs.declared.state.State.{State}
use Rattle.table.specs.declared.state.State.TheVariants.{Free, Held, Kept}
use Rattle.table.specs.declared.Table.{Table}
use Rattle.table.specs.Account.{Account, Bears, BoundOf, BoundsAnswered, bears, fresh_account, has_number, number_of, has_unspent}
use Rattle.table.specs.Agreement.{AgreesWith, DistinctNumbers, Sound, StandsAt}
use Rattle.table.specs.History.{History, HasHistory, HasSomeHistory, Continues, EveryHistory, HasRank, JustBound, Promise, RowAt, StandsHeld, account_of, fresh_of, rows_at}
use Rattle.table.specs.Runs.{Event, holding, bounding, LateWithoutPlan, Run, Stands, Step, Unspent, after, after_all}
use Rattle.table.proofs.Kept.{sound as sound_after}
use Rattle.table.proofs.Lookups.{task_at}
use Rattle.table.proofs.Members.{standing, held_unspent}
use Rattle.analysis.proofs.Reordered.{pairs_head, pairs_tail}
use Rattle.table.proofs.Parts.{first_or_later, is_first, is_later, no_number, unspent_row}
use Rattle.table.proofs.Promise.{bound_given, bound_once, late_only, rank_of_row, run_before, same_number, step_after}
use Rattle.table.proofs.Shared.{all_ranks, contains_permuted, length_ranks, length_permuted, needs_grow, none_named_at, number_permuted, numbers_permuted, permuted_back}
use Rattle.table.proofs.Spending.{is_held_there}

-- a call that turns each account that agrees with t into one that agrees with u continues each history of t
pub continues : {K : Type 0} (demand : K → Demand) (t u : Table K) (e : Event) → ((a : Account) → AgreesWith demand a t → (b : Account) × Step a e b × AgreesWith demand b u) → Continues demand e t u
continues demand t u e turns es known = ∥∥₁_map known (λ k.
    let a : Account = account_of es t in
    let p = turns a k.agrees in
    let is : p.0 ≡ after a e = step_after a p.0 e p.1 in
    let number : t.number ≡ u.number = sym k.agrees.number_is ∙ sym (same_number a e).0 ∙ sym (ap (λ (b : Account). b.number) is) ∙ p.2.number_is in
    let room : min (length t.places.now) 12 ≡ min (length u.places.now) 12 = sym k.agrees.room_is ∙ sym (same_number a e).1 ∙ sym (ap (λ (b : Account). b.room) is) ∙ p.2.room_is in
    let start : fresh_of t ≡ fresh_of u = ap₂ fresh_account number room in
    record {
      answered = subst (λ s. Run s (e ∷ es)) start (k.answered, subst (λ b. Step a e b) is p.1);
      agrees = subst (λ s. AgreesWith demand (after_all s (e ∷ es)) u) start (subst (λ b. AgreesWith demand b u) is p.2);
    })

-- so a table that has been through some calls goes on with this one
pub goes_on : {K : Type 0} (demand : K → Demand) (t u : Table K) (e : Event) → Continues demand e t u → HasSomeHistory demand t → HasSomeHistory demand u
goes_on demand t u e f known = ∥∥₁_elim known ∥∥₁_prop (λ k. ∥∥₁_map (f k.0 ∣ k.1 ∣₁) (λ h. (e ∷ k.0, h)))

-- a question for a bound
pub asked : {K : Type 0} (demand : K → Demand) (t : Table K) (n : ℕ) (r : Result (ℕ × ℕ) BoundRefusal) → ((a : Account) → AgreesWith demand a t → BoundsAnswered a n r) → Continues demand (bounding n r) t t
asked demand t n r answered = continues demand t t (bounding n r) (λ a agrees. (a, (answered a agrees, refl), agrees))

-- a table that was just made
pub fresh_history : {K : Type 0} (demand : K → Demand) (t : Table K) (n : ℕ) → length t.places.now ≡ n → AgreesWith demand (fresh_account t.number (min n 12)) t → HasHistory demand [] t
fresh_history demand t n count agrees = ∣ record { answered = tt; agrees = subst (λ m. AgreesWith demand (fresh_account t.number (min m 12)) t) (sym count) agrees } ∣₁

-- an unspent hold is among the holds, and one that is among them is unspent
unspent_among : (table n : ℕ) (hs : List Bears) → has_unspent table n hs ≡ true → Contains hs (record { table = table; row = n })
unspent_among table n hs e =
    let found = Any-from_list_any (bears table n) hs e in
    let h : Bears = found.1 in
    let both = and_parts (h.table == table) (h.row == n) found.4 in
    subst (Contains hs) (ap₂ bears_of (eqb-true h.table table both.0) (eqb-true h.row n both.1)) (found.0, found.2, found.3)
  where
    bears_of : ℕ → ℕ → Bears
    bears_of t r = record { table = t; row = r }

among_unspent : (table n : ℕ) (hs : List Bears) → Contains hs (record { table = table; row = n }) → has_unspent table n hs ≡ true
among_unspent table n hs m = list_any_at (bears table n) hs m.0 (record { table = table; row = n }) m.1 (rw m.2 (grind (arith, nat_tests)))

module _ {K : Type 0} (demand : K → Demand) where
  abbrev claim : Task K → Claim
  claim u = record { row = u.row; demand = demand u.kind }

  -- a task at a place is one of the rows
  among_claims : (os : List (Option (Task K))) (p : ℕ) (u : Task K) → slice_index_or os p None ≡ Some u → Contains (claims_of demand os) (claim u)
  among_claims [] p u e = cc
  among_claims (None ∷ os) zero u e = cc
  among_claims (Some x ∷ os) zero u e = is_first (claims_of demand os) (ap claim (let same : x ≡ u = cc in same))
  among_claims (None ∷ os) (suc p) u e = among_claims os p u e
  among_claims (Some x ∷ os) (suc p) u e = is_later (claim x) (claims_of demand os) (among_claims os p u e)

  -- a row is the task at a place
  record Found (os : List (Option (Task K))) (P : Task K → Type 0) : Type 0 where
    place : ℕ
    within : place < length os
    task : Task K
    there : slice_index_or os place None ≡ Some task
    holds : P task

  behind : (o : Option (Task K)) (os : List (Option (Task K))) (P : Task K → Type 0) → Found os P → Found (o ∷ os) P
  behind o os P f = record { place = suc f.place; within = let l = f.within in omega arith; task = f.task; there = f.there; holds = f.holds }

  claim_found : (os : List (Option (Task K))) (c : Claim) → Contains (claims_of demand os) c → Found os (λ u. c ≡ claim u)
  claim_found [] c m = absurd (not-suc-le-zero m.1)
  claim_found (None ∷ os) c m = behind None os (λ u. c ≡ claim u) (claim_found os c m)
  claim_found (Some x ∷ os) c m = elim (first_or_later (claim x) (claims_of demand os) m) [
    | inl e ↦ record { place = 0; within = omega arith; task = x; there = refl; holds = sym e }
    | inr later ↦ behind (Some x) os (λ u. c ≡ claim u) (claim_found os c later)
  ]

  number_found : (os : List (Option (Task K))) (n : ℕ) → has_number n (claims_of demand os) ≡ true → Found os (λ u. u.row.number ≡ n)
  number_found [] n e = cc
  number_found (None ∷ os) n e = behind None os (λ u. u.row.number ≡ n) (number_found os n e)
  number_found (Some x ∷ os) n e = elim (cases_Bool (x.row.number == n)) [
    | inl here ↦ record { place = 0; within = omega arith; task = x; there = refl; holds = eqb-true x.row.number n here }
    | inr other ↦ behind (Some x) os (λ u. u.row.number ≡ n) (number_found os n (rw other at e))
  ]

  -- where no two rows share a number, a number has one place
  alone : (x : Task K) (os : List (Option (Task K))) → DistinctNumbers (claims_of demand (Some x ∷ os)) → has_number x.row.number (claims_of demand os) ≡ false
  alone x os d = no_number x.row.number (claims_of demand os) (pairs_head (λ c d. number_of c ≢ number_of d) (claim x) (claims_of demand os) d)

  one_place : (os : List (Option (Task K))) → DistinctNumbers (claims_of demand os) → (p q : ℕ) (u v : Task K) → slice_index_or os p None ≡ Some u → slice_index_or os q None ≡ Some v → u.row.number ≡ v.row.number → p ≡ q
  one_place [] d p q u v e f same = cc
  one_place (None ∷ os) d zero q u v e f same = cc
  one_place (None ∷ os) d (suc p) zero u v e f same = cc
  one_place (None ∷ os) d (suc p) (suc q) u v e f same = ap suc (one_place os d p q u v e f same)
  one_place (Some x ∷ os) d zero zero u v e f same = refl
  one_place (Some x ∷ os) d zero (suc q) u v e f same =
      let is : x ≡ u = cc in
      absurd (none_named_at demand x.row.number os q v (alone x os d) f (sym same ∙ sym (ap (λ (t : Task K). t.row.number) is)))
  one_place (Some x ∷ os) d (suc p) zero u v e f same =
      let is : x ≡ v = cc in
      absurd (none_named_at demand x.row.number os p u (alone x os d) e (same ∙ sym (ap (λ (t : Task K). t.row.number) is)))
  one_place (Some x ∷ os) d (suc p) (suc q) u v e f same = ap suc (one_place os (pairs_tail (λ c d. number_of c ≢ number_of d) (claim x) (claims_of demand os) d) p q u v e f same)

-- a row at a place is held while its hold is unspent, else kept
module _ {K : Type 0} (a : Account) (u : Task K) where
  held_or_kept : (s : State) → StandsAt a s (Some u) → (s ≡ Held u.row.number) ⊎ (s ≡ Kept u.row.number)
  held_or_kept Free s = absurd s
  held_or_kept (Held n) s = inl (ap Held s.0)
  held_or_kept (Kept n) s = inr (ap Kept s.0)

  held_unspent_there : (n : ℕ) (s : State) → s ≡ Held n → StandsAt a s (Some u) → has_unspent a.number n a.holds ≡ true
  held_unspent_there n Free e s = absurd s
  held_unspent_there n (Held m) e s = let same : m ≡ n = cc in subst (λ k. has_unspent a.number k a.holds ≡ true) same s.1
  held_unspent_there n (Kept m) e s = cc

module _ {K : Type 0} (demand : K → Demand) (es : List Event) (t : Table K) (h : History demand es t) where
  abbrev a : Account
  a = account_of es t

  sound : Sound a
  sound = h.agrees.sound

  same_ranks : ranking (rows_at demand t) ≡ ranking a.rows
  same_ranks = any_order a.rows (rows_at demand t) (permuted_back h.agrees.rows_are) sound.priorities

  same_length : length (rows_at demand t) ≡ length a.rows
  same_length = length_permuted h.agrees.rows_are

  -- what stands at a place that is used
  task_there : (p : ℕ) (c : Claim) (r : RowAt demand t p c) → task_at t p ≡ Some r.task
  task_there p c r = get_or-take 12 t.places.now p None r.used ∙ r.there

  stands_there : (p : ℕ) (c : Claim) (r : RowAt demand t p c) → StandsAt a (slice_index_or t.states p Free) (Some r.task)
  stands_there p c r = subst (StandsAt a (slice_index_or t.states p Free)) (task_there p c r) (h.agrees.at_each p r.used)

  -- a place where a row was found
  abbrev found_at : (P : Task K → Type 0) (f : Found demand (take 12 t.places.now) P) → RowAt demand t f.place (claim demand f.task)
  found_at P f =
      let low : f.place < 12 = let l = f.within in let all = length-take 12 t.places.now in omega arith in
      record { used = low; task = f.task; there = sym (get_or-take 12 t.places.now f.place None low) ∙ f.there; row = refl }

  among_rows : (p : ℕ) (c : Claim) → RowAt demand t p c → Contains (rows_at demand t) c
  among_rows p c r = subst (Contains (rows_at demand t)) (sym r.row) (among_claims demand (take 12 t.places.now) p r.task (task_there p c r))

  number_is : (p : ℕ) (c : Claim) (r : RowAt demand t p c) → number_of c ≡ r.task.row.number
  number_is p c r = ap number_of r.row

  -- the bounds and vectors of the account are those of the table
  module _ (R V : ℕ → ℕ) (bounds : Bounds (system_of a.rows) (length a.rows) R V) where
    best : BestPlan (system_of (rows_at demand t)) R V
    best =
        subst (λ (cs : List Claim). BestPlan (system (loads cs)) R V) (sym same_ranks)
        (best_plan (system_of a.rows) (needs_grow a.rows sound.lawful) R V (all_ranks a.rows (record { R = R; V = V; bounds = bounds })))

    module _ (c : Claim) (k : ℕ) (within : k < length a.rows) (is : (load_at (loads (ranking a.rows)) k).claim ≡ c) where
      number : (load_at (loads (ranking a.rows)) k).claim.row.number ≡ number_of c
      number = ap number_of is

      answered_so : BoundsAnswered a (number_of c) (Ok (R k, V k))
      answered_so = record { rank = k; within = within; number = number; R = R; V = V; bounds = bounds; bound = refl; vector = refl }

      once : (p : ℕ × ℕ) → BoundsAnswered a (number_of c) (Ok p) → (p.0 ≡ R k) × (p.1 ≡ V k)
      once p b = bound_once a sound R V bounds k within p (subst (λ (n : ℕ). BoundOf a.rows n p.0 p.1) (sym number) b)

      just : JustBound demand es t (number_of c) (R k, V k)
      just (Ok p) = (
        λ known. ap Ok (pair_is p (R k) (V k)
            (∥∥₁_elim known (Coded-set coded_ℕ _ _) (λ x. (once p x.answered.1.0).0))
            (∥∥₁_elim known (Coded-set coded_ℕ _ _) (λ x. (once p x.answered.1.0).1))),
        λ e. ∣ record { answered = (h.answered, (subst (λ q. BoundsAnswered a (number_of c) q) (sym e) answered_so, refl)); agrees = h.agrees } ∣₁,
      )
        where
          pair_is : (p : ℕ × ℕ) (x y : ℕ) → p.0 ≡ x → p.1 ≡ y → p ≡ (x, y)
          pair_is p x y e f = λ i. (e i, f i)
      just (Err e) = (
        λ known. absurd (∥∥₁_elim known (λ x y. absurd x) (λ x.
            bound_given a sound k within e (rw number x.answered.1.0))),
        λ q. cc,
      )

    each_bound : (p : ℕ) (c : Claim) → RowAt demand t p c → (k : ℕ) × HasRank demand t c k × JustBound demand es t (number_of c) (R k, V k)
    each_bound p c r =
        let found = rank_of_row (rows_at demand t) c (among_rows p c r) in
        let is : (load_at (loads (ranking a.rows)) found.0).claim ≡ c = subst (λ (cs : List Claim). (load_at (loads cs) found.0).claim ≡ c) same_ranks found.2 in
        (found.0, record { within = found.1; claim = found.2 }, just c found.0 (omega (arith, found.1, same_length)) is)

  late_then : (later : List Event) (c : Claim) (r : Result Hold HoldRefusal) (earlier : List Event) → es ≡ later ++ holding c r ∷ earlier → LateWithoutPlan (account_of earlier t) c r
  late_then later c r earlier e =
      let run : Run (fresh_of t) (holding c r ∷ earlier) = run_before (fresh_of t) later (holding c r) earlier (subst (Run (fresh_of t)) e h.answered) in
      late_only (account_of earlier t) (sound_after t.number (min (length t.places.now) 12) earlier run.0) c r (account_of (holding c r ∷ earlier) t) run.1

  rows_stand : (c : Claim) → ((p : ℕ) × RowAt demand t p c) ↔ Stands c es
  rows_stand c =
      let same = standing t.number (min (length t.places.now) 12) c es h.answered in (
        λ x. same.0 (contains_permuted c h.agrees.rows_are (among_rows x.0 c x.1)),
        λ s.
            let f = claim_found demand (take 12 t.places.now) c (contains_permuted c (permuted_back h.agrees.rows_are) (same.1 s)) in
            (f.place, subst (RowAt demand t f.place) (sym f.holds) (found_at (λ u. c ≡ claim demand u) f)),
      )

  held_stand : (n : ℕ) → StandsHeld demand t n ↔ Unspent n es
  held_stand n =
      let same = held_unspent t.number (min (length t.places.now) 12) n es h.answered in (
        λ x. same.0 (unspent_among a.number n a.holds (held_unspent_there a x.row.task n (slice_index_or t.states x.place Free) x.state (stands_there x.place x.claim x.row))),
        λ s.
            let unspent_is = among_unspent a.number n a.holds (same.1 s) in
            let f = number_found demand (take 12 t.places.now) n (number_permuted n h.agrees.rows_are ∙ unspent_row a.number a.rows a.number n a.holds sound.holds unspent_is) in
            let r = found_at (λ u. u.row.number ≡ n) f in
            record {
              place = f.place;
              claim = claim demand f.task;
              row = r;
              number = f.holds;
              state = is_held_there a n (slice_index_or t.states f.place Free) (Some f.task) (stands_there f.place (claim demand f.task) r) (eq-eqb f.task.row.number n f.holds) unspent_is;
            },
      )

  -- the promise, with the bounds and vectors of the account's rows
  pub promise : (R V : ℕ → ℕ) → Bounds (system_of a.rows) (length a.rows) R V → Promise demand es t R V
  promise R V bounds = record {
    bounds = each_bound R V bounds;
    best_plan = best R V bounds;
    rows = h.agrees.rows_are;
    late = late_then;
    next_late = late_only a sound;
    answered = h.answered;
    standing = rows_stand;
    held = held_stand;
    held_or_kept = λ p c r.
        subst (λ (n : ℕ). (slice_index_or t.states p Free ≡ Held n) ⊎ (slice_index_or t.states p Free ≡ Kept n)) (sym (number_is p c r)) (held_or_kept a r.task (slice_index_or t.states p Free) (stands_there p c r));
    one_row = λ p q c d r s e.
        one_place demand (take 12 t.places.now) (numbers_permuted (permuted_back h.agrees.rows_are) sound.numbers) p q r.task s.task (task_there p c r) (task_there q d s) (sym (number_is p c r) ∙ e ∙ number_is q d s);
  }

  -- with the answers for all rows it is the promise with theirs
  pub answered_promise : (xs : List Answer) → Answered (loads (ranking (rows_at demand t))) xs → Promise demand es t (bounds_of xs) (vectors_of xs)
  answered_promise xs answered =
      promise (bounds_of xs) (vectors_of xs)
      (subst (λ (cs : List Claim). Bounds (system (loads cs)) (length a.rows) (bounds_of xs) (vectors_of xs)) same_ranks
      (subst (λ (n : ℕ). Bounds (system_of (rows_at demand t)) n (bounds_of xs) (vectors_of xs)) (length_ranks (rows_at demand t) ∙ same_length) answered.bounds))

-- whatever calls a table has been through
pub every_history : {K : Type 0} (demand : K → Demand) → EveryHistory demand
every_history demand es t known = ∥∥₁_map known (λ h.
    let in_time = h.agrees.sound.in_time in
    (in_time.R, in_time.V, promise demand es t h in_time.R in_time.V in_time.bounds))
