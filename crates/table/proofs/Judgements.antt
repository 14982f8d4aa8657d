-- What the judgement of the rows at the places says of the account. Assumes nothing.
use Rattle.std.proofs.Common.{◌≡◌, ℕ, zero, suc, ◌<◌, false, ◌==◌, ◌≢◌, List, [], ◌∷◌, ◌++◌, length, slice_index_or, Some, None, Ok, Err, Option, Result, IfOk, sym, refl, ◌∙◌, subst, inl, inr, arith, length-take, eqb-true}
use Rattle.std.specs.Option.{ok_or}
use Rattle.std.proofs.lemmas.Bool.Decides.{nat_tests}
use Rattle.std.proofs.lemmas.Bool.{cases_Bool}
use Rattle.std.proofs.lemmas.List.{append-nil}
use Rattle.std.proofs.lemmas.Option.{some_pair_parts}
use Rattle.demand.specs.Demand.{Demand}
use Rattle.demand.specs.Refusals.{first}
use Rattle.analysis.specs.declared.Task.{Task}
use Rattle.analysis.specs.Candidates.{claims_of, claims}
use Rattle.analysis.specs.declared.Answer.{Answer}
use Rattle.analysis.specs.declared.Row.{Row}
use Rattle.analysis.specs.Plans.{Bounds, NoPlan}
use Rattle.std.specs.Prelude.{IsPermutation}
use Rattle.std.proofs.lemmas.List.Sorted.{IsPermutation-to_front}
use Rattle.std.proofs.lemmas.List.Kept.{AllPairs-cons}
use Rattle.analysis.specs.Ranks.{Claim, ranking, rows, loads_of, loads, load_at, system, system_of}
use Rattle.table.specs.declared.Table.{Table}
use Rattle.table.specs.Account.{Account, has_number, hold_checks, AllInTime, BoundsAnswered}
use Rattle.table.specs.declared.refusals.BoundRefusal.TheVariants.{NoSuchRow}
use Rattle.table.specs.Agreement.{AgreesWith}
use Rattle.table.specs.Places.{answer_of}
use Rattle.analysis.specs.declared.answers.Answers.{Answers}
use Rattle.analysis.specs.declared.judgement.JudgeRefusal.{JudgeRefusal}
use Rattle.table.specs.History.{rows_at}
use Rattle.analysis.specs.Judge.{judge_number, judge_late, JudgementRefused, Judged, InTime, LateRow, SomeLate, Answered, answers_of, no_answer, bounds_of, vectors_of}
use Rattle.analysis.proofs.AnyOrder.{any_order}
use Rattle.analysis.proofs.Order.{highest_first}
use Rattle.analysis.proofs.Ranked.{claims_append, length_ranked}
use Rattle.table.proofs.Checks.{absent_applies, is_absent}
use Rattle.table.proofs.Lookups.{tasks, claims_at_most}
use Rattle.table.proofs.Shared.{permuted_back, permuted_next, permuted_through, length_permuted, number_permuted, passed, length_ranks, has_plan}

-- where no rank has the number, no row has it
none_numbered : (n : ℕ) (all : List Row) (cs : List Claim) → ((k : ℕ) → k < length cs → (load_at (loads_of all cs) k).claim.row.number ≢ n) → has_number n cs ≡ false
none_numbered n all [] h = refl
none_numbered n all (c ∷ cs) h = grind (arith, nat_tests, h 0, none_numbered n all cs (λ k l. h (suc k) (omega arith)))

-- the answer for the number n is one of the answers
record AnswerAt (n t v : ℕ) (answers : List Answer) : Type 0 where
  rank : ℕ
  within : rank < length answers
  number : (slice_index_or answers rank no_answer).number ≡ n
  bound : t ≡ bounds_of answers rank
  vector : v ≡ vectors_of answers rank

answer_at : (n t v : ℕ) (answers : List Answer) → answer_of n answers ≡ Some (t, v) → AnswerAt n t v answers
answer_at n t v [] e = cc
answer_at n t v (x ∷ rest) e = elim (cases_Bool (x.number == n)) [
  | inl h ↦
      let here = some_pair_parts x.bound t x.vector v (rw h at e) in
      record { rank = 0; within = omega arith; number = eqb-true x.number n h; bound = sym here.0; vector = sym here.1 }
  | inr h ↦
      let behind = answer_at n t v rest (rw h at e) in
      record { rank = suc behind.rank; within = let l = behind.within in omega arith; number = behind.number; bound = behind.bound; vector = behind.vector }
]

no_answer_at : (n : ℕ) (answers : List Answer) → answer_of n answers ≡ None → (k : ℕ) → k < length answers → (slice_index_or answers k no_answer).number ≢ n
no_answer_at n [] e k l = omega arith
no_answer_at n (x ∷ rest) e zero l = grind (arith, nat_tests)
no_answer_at n (x ∷ rest) e (suc k) l = grind (arith, nat_tests, no_answer_at n rest)

-- without a newcomer those that are judged are those at the places
no_newcomer : {K : Type 0} (demand : K → Demand) (os : List (Option (Task K))) → claims demand os None ≡ claims_of demand os
no_newcomer demand os = claims_append demand os (None ∷ []) ∙ append-nil (claims_of demand os)

-- where all rows at the places are judged to be in time
pub all_in_time : {K : Type 0} (demand : K → Demand) (t : Table K) (r : Result Answers JudgeRefusal) → Judged (claims demand (tasks t) None) r → IfOk r (λ all. InTime (rows_at demand t) (answers_of all))
all_in_time demand t (Ok all) judged = subst (λ (cs : List Claim). InTime cs (answers_of all)) (no_newcomer demand (tasks t)) judged
all_in_time demand t (Err e) judged = tt

module _ {K : Type 0} {demand : K → Demand} {a : Account} (t : Table K) (agrees : AgreesWith demand a t) where
  abbrev pub claim_of_task : Task K → Claim
  claim_of_task u = record { row = u.row; demand = demand u.kind }

  -- those at the places are the account's rows
  same_claims : claims demand (tasks t) None ≡ claims_of demand (tasks t)
  same_claims = no_newcomer demand (tasks t)

  rows_permuted : IsPermutation a.rows (claims demand (tasks t) None)
  rows_permuted = subst (IsPermutation a.rows) (sym same_claims) (permuted_back agrees.rows_are)

  same_ranked : ranking (claims demand (tasks t) None) ≡ ranking a.rows
  same_ranked = any_order a.rows (claims demand (tasks t) None) rows_permuted agrees.sound.priorities

  newcomer_permuted : (u : Task K) → IsPermutation (claim_of_task u ∷ a.rows) (claims demand (tasks t) (Some u))
  newcomer_permuted u =
      let front : IsPermutation (claims_of demand (tasks t) ++ claim_of_task u ∷ []) (claim_of_task u ∷ claims_of demand (tasks t)) = IsPermutation-to_front (claims_of demand (tasks t)) (claim_of_task u) in
      subst (IsPermutation (claim_of_task u ∷ a.rows)) (sym (claims_append demand (tasks t) (Some u ∷ [])))
      (permuted_back (permuted_through front (permuted_next (claim_of_task u) agrees.rows_are)))

  newcomer_ranked : (u : Task K) → first (hold_checks a (claim_of_task u)) ≡ 0 → ranking (claims demand (tasks t) (Some u)) ≡ ranking (claim_of_task u ∷ a.rows)
  newcomer_ranked u passes =
      any_order (claim_of_task u ∷ a.rows) (claims demand (tasks t) (Some u)) (newcomer_permuted u)
      (AllPairs-cons (λ c d. c.row.priority ≢ d.row.priority) (claim_of_task u) a.rows (passed a (claim_of_task u) passes).priority agrees.sound.priorities)

  -- a newcomer that passes the checks is late or in time with the account's rows as with the table's
  pub newcomer_late : (u : Task K) → first (hold_checks a (claim_of_task u)) ≡ 0 → (n : ℕ) → SomeLate (claims demand (tasks t) (Some u)) n → LateRow (loads (ranking (claim_of_task u ∷ a.rows))) n
  newcomer_late u passes n late = subst (λ (cs : List Claim). LateRow (loads cs) n) (newcomer_ranked u passes) late.first

  pub newcomer_in_time : (u : Task K) → first (hold_checks a (claim_of_task u)) ≡ 0 → (answers : Answers) → Judged (claims demand (tasks t) (Some u)) (Ok answers) → AllInTime (claim_of_task u ∷ a.rows)
  newcomer_in_time u passes answers judged =
      let count : length (loads (ranking (claims demand (tasks t) (Some u)))) ≡ length (claim_of_task u ∷ a.rows) = length_ranks (claims demand (tasks t) (Some u)) ∙ sym (length_permuted (newcomer_permuted u)) in
      record {
        R = bounds_of (answers_of answers);
        V = vectors_of (answers_of answers);
        bounds = subst (λ (n : ℕ). Bounds (system_of (claim_of_task u ∷ a.rows)) n (bounds_of (answers_of answers)) (vectors_of (answers_of answers))) count
            (subst (λ (cs : List Claim). Bounds (system (loads cs)) (length (loads (ranking (claims demand (tasks t) (Some u))))) (bounds_of (answers_of answers)) (vectors_of (answers_of answers))) (newcomer_ranked u passes) judged.answered.bounds);
      }

  -- and all rows are answered, the newcomer among them
  pub newcomer_listed : (u : Task K) → first (hold_checks a (claim_of_task u)) ≡ 0 → (answers : Answers) → Judged (claims demand (tasks t) (Some u)) (Ok answers) → Answered (loads (ranking (claim_of_task u ∷ a.rows))) (answers_of answers)
  newcomer_listed u passes answers judged = subst (λ (cs : List Claim). Answered (loads cs) (answers_of answers)) (newcomer_ranked u passes) judged.answered

  -- twelve rows at most
  pub never_too_many : (u : Task K) → first (hold_checks a (claim_of_task u)) ≡ 0 → 12 < length (claims demand (tasks t) (Some u)) → ⊥
  never_too_many u passes many =
      let room = (passed a (claim_of_task u) passes).room in
      let few = agrees.room_is in
      let count = length_permuted (newcomer_permuted u) in
      omega arith

  -- the account's rows are in time, so they are never refused
  pub never_refused : (number late : ℕ) → JudgementRefused (claims demand (tasks t) None) number late → ⊥
  never_refused number late (inl many) =
      let over = many.2 in
      let count = length_permuted rows_permuted in
      let few = claims_at_most demand (tasks t) in
      let all = length_permuted agrees.rows_are in
      let twelve = length-take 12 t.places.now in
      omega arith
  never_refused number late (inr some) =
      has_plan a.rows agrees.sound.lawful agrees.sound.in_time
      (subst (λ (cs : List Claim). NoPlan (system (loads cs))) same_ranked some.1.no_plan)

  -- all rows are answered
  pub all_listed : (r : Result Answers JudgeRefusal) → Judged (claims demand (tasks t) None) r → (all : Answers) × (r ≡ Ok all) × Answered (loads (ranking a.rows)) (answers_of all)
  all_listed (Ok all) judged = (all, refl, subst (λ (cs : List Claim). Answered (loads cs) (answers_of all)) same_ranked judged.answered)
  all_listed (Err e) judged = absurd (never_refused (judge_number e) (judge_late e) judged)

-- what is found among the answers for all rows is what the account answers
module _ (a : Account) (answers : List Answer) (ranks : Answered (loads (ranking a.rows)) answers) (n : ℕ) where
  pub bound_found : (r : Option (ℕ × ℕ)) → r ≡ answer_of n answers → BoundsAnswered a n (ok_or r NoSuchRow)
  bound_found (Some p) found =
      let there = answer_at n p.0 p.1 answers (sym found) in
      let count : length (loads (ranking a.rows)) ≡ length a.rows = length_ranks a.rows in
      let inside : there.rank < length (loads (ranking a.rows)) = let l = there.within in let e = ranks.count in omega arith in
      record {
        rank = there.rank;
        within = omega arith;
        number = sym (ranks.rows there.rank inside).number ∙ there.number;
        R = bounds_of answers;
        V = vectors_of answers;
        bounds = subst (λ (m : ℕ). Bounds (system_of a.rows) m (bounds_of answers) (vectors_of answers)) count ranks.bounds;
        bound = there.bound;
        vector = there.vector;
      }
  bound_found None found =
      let count : length (loads (ranking a.rows)) ≡ length a.rows = length_ranks a.rows in
      let ranked_count = length_ranked a.rows in
      let many = ranks.count in
      absent_applies (has_number n a.rows)
      (number_permuted n (highest_first a.rows).reordered
      ∙ none_numbered n (rows (ranking a.rows)) (ranking a.rows) (λ k l e. no_answer_at n answers (sym found) k (omega arith) ((ranks.rows k (omega arith)).number ∙ e)))

-- an account has no row of a number that is not found among the answers
pub no_bound_found : {K : Type 0} {demand : K → Demand} {a : Account} (t : Table K) → AgreesWith demand a t → (answers : Answers) → Judged (claims demand (tasks t) None) (Ok answers) → (n : ℕ) → answer_of n (answers_of answers) ≡ None → has_number n a.rows ≡ false
unfolding all_listed
no_bound_found {a = a} t agrees answers judged n none =
    is_absent (has_number n a.rows) (bound_found a (answers_of answers) (all_listed t agrees (Ok answers) judged).2 n None (sym none))
