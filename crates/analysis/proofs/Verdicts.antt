-- What a judgement of ranked rows says of the rows that are judged together. Assumes nothing.
use Rattle.std.proofs.Common.{◌≡◌, ℕ, ◌≤◌, List, [], ◌∷◌, ◌++◌, map, length, Option, sym, ap, ◌∙◌, subst, arith}
use lib.ListN.{length-map}
use Rattle.demand.specs.Demand.{Demand, Lawful}
use Rattle.analysis.specs.declared.Task.{Task}
use Rattle.analysis.specs.declared.Answer.{Answer}
use Rattle.analysis.specs.declared.Rank.{Rank}
use Rattle.analysis.specs.declared.TheConstants.{MOST_ROWS}
use Rattle.analysis.specs.Candidates.{claims, claim_of, RanksAll}
use Rattle.analysis.specs.Judge.{Answered, LateRow, InTime, SomeLate}
use Rattle.analysis.specs.Plans.{LateExactlyWhenNoPlan}
use Rattle.analysis.specs.Ranks.{Claim, ranking, loads, rows, system}
use Rattle.analysis.specs.Removal.{RemovalKeepsInTime}
use Rattle.analysis.proofs.Best.{Grows, best_plan, late_no_plan}
use Rattle.analysis.proofs.Lawful.{AllLawful, grows, lawful_loads}
use Rattle.analysis.proofs.Order.{ranked_lawful}
use Rattle.analysis.proofs.Ranked.{length_ranked}
use Rattle.analysis.proofs.Removal.{removal_keeps_in_time}
use Rattle.analysis.proofs.Settled as settled

module _ {K : Type 0} (demand : K → Demand) (lawful : (k : K) → Lawful (demand k)) (places : List (Option (Task K))) (newcomer : Option (Task K)) where
  abbrev judged : List Claim
  judged = claims demand places newcomer

  all_lawful : AllLawful (ranking judged)
  all_lawful = ranked_lawful demand lawful (places ++ newcomer ∷ [])

  needs_grow : Grows (system (loads (ranking judged)))
  needs_grow = grows (loads (ranking judged)) (lawful_loads (rows (ranking judged)) (ranking judged) all_lawful)

  pub late_exactly_when_no_plan : LateExactlyWhenNoPlan (system (loads (ranking judged)))
  late_exactly_when_no_plan = settled.late_exactly_when_no_plan (system (loads (ranking judged))) needs_grow

  pub removal : RemovalKeepsInTime judged
  removal = removal_keeps_in_time judged all_lawful

  module _ (ranks : List Rank) (all : RanksAll demand places newcomer ranks) (low : length ranks ≤ MOST_ROWS) where
    few : length judged ≤ MOST_ROWS
    few =
        let count : length judged ≡ length ranks = sym (length_ranked judged) ∙ sym (ap length all) ∙ length-map ranks (claim_of demand places newcomer) in
        omega arith

    pub in_time : (answers : List Answer) → Answered (loads (map (claim_of demand places newcomer) ranks)) answers → InTime judged answers
    in_time answers a =
        let answered : Answered (loads (ranking judged)) answers = subst (λ (cs : List Claim). Answered (loads cs) answers) all a in
        record { few = few; answered = answered; best_plan = best_plan (system (loads (ranking judged))) needs_grow _ _ answered.bounds }

    pub some_late : (n : ℕ) → LateRow (loads (map (claim_of demand places newcomer) ranks)) n → SomeLate judged n
    some_late n l =
        let first : LateRow (loads (ranking judged)) n = subst (λ (cs : List Claim). LateRow (loads cs) n) all l in
        record { few = few; first = first; no_plan = late_no_plan (system (loads (ranking judged))) needs_grow first.0 first.1 }
