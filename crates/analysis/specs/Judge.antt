-- What is answered for ranked rows. Assumes nothing.
-- How to read it: cs are rows with the meanings of their kinds, ls ranked rows with their blocking. `Judged` at the end is what `judge` promises;
-- `RankJudged` is what is promised of one rank.
use Rattle.std.specs.Prelude.{◌≡◌, ℕ, ◌+◌, ◌-◌, ◌^◌, ◌<◌, ◌≤◌, ◌⊎◌, List, length, take, Some, None, Ok, Err, Option, Result, slice_index_or}
use Rattle.demand.specs.Demand.{Demand}
use Rattle.analysis.specs.declared.TheConstants.{MOST_ROWS}
use Rattle.analysis.specs.declared.Answer.{Answer}
use Rattle.analysis.specs.declared.answers.Answers.{Answers}
use Rattle.analysis.specs.declared.judgement.JudgeRefusal.{JudgeRefusal}
use Rattle.analysis.specs.declared.judgement.JudgeRefusal.TheVariants.{TooMany, Late}
use Rattle.analysis.specs.declared.higher.Higher.{Higher}
use Rattle.analysis.specs.declared.Rank.{Rank}
use Rattle.analysis.specs.declared.Task.{Task}
use Rattle.analysis.specs.Candidates.{candidate, demand_of, kind_demand, need_with}
use Rattle.analysis.specs.Plans.{LeastCover, NoCover, Bounds, FirstLate, NoPlan, BestPlan}
use Rattle.analysis.specs.Ranks.{Claim, Load, load_at, ranking, loads, system, system_of}

module _ {K : Type 0} (demand : K → Demand) (places : List (Option (Task K))) (newcomer : Option (Task K)) where
  -- the demand of the task at a rank's place
  abbrev pub demand_at : Rank → Demand
  demand_at r = demand_of demand (candidate places newcomer r.place)

  -- what the row of a rank needs by a window under a vector: its own job, its wait, and the work of the rows above it
  abbrev pub need_at : List (Higher K) → Rank → ℕ → ℕ → ℕ → ℕ
  need_at higher r blocked = need_with demand higher ((demand_at r).own + (r.row.suspension + blocked))

  -- the answer for one rank under those above it, and how the rows below meet it
  pub record RankAnswered (higher : List (Higher K)) (r : Rank) (blocked : ℕ) (a : Answer) (h : Higher K) : Type 0 where
    pub number : a.number ≡ r.row.number
    pub blocking : a.blocking ≡ blocked
    pub bound : LeastCover (need_at higher r blocked) r.row.deadline (2 ^ length higher) a.bound a.vector
    pub kind : kind_demand demand h.kind ≡ demand_at r
    pub wait : h.wait ≡ r.row.suspension + blocked
    pub jitter : h.jitter ≡ a.bound - (demand_at r).least

  -- what is answered for one rank: as above, or none where no window covers
  abbrev pub RankJudged : List (Higher K) → Rank → ℕ → Option (Answer × Higher K) → Type 0
  RankJudged higher r blocked None = NoCover (need_at higher r blocked) r.row.deadline (2 ^ length higher)
  RankJudged higher r blocked (Some p) = RankAnswered higher r blocked p.0 p.1

-- what stands behind the last answer
abbrev pub no_answer : Answer
no_answer = record { number = 0; bound = 0; vector = 0; blocking = 0 }

-- the bound that is answered for a rank
abbrev pub bounds_of : List Answer → ℕ → ℕ
bounds_of answers k = (slice_index_or answers k no_answer).bound

-- the vector that is answered for a rank
abbrev pub vectors_of : List Answer → ℕ → ℕ
vectors_of answers k = (slice_index_or answers k no_answer).vector

-- the answer names the row and its blocking
pub record RowAnswered (l : Load) (a : Answer) : Type 0 where
  pub number : a.number ≡ l.claim.row.number
  pub blocking : a.blocking ≡ l.blocked

-- each ranked row has its answer, highest first, with its bound and vector
pub record Answered (ls : List Load) (answers : List Answer) : Type 0 where
  pub count : length answers ≡ length ls
  pub rows : (k : ℕ) → k < length ls → RowAnswered (load_at ls k) (slice_index_or answers k no_answer)
  pub bounds : Bounds (system ls) (length ls) (bounds_of answers) (vectors_of answers)

-- these rows, given in any order, have their answers, highest priority first
abbrev pub RowsAnswered : List Claim → List Answer → Type 0
RowsAnswered cs answers = Answered (loads (ranking cs)) answers

-- the answers in a value of the code: the first so many of its array
abbrev pub answers_of : Answers → List Answer
answers_of a = take a.count a.rows

-- n is the number of the first late row
abbrev pub LateRow : List Load → ℕ → Type 0
LateRow ls n = (k : ℕ) × FirstLate (system ls) k × (n ≡ (load_at ls k).claim.row.number)

-- All rows are in time: each has its bound and vector, and together the vectors are the best plan.
pub record InTime (cs : List Claim) (answers : List Answer) : Type 0 where
  pub few : length cs ≤ MOST_ROWS
  pub answered : Answered (loads (ranking cs)) answers
  pub best_plan : BestPlan (system_of cs) (bounds_of answers) (vectors_of answers)

-- Some row is late, n is the first of them, and no plan brings all in time.
pub record SomeLate (cs : List Claim) (n : ℕ) : Type 0 where
  pub few : length cs ≤ MOST_ROWS
  pub first : LateRow (loads (ranking cs)) n
  pub no_plan : NoPlan (system_of cs)

-- the number of a refusal: there is no place for so many rows, or some row is late
abbrev pub judge_number : JudgeRefusal → ℕ
judge_number TooMany = 10
judge_number (Late n) = 11

-- the late row that a refusal names, else 0
abbrev pub judge_late : JudgeRefusal → ℕ
judge_late TooMany = 0
judge_late (Late n) = n

-- Rows are refused by number 10, which names none of them, where they are more than MOST_ROWS; else by number 11, which
-- names the first late one.
abbrev pub JudgementRefused : List Claim → ℕ → ℕ → Type 0
JudgementRefused cs number late =
    ((number ≡ 10) × (late ≡ 0) × (MOST_ROWS < length cs))
    ⊎ ((number ≡ 11) × SomeLate cs late)

-- what the judgement of these rows is
abbrev pub Judged : List Claim → Result Answers JudgeRefusal → Type 0
Judged cs (Ok a) = InTime cs (answers_of a)
Judged cs (Err e) = JudgementRefused cs (judge_number e) (judge_late e)
