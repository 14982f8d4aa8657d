-- The tasks that are judged together, by their places. Assumes nothing.
-- How to read it: `places` and `newcomer` are what `judge` is passed, and `demand` is what values of the kind K mean. `claims` are the rows that
-- are judged, with the meanings of their kinds.
use Rattle.std.specs.Prelude.{◌≡◌, ℕ, ◌+◌, List, [], ◌∷◌, ◌++◌, map, length, Some, None, Option, nat_lt, slice_index_or, if◌then◌else◌}
use Rattle.std.specs.Borrow.{Bor}
use Rattle.std.specs.List.{filter_map}
use Rattle.std.specs.Option.{option_map}
use Rattle.demand.specs.Demand.{Demand}
use Rattle.analysis.specs.declared.Row.{Row}
use Rattle.analysis.specs.declared.Task.{Task}
use Rattle.analysis.specs.declared.higher.Higher.{Higher}
use Rattle.analysis.specs.declared.Rank.{Rank}
use Rattle.analysis.specs.Places.{priority_of}
use Rattle.analysis.specs.Cover.{Above, interference}
use Rattle.analysis.specs.Ranks.{Claim, rank_in, ranking}

-- a place without a task needs nothing
abbrev pub no_demand : Demand
no_demand = record { spacing = 0; own = 0; least = 0; work = λ _. 0 }

module _ {K : Type 0} where
  -- the task at a place; the newcomer's place is any behind the last
  abbrev pub candidate : List (Option (Task K)) → Option (Task K) → ℕ → Option (Task K)
  candidate places newcomer i = if nat_lt i (length places) then slice_index_or places i None else newcomer

  -- what the kind of a task means, if there is a task
  abbrev pub demand_of : (K → Demand) → Option (Task K) → Demand
  demand_of demand None = no_demand
  demand_of demand (Some t) = demand t.kind

  -- what a kind means, if there is one
  abbrev pub kind_demand : (K → Demand) → Option (Bor K) → Demand
  kind_demand demand None = no_demand
  kind_demand demand (Some k) = demand k.now

  -- the work of a higher row in a window
  abbrev pub work_of : (K → Demand) → Higher K → ℕ → ℕ
  work_of demand h = (kind_demand demand h.kind).work

  -- a higher row as a lower row meets it, with the work of its kind
  abbrev pub above_of : (K → Demand) → Higher K → Above
  above_of demand h = record { wait = h.wait; jitter = h.jitter; work = work_of demand h }

  -- what a row needs by a window under a vector: `alone`, and the work of the rows above it
  abbrev pub need_with : (K → Demand) → List (Higher K) → ℕ → ℕ → ℕ → ℕ
  need_with demand higher alone v t = alone + interference (map (above_of demand) higher) v t

  -- a row with the meaning of its kind
  abbrev pub claim_with : (K → Demand) → Row → K → Claim
  claim_with demand row kind = record { row = row; demand = demand kind }

  -- the rows of these tasks, with the meanings of their kinds
  abbrev pub claims_of : (K → Demand) → List (Option (Task K)) → List Claim
  claims_of demand = filter_map (option_map (λ t. claim_with demand t.row t.kind))

  -- all that are judged together: those at the places, and the newcomer
  abbrev pub claims : (K → Demand) → List (Option (Task K)) → Option (Task K) → List Claim
  claims demand places newcomer = claims_of demand (places ++ newcomer ∷ [])

  -- a rank's row with the meaning of the kind at its place
  abbrev pub claim_of : (K → Demand) → List (Option (Task K)) → Option (Task K) → Rank → Claim
  claim_of demand places newcomer r = record { row = r.row; demand = demand_of demand (candidate places newcomer r.place) }

  -- the ranks with one task more, if there is one
  abbrev pub rank_task : Option (Task K) → ℕ → List Rank → List Rank
  rank_task None place ranks = ranks
  rank_task (Some t) place ranks = rank_in priority_of (record { row = t.row; place = place }) ranks

  -- these ranks have all that are judged together, highest first
  abbrev pub RanksAll : (K → Demand) → List (Option (Task K)) → Option (Task K) → List Rank → Type 0
  RanksAll demand places newcomer ranks = map (claim_of demand places newcomer) ranks ≡ ranking (claims demand places newcomer)
