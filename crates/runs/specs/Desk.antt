-- A desk, and what is promised of the calls that it runs. Assumes nothing.
-- How to read it: a desk d has a table and the holds in hand. `calls` are run on it, `ran` is what they answered, and es are the calls that its
-- table had been through before, with their answers, the last one first; one `call` is answered by its `reply`. `demand` is what values of the kind K mean.
use Rattle.std.specs.Prelude.{◌≡◌, List, ◌∷◌}
use Rattle.demand.specs.Demand.{Demand}
use Rattle.demand.specs.declared.Kind.{Ghosts}
use Rattle.analysis.specs.Judge.{InTime, answers_of, bounds_of, vectors_of}
use Rattle.table.specs.declared.hold.Hold.{Hold}
use Rattle.table.specs.declared.Table.{Table}
use Rattle.table.specs.History.{HasHistory, Promise, Promised, rows_at}
use Rattle.table.specs.Runs.{Event}
use Rattle.runs.specs.declared.call.Call.{Call}
use Rattle.runs.specs.declared.desk.Desk.{Desk}
use Rattle.runs.specs.declared.desk.Ran.{Ran}
use Rattle.runs.specs.declared.call.Reply.{Reply}
use Rattle.runs.specs.Calls.{Follow, IsEvent}

module _ {K : Type 0} {kind : Ghosts K} where
  -- the table of a desk
  abbrev pub table_of : Desk K kind → Table K
  table_of d = d.register.table

  -- the holds in hand
  abbrev pub holds_of : Desk K kind → List Hold
  holds_of d = d.holds.items

  -- the table is as it was, and so are the holds in hand
  pub record SameDesk (d e : Desk K kind) : Type 0 where
    pub table : table_of e ≡ table_of d
    pub holds : holds_of e ≡ holds_of d

-- What is promised of calls that were run on a table which had been through es.
pub record KeepsPromise {K : Type 0} (demand : K → Demand) (es : List Event) (calls : List (Call K)) (ran : Ran) (t : Table K) : Type 0 where
  -- all calls with their answers, these after those before
  pub events : List Event
  pub follow : Follow demand t.number calls ran.replies.items es events
  -- the table has been through them
  pub history : HasHistory demand events t
  -- the answers at the end are those for all of its rows, highest first
  pub answers : InTime (rows_at demand t) (answers_of ran.answers)
  -- and the promise holds of all calls, of the table, and of these bounds and vectors
  pub promise : ∥ Promise demand events t (bounds_of (answers_of ran.answers)) (vectors_of (answers_of ran.answers)) ∥₁

-- Calls were run on the table t, which is u then. Whatever t had been through, the promise holds of that and these calls; and t had been
-- through some calls, since every desk has.
pub record RunsAsPromised {K : Type 0} (demand : K → Demand) (calls : List (Call K)) (ran : Ran) (t u : Table K) : Type 0 where
  pub after : (es : List Event) → HasHistory demand es t → KeepsPromise demand es calls ran u
  pub ever : ∥ ((es : List Event) × HasHistory demand es t × KeepsPromise demand es calls ran u) ∥₁

-- What is promised of one call that was made on a table which had been through es, and is t then.
pub record CallKeepsPromise {K : Type 0} (demand : K → Demand) (es : List Event) (call : Call K) (reply : Reply) (t : Table K) : Type 0 where
  -- the call with its answer
  pub event : Event
  pub is_event : IsEvent demand t.number call reply event
  -- the table has been through it too
  pub history : HasHistory demand (event ∷ es) t
  -- and the promise holds of all calls and of the table
  pub promise : Promised demand (event ∷ es) t

-- One call was made on the table t, which is u then. Whatever t had been through, the promise holds of that and this call; and t had been
-- through some calls, since every desk has.
pub record CalledAsPromised {K : Type 0} (demand : K → Demand) (call : Call K) (reply : Reply) (t u : Table K) : Type 0 where
  pub after : (es : List Event) → HasHistory demand es t → CallKeepsPromise demand es call reply u
  pub ever : ∥ ((es : List Event) × HasHistory demand es t × CallKeepsPromise demand es call reply u) ∥₁
