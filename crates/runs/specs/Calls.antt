-- Calls as data, and which events they are with their replies. Assumes nothing.
-- How to read it: a call and its reply are values of the code; an event is a call with its answer, as the account has it. `demand` is what values
-- of the kind K mean, and `table` the number of the table that the calls are made on.
use Rattle.std.specs.Prelude.{◌≡◌, ℕ, List, [], ◌∷◌, Ok, Err, Result}
use Rattle.demand.specs.Demand.{Demand}
use Rattle.analysis.specs.declared.Task.{Task}
use Rattle.analysis.specs.Candidates.{claim_with}
use Rattle.table.specs.declared.hold.Hold.{Hold as Token}
use Rattle.table.specs.declared.refusals.HoldRefusal.{HoldRefusal}
use Rattle.table.specs.declared.refusals.SpendRefusal.{SpendRefusal}
use Rattle.table.specs.declared.refusals.SpendRefusal.TheVariants.{NotHeld as Back}
use Rattle.table.specs.declared.Table.{Table}
use Rattle.table.specs.Account.{hold_number, withdraw_number, bound_number}
use Rattle.table.specs.History.{Continues, HasHistory}
use Rattle.table.specs.Runs.{Event, holding, keeping, releasing, withdrawing, bounding}
use Rattle.runs.specs.declared.call.HoldId.{HoldId}
use Rattle.runs.specs.declared.call.NotHeld.{NotHeld}
use Rattle.runs.specs.declared.call.Call.{Call}
use Rattle.runs.specs.declared.call.Call.TheVariants.{Hold as HoldCall, Keep as KeepCall, Release as ReleaseCall, Withdraw as WithdrawCall, Bound as BoundCall}
use Rattle.runs.specs.declared.call.Way.{Way}
use Rattle.runs.specs.declared.call.Way.TheVariants.{KeepRow, GiveUp}
use Rattle.runs.specs.declared.call.Reply.{Reply}
use Rattle.runs.specs.declared.call.Reply.TheVariants.{Hold, Keep, Release, Withdraw, Bound}

-- the number of the row that a call is about
abbrev pub call_row : {K : Type 0} → Call K → ℕ
call_row (HoldCall task) = task.row.number
call_row (KeepCall id) = id.row
call_row (ReleaseCall id) = id.row
call_row (WithdrawCall n) = n
call_row (BoundCall n) = n

-- the number of a refusal of keep or release
abbrev pub not_held_number : NotHeld → ℕ
not_held_number e = 12

-- the number of the refusal that a reply has, 0 where the call was accepted
abbrev pub reply_number : Reply → ℕ
reply_number (Hold (Ok u)) = 0
reply_number (Hold (Err e)) = hold_number e
reply_number (Keep (Ok u)) = 0
reply_number (Keep (Err e)) = not_held_number e
reply_number (Release (Ok u)) = 0
reply_number (Release (Err e)) = not_held_number e
reply_number (Withdraw (Ok u)) = 0
reply_number (Withdraw (Err e)) = withdraw_number e
reply_number (Bound (Ok p)) = 0
reply_number (Bound (Err e)) = bound_number e

-- the hold that bears these two numbers
abbrev pub on_row : ℕ → ℕ → Token
on_row table n = record { table = table; row = n }

-- the hold that a call names
abbrev pub token : HoldId → Token
token id = on_row id.table id.row

-- a reply to a call of hold, with the hold that an accepted one gives on row n
abbrev pub hold_answer : ℕ → ℕ → Result (Unit {0}) HoldRefusal → Result Token HoldRefusal
hold_answer table n (Ok u) = Ok (on_row table n)
hold_answer table n (Err e) = Err e

-- a reply to a call of keep or release, with the hold that comes back from a refusal
abbrev pub spend_answer : Token → Result (Unit {0}) NotHeld → Result (Unit {0}) SpendRefusal
spend_answer h (Ok u) = Ok u
spend_answer h (Err e) = Err (Back h)

-- a hold was to be spent in one of the two ways, with the answer
abbrev pub spending : Way → Token → Result (Unit {0}) SpendRefusal → Event
spending KeepRow h r = keeping h r
spending GiveUp h r = releasing h r

-- the hold was spent in one of the two ways
abbrev pub spend_of : Way → Token → Event
spend_of way h = spending way h (Ok tt)

-- the hold was released
abbrev pub release_of : Token → Event
release_of h = releasing h (Ok tt)

-- the hold that a call names was to be spent, with the reply
abbrev pub spend_event : Way → HoldId → Result (Unit {0}) NotHeld → Event
spend_event way id r = spending way (token id) (spend_answer (token id) r)

-- a row was to be held, with the reply
abbrev pub hold_event : {K : Type 0} → (K → Demand) → ℕ → Task K → Result (Unit {0}) HoldRefusal → Event
hold_event demand table task r = holding (claim_with demand task.row task.kind) (hold_answer table task.row.number r)

module _ {K : Type 0} (demand : K → Demand) (table : ℕ) where
  -- the call and its reply are this event; a reply to another call than its own is none
  abbrev pub IsEvent : Call K → Reply → Event → Type 0
  IsEvent (HoldCall task) (Hold r) e = e ≡ hold_event demand table task r
  IsEvent (KeepCall id) (Keep r) e = e ≡ spend_event KeepRow id r
  IsEvent (ReleaseCall id) (Release r) e = e ≡ spend_event GiveUp id r
  IsEvent (WithdrawCall n) (Withdraw r) e = e ≡ withdrawing n r
  IsEvent (BoundCall n) (Bound r) e = e ≡ bounding n r
  IsEvent call reply e = ⊥

  -- These calls with these replies, in this order, come after the events es: all are the events then, the last one first.
  abbrev pub Follow : List (Call K) → List Reply → List Event → List Event → Type 0
  Follow [] [] es all = all ≡ es
  Follow [] (r ∷ rs) es all = ⊥
  Follow (c ∷ cs) [] es all = ⊥
  Follow (c ∷ cs) (r ∷ rs) es all = (e : Event) × IsEvent c r e × Follow cs rs (e ∷ es) all

module _ {K : Type 0} (demand : K → Demand) where
  -- The table t is made the table u, and `more` puts the events between the two before those till then: whatever t had been through, u has been
  -- through all of these.
  abbrev pub ContinuesBy : (List Event → List Event) → Table K → Table K → Type 0
  ContinuesBy more t u = (es : List Event) → HasHistory demand es t → HasHistory demand (more es) u

  -- one call was made on the table t, which is u then
  abbrev pub MakesCall : Call K → Reply → Table K → Table K → Type 0
  MakesCall call reply t u = (e : Event) × IsEvent demand t.number call reply e × Continues demand e t u

  -- calls were made on the table t, which is u then
  abbrev pub MakesCalls : List (Call K) → List Reply → Table K → Table K → Type 0
  MakesCalls calls replies t u =
      (es : List Event) → HasHistory demand es t
      → (all : List Event) × Follow demand u.number calls replies es all × HasHistory demand all u
