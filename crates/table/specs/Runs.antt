-- Calls on one table with their answers, and what such a list says. Assumes nothing.
-- How to read it: an `Event` is a call with its answer. A list of events has the last call first. `Run` says that an account answers all calls of
-- a list so, and `after_all` is the account then; `Stands` and `Unspent` say what the list itself tells of rows and holds.
use Rattle.std.specs.Prelude.{◌≡◌, ℕ, ◌⊎◌, List, [], ◌∷◌, Ok, Err, Result, ◌↔◌}
use Rattle.demand.specs.Demand.{Lawful}
use Rattle.demand.specs.Refusals.{first}
use Rattle.analysis.specs.Plans.{NoPlan}
use Rattle.analysis.specs.Ranks.{Claim, system_of}
use Rattle.table.specs.declared.hold.Hold.{Hold}
use Rattle.table.specs.declared.refusals.HoldRefusal.{HoldRefusal}
use Rattle.table.specs.declared.refusals.SpendRefusal.{SpendRefusal}
use Rattle.table.specs.declared.refusals.WithdrawRefusal.{WithdrawRefusal}
use Rattle.table.specs.declared.refusals.BoundRefusal.{BoundRefusal}
use Rattle.table.specs.Account.{Account, number_of, hold_number, hold_checks, Holds, Spends, Withdraws, BoundsAnswered, with_row, with_kept, with_released, with_withdrawn}

-- a call with what it answered
pub data Event : Type 0 where
  holding : (c : Claim) → Result Hold HoldRefusal → Event
  keeping : Hold → Result (Unit {0}) SpendRefusal → Event
  releasing : Hold → Result (Unit {0}) SpendRefusal → Event
  withdrawing : ℕ → Result (Unit {0}) WithdrawRefusal → Event
  bounding : ℕ → Result (ℕ × ℕ) BoundRefusal → Event

-- the account a answers the call so, and is b after it; a row's kind keeps the laws
abbrev pub Step : Account → Event → Account → Type 0
Step a (holding c r) b = Lawful c.demand × Holds a c r b
Step a (keeping h r) b = Spends a h (with_kept a h) r b
Step a (releasing h r) b = Spends a h (with_released a h) r b
Step a (withdrawing n r) b = Withdraws a n r b
Step a (bounding n r) b = BoundsAnswered a n r × (b ≡ a)

-- the account after a call with its answer: a call that was refused changes nothing
abbrev pub after : Account → Event → Account
after a (holding c (Ok h)) = with_row a c
after a (holding c (Err e)) = a
after a (keeping h (Ok u)) = with_kept a h
after a (keeping h (Err e)) = a
after a (releasing h (Ok u)) = with_released a h
after a (releasing h (Err e)) = a
after a (withdrawing n (Ok u)) = with_withdrawn a n
after a (withdrawing n (Err e)) = a
after a (bounding n r) = a

-- the account after all calls of a list
abbrev pub after_all : Account → List Event → Account
after_all start [] = start
after_all start (e ∷ es) = after (after_all start es) e

-- each call of the list was answered as the account of the calls before it answers
abbrev pub Run : Account → List Event → Type 0
Run start [] = Unit {0}
Run start (e ∷ es) = Run start es × Step (after_all start es) e (after_all start (e ∷ es))

-- the number of what a call of hold answered, 0 where the row is held
abbrev pub answer_number : Result Hold HoldRefusal → ℕ
answer_number (Ok h) = 0
answer_number (Err e) = hold_number e

-- A hold that passes the checks before lateness was refused as late, which is number 11, exactly when no plan brings the rows then present and
-- the new one all in time.
abbrev pub LateWithoutPlan : Account → Claim → Result Hold HoldRefusal → Type 0
LateWithoutPlan a c r =
    first (hold_checks a c) ≡ 0 → ((answer_number r ≡ 11) ↔ NoPlan (system_of (c ∷ a.rows)))

-- an accepted hold of this row
abbrev pub TakesIn : Event → Claim → Type 0
TakesIn (holding d (Ok h)) c = d ≡ c
TakesIn (holding d (Err e)) c = ⊥
TakesIn (keeping h r) c = ⊥
TakesIn (releasing h r) c = ⊥
TakesIn (withdrawing n r) c = ⊥
TakesIn (bounding n r) c = ⊥

-- an accepted release or withdrawal of the row with this number
abbrev pub TakesOut : Event → ℕ → Type 0
TakesOut (holding d r) n = ⊥
TakesOut (keeping h r) n = ⊥
TakesOut (releasing h (Ok u)) n = h.row ≡ n
TakesOut (releasing h (Err e)) n = ⊥
TakesOut (withdrawing m (Ok u)) n = m ≡ n
TakesOut (withdrawing m (Err e)) n = ⊥
TakesOut (bounding m r) n = ⊥

-- the row was held and not since released or withdrawn
abbrev pub Stands : Claim → List Event → Type 0
Stands c [] = ⊥
Stands c (e ∷ es) = TakesIn e c ⊎ ((TakesOut e (number_of c) → ⊥) × Stands c es)

-- an accepted hold of a row with this number
abbrev pub GivesHold : Event → ℕ → Type 0
GivesHold (holding d (Ok h)) n = number_of d ≡ n
GivesHold (holding d (Err e)) n = ⊥
GivesHold (keeping h r) n = ⊥
GivesHold (releasing h r) n = ⊥
GivesHold (withdrawing m r) n = ⊥
GivesHold (bounding m r) n = ⊥

-- an accepted keep or release with a hold on the row of this number
abbrev pub SpendsHold : Event → ℕ → Type 0
SpendsHold (holding d r) n = ⊥
SpendsHold (keeping h (Ok u)) n = h.row ≡ n
SpendsHold (keeping h (Err e)) n = ⊥
SpendsHold (releasing h (Ok u)) n = h.row ≡ n
SpendsHold (releasing h (Err e)) n = ⊥
SpendsHold (withdrawing m r) n = ⊥
SpendsHold (bounding m r) n = ⊥

-- a hold on the row of this number was given and not since spent
abbrev pub Unspent : ℕ → List Event → Type 0
Unspent n [] = ⊥
Unspent n (e ∷ es) = GivesHold e n ⊎ ((SpendsHold e n → ⊥) × Unspent n es)
