-- Rows that are held and at once kept, or held and at once given up. Assumes nothing.
-- How to read it: a is the account before the two calls, b the one after them, c a row with the meaning of its kind.
use Rattle.std.specs.Prelude.{◌≡◌, ℕ, List, ◌∷◌, Ok, Err, Result}
use Rattle.analysis.specs.declared.answers.Answers.{Answers}
use Rattle.analysis.specs.Judge.{RowsAnswered, answers_of}
use Rattle.analysis.specs.Ranks.{Claim}
use Rattle.table.specs.declared.hold.Hold.{Hold}
use Rattle.table.specs.declared.refusals.HoldRefusal.{HoldRefusal}
use Rattle.table.specs.Runs.{Event, holding}
use Rattle.runs.specs.Calls.{on_row, spending}
use Rattle.runs.specs.declared.call.Way.{Way}
use Rattle.runs.specs.declared.call.Way.TheVariants.{KeepRow, GiveUp}
use Rattle.table.specs.Account.{Account, Accepted, Refused, number_of, with_row, with_kept}

-- the hold that the account gives on a row
abbrev pub hold_on : Account → Claim → Hold
hold_on a c = record { table = a.number; row = number_of c }

-- the row was accepted, with these answers for all rows then
abbrev pub AcceptedWith : Account → Claim → Answers → Type 0
AcceptedWith a c all = Accepted a c (hold_on a c) × RowsAnswered (c ∷ a.rows) (answers_of all)

-- the row was held and kept, or refused, and then nothing has changed
abbrev pub KeepsRow : Account → Claim → Result Answers HoldRefusal → Account → Type 0
KeepsRow a c (Ok all) b = AcceptedWith a c all × (b ≡ with_kept (with_row a c) (hold_on a c))
KeepsRow a c (Err e) b = Refused a c e × (b ≡ a)

-- the row was held and given up, or refused; nothing has changed
abbrev pub GivesRowUp : Account → Claim → Result Answers HoldRefusal → Account → Type 0
GivesRowUp a c (Ok all) b = AcceptedWith a c all × (b ≡ a)
GivesRowUp a c (Err e) b = Refused a c e × (b ≡ a)

-- the same, by the way in which the hold was spent
abbrev pub Passes : Way → Account → Claim → Result Answers HoldRefusal → Account → Type 0
Passes KeepRow = KeepsRow
Passes GiveUp = GivesRowUp

-- What a table has been through when the row was held and its hold spent, or the row refused, behind the calls es.
abbrev pub passing : Way → ℕ → Claim → Result Answers HoldRefusal → List Event → List Event
passing way table c (Ok all) es =
    spending way (on_row table (number_of c)) (Ok tt) ∷ holding c (Ok (on_row table (number_of c))) ∷ es
passing way table c (Err e) es = holding c (Err e) ∷ es
