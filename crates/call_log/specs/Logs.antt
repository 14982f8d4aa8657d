-- What is written for a log of calls. Assumes nothing.
-- How to read it: from one line (`LineSays`) to all of them (`LogSays`). A log is a list of bytes; its pieces are what newlines part, so each piece
-- but the last is a line, and the last is empty where the log ends with a newline. k is the number of a line, counted from 1. A `Turn` is what
-- comes of one: what is said, whether the line was well formed, and where the log stands then.
use Rattle.std.specs.Prelude.{◌≡◌, ◌≢◌, ℕ, ◌+◌, Bool, true, false, ◌&&◌, ◌⊎◌, List, [], ◌∷◌, ◌++◌, Some, Option}
use Rattle.std.specs.Io.KnownBytes.{Appends}
use Rattle.std.specs.List.{flat_map}
use Rattle.demand.specs.declared.factor.Factor.{Factor}
use Rattle.analysis.specs.declared.Answer.{Answer}
use Rattle.analysis.specs.Judge.{RowsAnswered}
use Rattle.table.specs.Account.{Account, fresh_account, has_hold_on}
use Rattle.table.specs.Runs.{Event, Step, after}
use Rattle.runs.specs.declared.call.Reply.{Reply}
use Rattle.runs.specs.Calls.{IsEvent, call_row}
use Rattle.planfile.specs.declared.fault.Blame.{Blame}
use Rattle.planfile.specs.declared.request.Opening.{Opening}
use Rattle.planfile.specs.declared.request.Request.{Request}
use Rattle.planfile.specs.declared.request.Request.TheVariants.{Table, Call, Rows}
use Rattle.planfile.specs.Checks.{clock_of, row_demand}
use Rattle.planfile.specs.Fault.{nothing, at_line, by_number, first_blame}
use Rattle.planfile.specs.Reading.{first_fields}
use Rattle.planfile.specs.Report.{refusal_line}
use Rattle.planfile.specs.Requests.{opening_checks, opening_of, clock_line_checks, request_checks, request_of}
use Rattle.planfile.specs.Responses.{response_line, response_of, row_response}
use Rattle.planfile.specs.Text.{newline, parted_by}

-- Where a log stands: a table line is due, or the clock line of a table, or the evening goes on, with its clock and the account of its table, or the
-- rest is not looked at.
pub data Stage : Type 0 where
  table_due : Stage
  clock_due : Opening → Stage
  evening : Factor → Account → Stage
  over : Stage

-- What comes of a line.
pub record Turn : Type 0 where
  pub said : List ℕ
  pub well_formed : Bool
  pub next : Stage

-- the line is fine, and this is said
abbrev pub says : List ℕ → Stage → Turn
says text next = record { said = text; well_formed = true; next = next }

-- line k is refused for this
abbrev pub refuses : ℕ → Blame → Stage → Turn
refuses k b next = record { said = refusal_line (at_line k b); well_formed = false; next = next }

-- b is what the first check of line k says that applies. If one does, the line is refused for it, and the log stands at s; else there is more to say.
abbrev pub Checked : ℕ → Blame → Stage → Turn → Type 0 → Type 0
Checked k b s turn More = ((b.number ≢ 0) × (turn ≡ refuses k b s)) ⊎ ((b ≡ nothing) × More)

-- the lines of these rows, and whether each is held: its hold is unspent
abbrev pub rows_text : Account → List Answer → List ℕ
rows_text a answers = flat_map (λ x. row_response x (has_hold_on x.number a.holds)) answers

-- What comes of line k where a table line is due, which is this text with its newline.
abbrev pub TableSays : ℕ → List ℕ → Turn → Type 0
TableSays k text turn =
    Checked k (first_blame (opening_checks text)) over turn (turn ≡ says [] (clock_due (opening_of (first_fields text))))

-- What comes of a request in line k, which is this text, with this account before it.
abbrev pub RequestSays : Factor → Account → ℕ → List ℕ → Request → Turn → Type 0
-- the evening is over, and the table line is read as one that is due
RequestSays clock a k text Table turn = TableSays k text turn
-- a call is answered as the account answers it
RequestSays clock a k text (Call c) turn =
    (r : Reply) × (e : Event) × IsEvent row_demand a.number c r e × ∥ Step a e (after a e) ∥₁
    × (turn ≡ says (response_line (response_of k (call_row c) r)) (evening clock (after a e)))
-- all rows are told, highest first, with what is answered for them
RequestSays clock a k text Rows turn =
    ∥ ((all : List Answer) × RowsAnswered a.rows all × (turn ≡ says (rows_text a all) (evening clock a))) ∥₁

-- What comes of line k, which is this text with its newline.
abbrev pub LineSays : Stage → ℕ → List ℕ → Turn → Type 0
LineSays table_due k text turn = TableSays k text turn
LineSays (clock_due o) k text turn =
    Checked k (first_blame (clock_line_checks text)) over turn (turn ≡ says [] (evening (clock_of (first_fields text)) (fresh_account o.number o.places)))
LineSays (evening clock a) k text turn =
    Checked k (first_blame (request_checks text)) (evening clock a) turn
    ((request : Request) × (request_of clock a.number text ≡ Some request) × RequestSays clock a k text request turn)
LineSays over k text turn = turn ≡ says [] over

-- What comes of the end of a log, behind whose last newline this piece stands, as line k. A line without its newline is refused by 18, and so is a log
-- that ends where a table line or a clock line is due; then no line is to blame.
abbrev pub end_says : Stage → ℕ → List ℕ → Turn
end_says over k last = says [] over
end_says table_due k (b ∷ bs) = refuses k (by_number 18) over
end_says table_due k [] = refuses 0 (by_number 18) over
end_says (clock_due o) k (b ∷ bs) = refuses k (by_number 18) over
end_says (clock_due o) k [] = refuses 0 (by_number 18) over
end_says (evening clock a) k (b ∷ bs) = refuses k (by_number 18) over
end_says (evening clock a) k [] = says [] over

-- What comes of pieces, the first of which is line k: what is said of all, and whether all lines were well formed.
abbrev pub LogSays : Stage → ℕ → List (List ℕ) → List ℕ → Bool → Type 0
LogSays s k [] said ok = ⊥
LogSays s k (last ∷ []) said ok = (said ≡ (end_says s k last).said) × (ok ≡ (end_says s k last).well_formed)
LogSays s k (line ∷ next ∷ rest) said ok =
    (turn : Turn) × LineSays s k (line ++ newline ∷ []) turn
    × (more : List ℕ) × (fine : Bool) × LogSays turn.next (k + 1) (next ∷ rest) more fine
    × (said ≡ turn.said ++ more) × (ok ≡ (turn.well_formed && fine))

-- what is written for a whole log, and whether all of its lines were well formed
abbrev pub Replayed : List ℕ → List ℕ → Bool → Type 0
Replayed log said ok = LogSays table_due 1 (parted_by newline log) said ok

-- A log was answered: where its bytes are known, what is written for it was appended to what was written before.
abbrev pub AnswersLog : Option (List ℕ) → Option (List ℕ) → Option (List ℕ) → Bool → Type 0
AnswersLog log before after ok =
    (bytes : List ℕ) → log ≡ Some bytes → (said : List ℕ) × Appends before after said × Replayed bytes said ok
