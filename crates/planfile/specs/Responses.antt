-- What is written for a line of a log. Assumes nothing.
-- How to read it: a response is a value of the code; `response_line` is its text, with the newline. `response_of` is what a reply to a call comes
-- to, where the call is about row n and stands in line k of a log.
use Rattle.std.specs.Prelude.{ℕ, Bool, true, false, List, [], ◌∷◌, ◌++◌, Ok, Err, codes}
use Rattle.analysis.specs.declared.Answer.{Answer}
use Rattle.table.specs.Account.{hold_late}
use Rattle.runs.specs.declared.call.Reply.{Reply}
use Rattle.runs.specs.declared.call.Reply.TheVariants.{Hold, Keep, Release, Withdraw, Bound}
use Rattle.runs.specs.Calls.{reply_number}
use Rattle.planfile.specs.declared.response.Response.{Response}
use Rattle.planfile.specs.declared.response.Response.TheVariants.{Held, Kept, Released, Withdrawn, Bounded, Row, Refused}
use Rattle.planfile.specs.declared.fault.Blame.{Blame}
use Rattle.planfile.specs.Report.{line_of, number_fields}
use Rattle.planfile.specs.Text.{newline, tab}

-- whether a row is held or kept, in a word
abbrev pub standing_word : Bool → List ℕ
standing_word true = codes "held"
standing_word false = codes "kept"

-- the line of a row in a list of all: number, bound, vector, blocking, and how it stands
abbrev pub row_response : Answer → Bool → List ℕ
row_response a held =
    codes "row"
    ++ (number_fields (a.number ∷ a.bound ∷ a.vector ∷ a.blocking ∷ [])
    ++ (tab ∷ standing_word held ++ newline ∷ []))

-- the text of a response
abbrev pub response_line : Response → List ℕ
response_line (Held n) = line_of (codes "held") (n ∷ [])
response_line (Kept n) = line_of (codes "kept") (n ∷ [])
response_line (Released n) = line_of (codes "released") (n ∷ [])
response_line (Withdrawn n) = line_of (codes "withdrawn") (n ∷ [])
response_line (Bounded n bound vector) = line_of (codes "bound") (n ∷ bound ∷ vector ∷ [])
response_line (Row a held) = row_response a held
response_line (Refused k field number late) = line_of (codes "refused") (k ∷ field ∷ number ∷ late ∷ [])

-- the late row that a reply names, else 0
abbrev pub reply_late : Reply → ℕ
reply_late (Hold (Ok u)) = 0
reply_late (Hold (Err e)) = hold_late e
reply_late (Keep r) = 0
reply_late (Release r) = 0
reply_late (Withdraw r) = 0
reply_late (Bound r) = 0

-- the refusal of line k, with what is blamed but for its line
abbrev pub refusal_of : ℕ → Blame → Response
refusal_of k b = Refused k b.field b.number b.late

-- the refusal of line k by a reply, which names no field
abbrev pub reply_refusal : ℕ → Reply → Response
reply_refusal k r = Refused k 0 (reply_number r) (reply_late r)

-- what a reply comes to
abbrev pub response_of : ℕ → ℕ → Reply → Response
response_of k n (Hold (Ok u)) = Held n
response_of k n (Hold (Err e)) = reply_refusal k (Hold (Err e))
response_of k n (Keep (Ok u)) = Kept n
response_of k n (Keep (Err e)) = reply_refusal k (Keep (Err e))
response_of k n (Release (Ok u)) = Released n
response_of k n (Release (Err e)) = reply_refusal k (Release (Err e))
response_of k n (Withdraw (Ok u)) = Withdrawn n
response_of k n (Withdraw (Err e)) = reply_refusal k (Withdraw (Err e))
response_of k n (Bound (Ok p)) = Bounded n p.0 p.1
response_of k n (Bound (Err e)) = reply_refusal k (Bound (Err e))
