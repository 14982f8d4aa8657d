-- A log while it is read, and what its functions do to it. Assumes nothing.
-- How to read it: l is a log before a call and m the log after it, `before` and `after` are what was written then, and t and u are the table before
-- and after. Which bytes a log still has is known where its reader says it.
use Rattle.std.specs.Prelude.{◌≡◌, ◌≢◌, ℕ, ◌+◌, ◌≤◌, ⊤, Bool, true, false, ◌&&◌, ◌⊎◌, List, [], ◌∷◌, ◌++◌, Option, Some, None, if◌then◌else◌}
use Rattle.analysis.specs.declared.TheConstants.{MOST_ROWS}
use Rattle.analysis.specs.declared.Answer.{Answer}
use Rattle.analysis.specs.Judge.{RowsAnswered}
use Rattle.std.specs.declared.io.traits.Read.{Ghosts}
use Rattle.std.specs.Io.Iter.{bytes_remaining}
use Rattle.std.specs.Io.KnownBytes.{Appends}
use Rattle.call_log.specs.declared.answering.Next.{Next}
use Rattle.call_log.specs.declared.answering.Next.TheVariants.{Line, Table, End}
use Rattle.call_log.specs.declared.log.Log.{Log}
use Rattle.call_log.specs.Counting.{kept_of, to_come}
use Rattle.call_log.specs.Logs.{Stage, clock_due, evening, over, Turn, LineSays, LogSays, rows_text}
use Rattle.demand.specs.declared.factor.Factor.{Factor}
use Rattle.demand.specs.declared.delayed.Delayed.{Delayed}
use Rattle.demand.specs.declared.slowed.Slowed.{Slowed}
use Rattle.table.specs.declared.Table.{Table as TableOf}
use Rattle.table.specs.Account.{Account, fresh_account}
use Rattle.table.specs.Agreement.{MatchesAccount}
use Rattle.table.specs.History.{HasHistory, account_of}
use Rattle.table.specs.Runs.{Event}
use Rattle.runs.specs.declared.call.Call.{Call as TableCall}
use Rattle.runs.specs.declared.call.Reply.{Reply}
use Rattle.runs.specs.Calls.{IsEvent, call_row}
use Rattle.planfile.specs.Checks.{Jobs, row_demand}
use Rattle.planfile.specs.Fault.{by_number}
use Rattle.planfile.specs.Report.{refusal_line}
use Rattle.planfile.specs.Responses.{response_line, response_of}
use Rattle.planfile.specs.declared.request.Opening.{Opening}
use Rattle.planfile.specs.Text.{newline, parted_by}

-- a text without a newline
abbrev pub OnePiece : List ℕ → Type 0
OnePiece text = parted_by newline text ≡ text ∷ []

-- Bytes xs begin with a line, whose first bytes are kept, and go on with ys. The line has its newline, or nothing follows it.
pub record BeginsWith (xs kept ys : List ℕ) : Type 0 where
  pub line : List ℕ
  pub whole : xs ≡ line ++ ys
  pub front : kept ≡ kept_of line
  pub ends : ((text : List ℕ) × (line ≡ text ++ newline ∷ []) × OnePiece text) ⊎ (OnePiece line × (line ≢ []) × (ys ≡ []))

-- What follows from what is said of ys, from the stage t and line j on, is what is said of xs, from the stage s and line k on: `said` comes before it.
abbrev pub Leads : Stage → ℕ → List ℕ → List ℕ → Bool → Stage → ℕ → List ℕ → Type 0
Leads s k xs said ok t j ys =
    (more : List ℕ) (fine : Bool) → LogSays t j (parted_by newline ys) more fine → LogSays s k (parted_by newline xs) (said ++ more) (ok && fine)

module _ {R : Type 0} {reads : Ghosts R} where
  -- the bytes that a log still has, where they are known
  abbrev pub left_of : Log R reads → Option (List ℕ)
  left_of l = if l.ended then Some [] else bytes_remaining reads.remaining l.bytes

  -- the most bytes that a log may still give
  abbrev pub bytes_left_of : Log R reads → ℕ
  bytes_left_of l = to_come l.ended l.bytes

  -- a byte was read, or there was none
  abbrev pub ReadsByte : Log R reads → Option ℕ → Log R reads → Type 0
  ReadsByte l None m = (xs : List ℕ) → left_of l ≡ Some xs → (xs ≡ []) × (left_of m ≡ Some [])
  ReadsByte l (Some b) m = (xs : List ℕ) → left_of l ≡ Some xs → (ys : List ℕ) × (left_of m ≡ Some ys) × (xs ≡ b ∷ ys)

  -- what was left begins with the line at hand, or nothing was left
  abbrev pub TakesLine : Log R reads → Log R reads → Type 0
  TakesLine l m =
      (xs : List ℕ) → left_of l ≡ Some xs
      → (ys : List ℕ) × (left_of m ≡ Some ys) × (BeginsWith xs m.line.items ys ⊎ ((xs ≡ []) × (m.line.items ≡ []) × (ys ≡ [])))

  -- a line was read, or there was none
  abbrev pub ReadsLine : Log R reads → Bool → Log R reads → Type 0
  ReadsLine l true m = (xs : List ℕ) → left_of l ≡ Some xs → (ys : List ℕ) × (left_of m ≡ Some ys) × BeginsWith xs m.line.items ys
  ReadsLine l false m = (xs : List ℕ) → left_of l ≡ Some xs → (xs ≡ []) × (left_of m ≡ Some [])

  -- the lines read so far are as many, and whether they were well formed is known as before
  abbrev pub SameSoFar : Log R reads → Log R reads → Type 0
  SameSoFar l m = (m.number ≡ l.number) × (m.well_formed ≡ l.well_formed)

  -- the same line is at hand, as many lines were read, and the same bytes are left
  pub record SameLog (l m : Log R reads) : Type 0 where
    pub line : m.line ≡ l.line
    pub number : m.number ≡ l.number
    pub left : left_of m ≡ left_of l
    pub to_come : bytes_left_of m ≡ bytes_left_of l

  -- What was said between two moments: it follows from what is said of the bytes that are left then.
  abbrev pub Tells : Log R reads → Log R reads → Option (List ℕ) → Option (List ℕ) → Stage → Stage → Type 0
  Tells l m before after s t =
      (xs : List ℕ) → left_of l ≡ Some xs
      → (ys : List ℕ) × (left_of m ≡ Some ys) × (said : List ℕ) × (ok : Bool) × Appends before after said
      × (m.well_formed ≡ (l.well_formed && ok)) × Leads s (l.number + 1) xs said ok t (m.number + 1) ys

  -- A line that was due was read; or none came, and the log was refused for that.
  abbrev pub ReadsDue : Log R reads → Log R reads → Option (List ℕ) → Option (List ℕ) → Bool → Type 0
  ReadsDue l m before after true =
      ReadsLine l true m × (m.number ≡ l.number + 1) × (m.well_formed ≡ l.well_formed) × (after ≡ before)
  ReadsDue l m before after false =
      ReadsLine l false m × (m.well_formed ≡ false) × Appends before after (refusal_line (by_number 18))

  -- The line at hand was answered, and this came of it. The line, its number and what is left of the log are as they were.
  pub record AnswersLine (l m : Log R reads) (before after : Option (List ℕ)) (s t : Stage) : Type 0 where
    pub turn : Turn
    pub says : LineSays s l.number l.line.items turn
    pub told : Appends before after turn.said
    pub well_formed : m.well_formed ≡ (l.well_formed && turn.well_formed)
    pub next : turn.next ≡ t
    pub same : SameLog l m

-- where a log stands when a table was asked for, or none and the rest is not looked at
abbrev pub due_stage : Option Opening → Stage
due_stage None = over
due_stage (Some o) = clock_due o

-- a table that is due counts as one
abbrev pub due_count : Option Opening → ℕ
due_count None = 0
due_count (Some o) = 1

-- where an evening stands after a line
abbrev pub stage_after : Factor → Account → Next → Stage
stage_after clock a Line = evening clock a
stage_after clock a (Table o) = clock_due o
stage_after clock a End = over

-- a table that follows has no more places than a table uses
abbrev pub FewPlaces : Next → Type 0
FewPlaces Line = ⊤
FewPlaces (Table o) = o.places ≤ MOST_ROWS
FewPlaces End = ⊤

-- where a log stands behind the clock line of a table
abbrev pub clock_stage : Opening → Option Factor → Stage
clock_stage o None = over
clock_stage o (Some clock) = evening clock (fresh_account o.number o.places)

-- a table of rows as logs and plan files have them
abbrev pub RowTable : Type 0
RowTable = TableOf (Slowed (Delayed Jobs))

-- A call in this line was made, and its reply was told: whatever calls the table had been through, it has been through this one too.
abbrev pub TellsCall : ℕ → TableCall (Slowed (Delayed Jobs)) → RowTable → RowTable → Option (List ℕ) → Option (List ℕ) → Type 0
TellsCall line call t u before after =
    (es : List Event) → HasHistory row_demand es t
    → (r : Reply) × (e : Event) × IsEvent row_demand u.number call r e × HasHistory row_demand (e ∷ es) u
    × Appends before after (response_line (response_of line (call_row call) r))

-- all rows of the table were told, highest first, with what is answered for them
abbrev pub TellsRows : RowTable → Option (List ℕ) → Option (List ℕ) → Type 0
TellsRows t before after =
    (said : List ℕ) × Appends before after said
    × MatchesAccount row_demand (λ a. (all : List Answer) × RowsAnswered a.rows all × (said ≡ rows_text a all)) t

-- The line at hand was answered in an evening: as one that stands behind the calls which the table had been through.
abbrev pub AnswersInEvening : {R : Type 0} {reads : Ghosts R} → Log R reads → Log R reads → Option (List ℕ) → Option (List ℕ) → Factor → RowTable → RowTable → Next → Type 0
AnswersInEvening l m before after clock t u next =
    (es : List Event) → HasHistory row_demand es t
    → (all : List Event) × HasHistory row_demand all u
    × AnswersLine l m before after (evening clock (account_of es t)) (stage_after clock (account_of all u) next)
