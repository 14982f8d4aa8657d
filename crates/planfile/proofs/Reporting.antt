-- The rows of a file have small numbers, so their report fits. Assumes nothing.
use Rattle.std.proofs.Common.{◌≡◌, ℕ, zero, suc, ◌+◌, ◌^◌, ◌<◌, ◌≤◌, List, [], ◌∷◌, length, slice_index_or, Ok, sym, subst, inl, inr, arith, pow_mono}
use Rattle.std.specs.Prelude.{All}
use Rattle.std.proofs.lemmas.List.Elements.{All-nil, All-cons, All-head, All-tail}
use Rattle.std.proofs.lemmas.List.Sorted.{All-permutation}
use Rattle.analysis.specs.declared.Answer.{Answer}
use Rattle.analysis.specs.declared.Row.{Row}
use Rattle.analysis.specs.Judge.{Answered, InTime, no_answer, bounds_of, vectors_of}
use Rattle.analysis.specs.Ranks.{Claim, ranking, rows as rows_alone, loads, loads_of, load_at, system_of}
use Rattle.analysis.proofs.Best.{best_plan}
use Rattle.analysis.proofs.Order.{highest_first}
use Rattle.table.specs.Account.{number_of}
use Rattle.table.specs.Agreement.{LawfulRows}
use Rattle.table.proofs.Shared.{passed, needs_grow, length_ranks}
use Rattle.demand.specs.declared.factor.Factor.{Factor}
use Rattle.planfile.specs.Checks.{entry_of}
use Rattle.planfile.specs.Reading.{account_with, claim_in, RowTaken, RowsRead, LinesRead}
use Rattle.planfile.specs.Report.{report}
use Rattle.planfile.specs.Text.{fields}
use Rattle.planfile.proofs.ReportSize.{SmallAnswer, report_fits}
use Rattle.planfile.proofs.RowsAccepted.{claim_lawful}

-- a row's number and deadline are within their limits
pub record Limited (c : Claim) : Type 0 where
  pub number : number_of c ≤ 255
  pub deadline : c.row.deadline ≤ 1_000_000

abbrev AllLimited : List Claim → Type 0
AllLimited = All Limited

-- a row that is taken is within its limits, and there was room for it
row_limited : (clock : Factor) (rows : List Claim) (fs : List (List ℕ)) → RowTaken clock rows fs → Limited (claim_in clock fs) × (length rows < 12)
row_limited clock rows fs taken =
    let p = passed (account_with rows) (claim_in clock fs) taken.accepted.passes in
    let law = claim_lawful clock (entry_of fs) in
    (record { number = p.byte; deadline = let a = p.deadline in let b = law.spacing_limited in omega arith }, p.room)

rows_limited : (clock : Factor) (n : ℕ) (rows : List Claim) (ls : List (List ℕ)) (out : List Claim) → RowsRead clock n rows ls (Ok out) → AllLimited rows → length rows ≤ 12 → AllLimited out × (length out ≤ 12)
rows_limited clock n rows [] out read small few =
    let e : out ≡ rows = cc in
    subst (λ (cs : List Claim). AllLimited cs × (length cs ≤ 12)) (sym e) (small, few)
rows_limited clock n rows (l ∷ ls) out (inl (b, refused, e)) small few =
    absurd (cc)
rows_limited clock n rows (l ∷ ls) out (inr (taken, read)) small few =
    let one = row_limited clock rows (fields l) taken in
    rows_limited clock (n + 1) (claim_in clock (fields l) ∷ rows) ls out read (All-cons Limited (claim_in clock (fields l)) rows one.0 small) (let r = one.1 in omega arith)

lines_limited : (text : List ℕ) (out : List Claim) → LinesRead text (Ok out) → AllLimited out × (length out ≤ 12)
lines_limited text out (inl (some, e)) =
    absurd (cc)
lines_limited text out (inr (pass, read)) = rows_limited _ 2 [] _ out read (All-nil Limited) (omega arith)

limited_at : (all : List Row) (cs : List Claim) → AllLimited cs → (k : ℕ) → k < length (loads_of all cs) → Limited (load_at (loads_of all cs) k).claim
limited_at all [] h k l = absurd (omega arith)
limited_at all (c ∷ cs) h zero l = All-head Limited c cs h
limited_at all (c ∷ cs) h (suc k) l = limited_at all cs (All-tail Limited c cs h) k (omega arith)

-- the answer for a rank is small
small_answer : (rows : List Claim) (answers : List Answer) → AllLimited rows → length rows ≤ 12 → Answered (loads (ranking rows)) answers → (k : ℕ) → k < length answers → SmallAnswer (slice_index_or answers k no_answer)
small_answer rows answers small few answered k l =
    let ls = loads (ranking rows) in
    let within : k < length ls = (let e = answered.count in omega arith) in
    let low : k ≤ 12 = (let e = length_ranks rows in omega arith) in
    let one = limited_at (rows_alone (ranking rows)) (ranking rows) (All-permutation Limited rows (ranking rows) (highest_first rows).reordered small) k within in
    let row = answered.rows k within in
    let cover = (answered.bounds k within).covers in
    let vectors : 2 ^ k ≤ 2 ^ 12 = pow_mono low in
    record {
      number = omega (arith, row.number, one.number);
      bound = omega (arith, cover.to_deadline, one.deadline);
      vector = omega (arith, cover.vector, vectors);
      blocking = omega (arith, row.blocking, cover.covered, cover.to_deadline, one.deadline);
    }

-- the report of the rows of a file fits
pub fits : (text : List ℕ) (rows : List Claim) (answers : List Answer) → LinesRead text (Ok rows) → Answered (loads (ranking rows)) answers → length (report answers) ≤ 512
fits text rows answers read answered =
    let limits = lines_limited text rows read in
    report_fits answers (let e = answered.count in let f = length_ranks rows in let g = limits.1 in omega arith) (small_answer rows answers limits.0 limits.1 answered)

-- and its answers are the best plan's
pub all_in_time : (text : List ℕ) (rows : List Claim) (answers : List Answer) → LinesRead text (Ok rows) → LawfulRows rows → Answered (loads (ranking rows)) answers → InTime rows answers
all_in_time text rows answers read lawful answered =
    record {
      few = (lines_limited text rows read).1;
      answered = answered;
      best_plan = best_plan (system_of rows) (needs_grow rows lawful) (bounds_of answers) (vectors_of answers) answered.bounds;
    }
