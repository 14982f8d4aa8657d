-- The report of twelve rows fits the memory that it is lent. Assumes nothing.
use Rattle.std.proofs.Common.{ℕ, suc, ◌*◌, ◌^◌, ◌<◌, ◌≤◌, List, [], ◌∷◌, length, slice_index_or, codes, arith}
use Rattle.std.proofs.lemmas.Fmt.{length-decimal-le}
use Rattle.std.proofs.lemmas.List.{length-append}
use Rattle.analysis.specs.declared.Answer.{Answer}
use Rattle.analysis.specs.Judge.{no_answer}
use Rattle.planfile.specs.Report.{report_line, report}
use Rattle.planfile.proofs.Written.{length_line}

-- the numbers of an answer have at most so many digits
pub record SmallAnswer (a : Answer) : Type 0 where
  pub number : a.number < 1000
  pub bound : a.bound < 10 ^ 10
  pub vector : a.vector < 10 ^ 10
  pub blocking : a.blocking < 10 ^ 10

line_fits : (a : Answer) → SmallAnswer a → length (report_line a) ≤ 41
line_fits a s = omega (
  arith,
  length_line (codes "row") a.number a.bound a.vector a.blocking,
  length-decimal-le 3 a.number (omega arith) (omega arith) (omega arith),
  length-decimal-le 10 a.bound (omega arith) (omega arith) (omega arith),
  length-decimal-le 10 a.vector (omega arith) (omega arith) (omega arith),
  length-decimal-le 10 a.blocking (omega arith) (omega arith) (omega arith),
)

lines_fit : (answers : List Answer) → ((k : ℕ) → k < length answers → SmallAnswer (slice_index_or answers k no_answer)) → length (report answers) ≤ 41 * length answers
lines_fit [] s = omega arith
lines_fit (a ∷ rest) s =
    omega (arith, length-append (report_line a) (report rest), line_fits a (s 0 (omega arith)), lines_fit rest (λ k h. s (suc k) (omega arith)))

-- every report fits
pub report_fits : (answers : List Answer) → length answers ≤ 12 → ((k : ℕ) → k < length answers → SmallAnswer (slice_index_or answers k no_answer)) → length (report answers) ≤ 512
report_fits answers few s = omega (arith, lines_fit answers s)
