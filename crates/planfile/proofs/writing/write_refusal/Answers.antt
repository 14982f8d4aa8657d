-- The line of a refusal has four numbers of ten digits at most, so it fits.
use Rattle.std.proofs.Common.{ℕ, ◌^◌, ◌<◌, ◌≤◌, [], ◌∷◌, length, codes, decimal, ap, arith}
use Rattle.std.proofs.lemmas.Fmt.{length-decimal-le}
use Rattle.planfile.specs.Report.{line_of}
use Rattle.planfile.proofs.Written.{length_line}
use Rattle.planfile.proofs.writing.write_refusal.Goals as goal

ten_digits : (n : ℕ) → n < 2 ^ 32 → length (decimal n) ≤ 10
ten_digits n h = length-decimal-le 10 n (omega arith) (omega arith) (omega arith)

fits : (a b c d : ℕ) → a < 2 ^ 32 → b < 2 ^ 32 → c < 2 ^ 32 → d < 2 ^ 32 → length (line_of (codes "refused") (a ∷ b ∷ c ∷ d ∷ [])) ≤ 512
fits a b c d p q r s = omega (arith, length_line (codes "refused") a b c d, ten_digits a p, ten_digits b q, ten_digits c r, ten_digits d s)

pub push_line-requires : goal.push_line-requires
push_line-requires c =
    omega (arith, ap length c.new-text.ensures, fits c.from.result c.from-2.result c.from-3.result c.from-4.result (omega arith) (omega arith) (omega arith) (omega arith))

pub write_text-requires : goal.write_text-requires
write_text-requires c =
    omega (arith, simp c.new-text.ensures at (ap length c.push_line.ensures), fits c.from.result c.from-2.result c.from-3.result c.from-4.result (omega arith) (omega arith) (omega arith) (omega arith))
