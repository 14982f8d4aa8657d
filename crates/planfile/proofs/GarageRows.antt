-- The rows of the worked garage, with any deadlines, and their bounds, computed. Assumes nothing.
use Rattle.std.proofs.Common.{ℕ, zero, suc, T, nat_le, [], ◌∷◌, arith}
use Rattle.analysis.specs.Plans.{System, Bounds}
use Rattle.analysis.specs.Ranks.{Claim, system_of}
use Rattle.analysis.proofs.Tested.{bound_by}
use Rattle.planfile.specs.Checks.{claim_of}
use Rattle.planfile.specs.Figures.{garage_bounds, garage_vectors, even_clock, entry_with}

-- the meters, with this deadline
abbrev pub row_1 : ℕ → Claim
row_1 deadline = claim_of even_clock (entry_with 1 30 3 1 deadline 1 2 10)

-- the card reader
abbrev pub row_2 : Claim
row_2 = claim_of even_clock (entry_with 2 20 0 0 15 0 3 16)

-- the car, with this deadline
abbrev pub row_3 : ℕ → Claim
row_3 deadline = claim_of even_clock (entry_with 3 10 0 0 deadline 2 5 40)

abbrev pub one : ℕ → System
one m = system_of (row_1 m ∷ [])

abbrev pub two : ℕ → System
two m = system_of (row_2 ∷ row_1 m ∷ [])

-- all three, with these deadlines for the meters and the car
abbrev pub three : ℕ → ℕ → System
three m c = system_of (row_3 c ∷ row_2 ∷ row_1 m ∷ [])

pub one_row : (m : ℕ) → T (nat_le 5 m) → Bounds (one m) 1 (λ _. 5) (λ _. 0)
one_row m h zero l = bound_by (one m) (λ _. 5) 0 5 0 tt h tt tt tt tt
one_row m h (suc k) l = absurd (omega arith)

pub two_rows : (m : ℕ) → T (nat_le 5 m) → Bounds (two m) 2 (λ _. 5) (λ _. 0)
two_rows m h zero l = bound_by (two m) (λ _. 5) 0 5 0 tt h tt tt tt tt
two_rows m h (suc zero) l = bound_by (two m) (λ _. 5) 1 5 0 tt tt tt tt tt tt
two_rows m h (suc (suc k)) l = absurd (omega arith)

-- the meters and the card reader, with the car below them
pub above_car : (m c : ℕ) → T (nat_le 9 m) → Bounds (three m c) 2 garage_bounds garage_vectors
above_car m c h zero l = bound_by (three m c) garage_bounds 0 9 0 tt h tt tt tt tt
above_car m c h (suc zero) l = bound_by (three m c) garage_bounds 1 9 0 tt tt tt tt tt tt
above_car m c h (suc (suc k)) l = absurd (omega arith)

pub three_rows : (m c : ℕ) → T (nat_le 9 m) → T (nat_le 14 c) → Bounds (three m c) 3 garage_bounds garage_vectors
three_rows m c h i zero l = above_car m c h 0 (omega arith)
three_rows m c h i (suc zero) l = above_car m c h 1 (omega arith)
three_rows m c h i (suc (suc zero)) l = bound_by (three m c) garage_bounds 2 14 2 tt i tt tt tt tt
three_rows m c h i (suc (suc (suc k))) l = absurd (omega arith)
