-- What the account answers to calls with the rows of the worked garage, computed. Assumes nothing.
use Rattle.std.proofs.Common.{◌≡◌, ℕ, T, nat_le, [], ◌∷◌, Ok, refl, arith}
use Rattle.analysis.proofs.Tested.{late_by}
use Rattle.demand.specs.Refusals.{first}
use Rattle.table.specs.declared.refusals.HoldRefusal.TheVariants.{Late}
use Rattle.table.specs.Account.{Accepted, Refused, Withdraws, BoundsAnswered, hold_checks}
use Rattle.planfile.specs.Figures.{garage_bounds, garage_vectors, car_hold, all_kept, car_gone}
use Rattle.planfile.specs.Reading.{account_with}
use Rattle.planfile.proofs.GarageRows.{row_1, row_2, row_3, three, two_rows, above_car, three_rows}

-- the car is accepted where the meters have a deadline of 9 or more, and it has one of 14 or more
pub car_accepted : (m c : ℕ) → T (nat_le 9 m) → T (nat_le 14 c) → first (hold_checks (account_with (row_2 ∷ row_1 m ∷ [])) (row_3 c)) ≡ 0 → Accepted (account_with (row_2 ∷ row_1 m ∷ [])) (row_3 c) car_hold
car_accepted m c h i pass =
    record { passes = pass; in_time = record { R = garage_bounds; V = garage_vectors; bounds = three_rows m c h i }; table = refl; row = refl }

-- with 13 it is late
pub car_late : Refused (account_with (row_2 ∷ row_1 10 ∷ [])) (row_3 13) (Late 3)
car_late =
    record {
      by_number = refl;
      late = λ _. (
        2,
        record { R = garage_bounds; V = garage_vectors; within = omega arith; above = above_car 10 13 tt; none = late_by (three 10 13) garage_bounds 2 tt },
        refl,
      );
    }

-- with it, meters that have 8 are late
pub meters_late : Refused (account_with (row_2 ∷ row_1 8 ∷ [])) (row_3 40) (Late 1)
meters_late =
    record {
      by_number = refl;
      late = λ _. (
        0,
        record { R = garage_bounds; V = garage_vectors; within = omega arith; above = λ k h. absurd (omega arith); none = late_by (three 8 40) garage_bounds 0 tt },
        refl,
      );
    }

-- the car is withdrawn
pub car_withdrawn : Withdraws all_kept 3 (Ok tt) car_gone
car_withdrawn = (refl, refl)

-- then the bounds of the others are asked for
pub then_one : BoundsAnswered car_gone 1 (Ok (5, 0))
then_one = record { rank = 0; within = omega arith; number = refl; R = λ _. 5; V = λ _. 0; bounds = two_rows 10 tt; bound = refl; vector = refl }

pub then_two : BoundsAnswered car_gone 2 (Ok (5, 0))
then_two = record { rank = 1; within = omega arith; number = refl; R = λ _. 5; V = λ _. 0; bounds = two_rows 10 tt; bound = refl; vector = refl }
