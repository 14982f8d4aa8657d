-- The numbers so far are those in their fields.
use Rattle.std.proofs.Common.{◌≡◌, length, take}
use Rattle.planfile.specs.Fault.{nothing, first_blame}
use Rattle.planfile.specs.Checks.{number_checks, numbers_in}
use Rattle.planfile.proofs.row.read_numbers.Given as goal

abbrev pub invariant-loop-i : goal.invariant-loop-i
invariant-loop-i g l =
    (length l.number-items ≡ g.row.N) × (first_blame (number_checks l.line l.start l.i) ≡ nothing) × (take l.i l.number-items ≡ numbers_in l.line l.start l.i)
