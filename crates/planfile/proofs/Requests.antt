-- The lines of a log. Assumes nothing.
use Rattle.std.proofs.Common.{◌≡◌, ℕ, Bool, true, false, not, ◌||◌, List, length, nat_lt, refl}
use Rattle.planfile.specs.Fault.{nothing, first_blame}
use Rattle.planfile.specs.Requests.{end_checks}
use Rattle.planfile.specs.Text.{ends_with_newline}
use Rattle.planfile.proofs.Blames.{none_apply, numbered_end}

-- where neither applies
neither : (a b : Bool) → (a || not b) ≡ false → (a ≡ false) × (b ≡ true)
neither true b e = absurd (cc)
neither false true e = (refl, refl)
neither false false e = absurd (cc)

-- a line that passes has its newline
pub ended_so : (text : List ℕ) → first_blame (end_checks text) ≡ nothing → ends_with_newline text ≡ true
ended_so text e = (neither (nat_lt 4096 (length text)) (ends_with_newline text) (none_apply (end_checks text) (numbered_end text) e).0).1
