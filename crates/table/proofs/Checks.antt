-- What the number of a list of checks says of each check. Assumes nothing.
use Rattle.std.proofs.Common.{◌≡◌, ℕ, Bool, true, false, not, [], ◌∷◌, refl, arith}
use Rattle.demand.specs.Refusals.{first}

-- The number for a hold that is unspent or not, for a row that is there or not and held or not, and for one that is there or not.
abbrev pub spend_says : Bool → ℕ
spend_says unspent = first ((not unspent, 12) ∷ [])

abbrev pub withdraw_says : Bool → Bool → ℕ
withdraw_says there held = first ((not there, 13) ∷ (held, 14) ∷ [])

abbrev pub bound_says : Bool → ℕ
bound_says there = first ((not there, 13) ∷ [])

pub unspent_passes : (u : Bool) → u ≡ true → spend_says u ≡ 0
unspent_passes u e = rw e refl

pub spent_applies : (u : Bool) → u ≡ false → spend_says u ≡ 12
spent_applies u e = rw e refl

pub is_unspent : (u : Bool) → spend_says u ≡ 0 → u ≡ true
is_unspent true e = refl
is_unspent false e = absurd (omega arith)

pub is_not_unspent : (u : Bool) → spend_says u ≡ 12 → u ≡ false
is_not_unspent true e = absurd (omega arith)
is_not_unspent false e = refl

pub withdraw_passes : (r h : Bool) → r ≡ true → h ≡ false → withdraw_says r h ≡ 0
withdraw_passes r h e f = rw (e, f) refl

pub no_row_applies : (r h : Bool) → r ≡ false → withdraw_says r h ≡ 13
no_row_applies r h e = rw e refl

pub held_applies : (r h : Bool) → r ≡ true → h ≡ true → withdraw_says r h ≡ 14
held_applies r h e f = rw (e, f) refl

pub not_held : (r h : Bool) → withdraw_says r h ≡ 0 → h ≡ false
not_held true true e = absurd (omega arith)
not_held true false e = refl
not_held false h e = absurd (omega arith)

pub absent_applies : (r : Bool) → r ≡ false → bound_says r ≡ 13
absent_applies r e = rw e refl

pub is_absent : (r : Bool) → bound_says r ≡ 13 → r ≡ false
is_absent true e = absurd (omega arith)
is_absent false e = refl
