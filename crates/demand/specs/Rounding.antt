-- Division that rounds up. Assumes nothing.
-- How to read it: theorems with their proofs, about `div_up n d`, where d is not 0. Laws.antt and Runs.antt use them.
use Rattle.std.specs.Prelude.{◌≡◌, ℕ, ◌+◌, ◌-◌, ◌*◌, ◌/◌, ◌%◌, ◌<◌, ◌≤◌, min, ◌≢◌}
use Rattle.std.proofs.Common.{⊎_elim, add-mul, div-add-mod', arith}
use Rattle.std.proofs.Math.Nat.{div-eq_of_lt-le}
use Rattle.std.proofs.lemmas.Nat.{mod_below, div_below, mul-le}
use Rattle.std.proofs.lemmas.Bool.{cases_lt, cases_eq}
use Rattle.demand.specs.Demand.{div_up}

-- the quotient rounded up is the least number of parts of d that cover n
pub up_least : (n d k : ℕ) → 0 < d → n ≤ k * d → div_up n d ≤ k
up_least n d k pos fits = omega (arith, div_below (n + (d - 1)) d (k + 1) pos (omega (arith, add-mul k 1 d)))

-- and they do cover n
pub up_covers : (n d : ℕ) → 0 < d → n ≤ div_up n d * d
up_covers n d pos = omega (arith, div-add-mod' (n + (d - 1)) d, mod_below (n + (d - 1)) d pos)

-- a larger n has no smaller quotient
pub up_never_falls : (m n d : ℕ) → 0 < d → m ≤ n → div_up m d ≤ div_up n d
up_never_falls m n d pos le = up_least m d (div_up n d) pos (omega (arith, up_covers n d pos))

-- where n is not 0, neither is the quotient
pub up_positive : (n d : ℕ) → 0 < d → 1 ≤ n → 1 ≤ div_up n d
up_positive n d pos some =
    ⊎_elim (λ none. omega (arith, up_covers n d pos, mul-le (div_up n d) d 0 d (omega arith) (omega arith))) (λ h. h) (cases_lt (div_up n d) 1)

-- where d divides n, nothing is rounded
up_exact : (n d : ℕ) → 0 < d → n % d ≡ 0 → div_up n d ≡ n / d
up_exact n d pos none =
    let whole = div-add-mod' n d in
    div-eq_of_lt-le d (omega arith) (omega (arith, add-mul (n / d) 1 d))

-- elsewhere it is one more than the quotient rounded down
up_more : (n d : ℕ) → 0 < d → (n % d ≢ 0) → div_up n d ≡ n / d + 1
up_more n d pos some =
    let whole = div-add-mod' n d in
    let rest = mod_below n d pos in
    let lower = add-mul (n / d) 1 d in
    let upper = add-mul (n / d + 1) 1 d in
    div-eq_of_lt-le d (omega arith) (omega arith)

-- as the code rounds
pub up_is : (n d : ℕ) → 0 < d → n / d + min 1 (n % d) ≡ div_up n d
up_is n d pos =
    ⊎_elim (λ none. omega (arith, up_exact n d pos none)) (λ some. omega (arith, up_more n d pos some)) (cases_eq (n % d) 0)

-- the quotient is at most n
pub up_within : (n d : ℕ) → 0 < d → div_up n d ≤ n
up_within n d pos = up_least n d n pos (omega (arith, mul-le n 1 n d (omega arith) pos))

-- two parts that are rounded up apart come to no less than together
pub up_of_sum : (a b d : ℕ) → 0 < d → div_up (a + b) d ≤ div_up a d + div_up b d
up_of_sum a b d pos =
    up_least (a + b) d (div_up a d + div_up b d) pos
    (omega (arith, up_covers a d pos, up_covers b d pos, add-mul (div_up a d) (div_up b d) d))

-- the quotient of n + 1, by that of n rounded down
up_next : (n d : ℕ) → 0 < d → div_up (n + 1) d ≡ n / d + 1
up_next n d pos =
    let whole = div-add-mod' n d in
    let rest = mod_below n d pos in
    let lower = add-mul (n / d) 1 d in
    let upper = add-mul (n / d + 1) 1 d in
    div-eq_of_lt-le d (omega arith) (omega arith)

-- one more: the quotient rounded up rises just where d divides n
pub up_next_exact : (n d : ℕ) → 0 < d → n % d ≡ 0 → div_up (n + 1) d ≡ div_up n d + 1
up_next_exact n d pos none = omega (arith, up_next n d pos, up_is n d pos)

-- and else it stays
pub up_next_more : (n d : ℕ) → 0 < d → (n % d ≢ 0) → div_up (n + 1) d ≡ div_up n d
up_next_more n d pos some = omega (arith, up_next n d pos, up_is n d pos)
