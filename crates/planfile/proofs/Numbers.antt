-- Numbers that are read, and numbers that are written. Assumes nothing.
use Rattle.std.proofs.Common.{◌≡◌, ℕ, suc, ◌+◌, ◌-◌, ◌*◌, ◌^◌, ◌<◌, ◌≤◌, Bool, true, false, not, nat_lt, nat_le, ◌⊎◌, Option, Some, None, List, [], ◌∷◌, ◌++◌, map, length, slice_index_or, take, drop, Bor, IfOk, Ok, Err, decimal, Result, sym, refl, ap, ◌∙◌, subst, inl, inr, arith, rules, MatchOption}
use Rattle.std.specs.Char.{is_ascii_digit}
use Rattle.std.specs.Str.{all_ascii_digits}
use Rattle.std.proofs.lemmas.List.Sums.{fold-append}
use Rattle.std.specs.Iterator.{YieldsThen}
use Rattle.std.specs.List.{FoldsTo}
use Rattle.std.proofs.lemmas.Fmt.{decimal-digits_value, digits_value-decimal, digits_decimal, decimal_nonempty}
use Rattle.std.proofs.lemmas.Iterator.{YieldsList}
use Rattle.std.proofs.lemmas.Iterator.Consumers.{YieldsList-so_far, YieldsList-turn, YieldsList-end}
use Rattle.std.proofs.lemmas.List.{take-append-drop, take_all, drop_more}
use Rattle.std.proofs.lemmas.Str.Parse.{IsNumeralModel, numerals_by_fold}
use Rattle.std.proofs.lemmas.Bool.{and_from, and_left, and_right, and_parts, le-ltb, lt-leb, ltb-true, leb-true, lt-ltb, le-leb}
use Rattle.std.specs.Option.{ok_or}
use Rattle.demand.specs.Refusals.{first}
use Rattle.planfile.specs.declared.fault.FieldFault.{FieldFault}
use Rattle.planfile.specs.declared.fault.FieldFault.TheVariants.{NotNumber}
use Rattle.planfile.specs.Checks.{field_checks, NumberRead}
use Rattle.planfile.specs.Text.{DigitsPushed, with_digit, value_after, value, is_number}

-- the words of a plan file's numbers are those of digits in base ten
pub own : IsNumeralModel (λ ds. all_ascii_digits ds ≡ true) (value_after 0)
own = numerals_by_fold _ (search rules) value_after (search rules)

-- more digits never make a number smaller
value_grows : (n : ℕ) (bs : List ℕ) → n ≤ value_after n bs
value_grows n [] = omega arith
value_grows n (b ∷ bs) = omega (arith, value_grows (n * 10 + (b - 48)) bs)

-- behind digits, the others decide
digits_append : (p q : List ℕ) → all_ascii_digits p ≡ true → all_ascii_digits (p ++ q) ≡ all_ascii_digits q
digits_append [] q e = refl
digits_append (b ∷ p) q e =
    let both = and_parts (is_ascii_digit b) (all_ascii_digits p) e in
    rw both.0 (digits_append p q both.1)

value_append : (n : ℕ) (p q : List ℕ) → value_after n (p ++ q) ≡ value_after (value_after n p) q
value_append = fold-append with_digit

-- digits are pushed one by one
pub digits_pushed : {F : Type 0} (turn : F × ℕ → Bor ℕ → F × ℕ → Type 0) → ((p : F × ℕ) (x : Bor ℕ) (q : F × ℕ) → turn p x q → (is_ascii_digit x.now ≡ true) × (q.1 ≡ p.1 * 10 + (x.now - 48)) × (q.1 < 2 ^ 32)) → (xs : List (Bor ℕ)) (p q : F × ℕ) → FoldsTo turn p xs q → p.1 < 2 ^ 32 → (all_ascii_digits (map (λ x. x.now) xs) ≡ true) × (q.1 ≡ value_after p.1 (map (λ x. x.now) xs)) × (q.1 < 2 ^ 32)
digits_pushed turn one [] p q e fits = (refl, sym (ap (λ x. x.1) e), subst (λ n. n < 2 ^ 32) (ap (λ x. x.1) e) fits)
digits_pushed turn one (x ∷ xs) p q (j, t, more) fits =
    let here = one p x j t in
    let rest = digits_pushed turn one xs j q more here.2 in
    (and_from _ _ here.0 rest.0, rest.1 ∙ ap (λ n. value_after n (map (λ x. x.now) xs)) here.1, rest.2)

-- where the bytes that were taken end: behind the last, or at the byte at hand
pub turned : {S : Type 0} {steps : S → Option (Bor ℕ) → S → Type 0} {s : S} (all : List ℕ) → YieldsList steps (λ x. x.now) s all → (xs : List (Bor ℕ)) (o : Option (Bor ℕ)) (u : S) → YieldsThen steps s xs o u
    → (map (λ x. x.now) xs ≡ take (length xs) all) × MatchOption o (length xs ≡ length all) (λ x. (length xs < length all) × (x.now ≡ slice_index_or all (length xs) x.now))
turned all e xs None u (t, y, step) = (YieldsList-so_far e xs t y, (YieldsList-end e xs t y None u refl step).1)
turned all e xs (Some x) u (t, y, step) = (YieldsList-so_far e xs t y, YieldsList-turn e xs t y (Some x) u x refl step)

module _ (n : ℕ) (f : List ℕ) (k a : ℕ) (digits : all_ascii_digits (take k f) ≡ true) (so_far : a ≡ value_after n (take k f)) (fits : a < 2 ^ 32) where
  -- behind digits stands a byte that is none, or that makes the number too large
  not_pushed : (b : ℕ) (rest : List ℕ) → f ≡ take k f ++ b ∷ rest → (is_ascii_digit b ≡ false) ⊎ (2 ^ 32 ≤ a * 10 + (b - 48)) → (all_ascii_digits f ≡ false) ⊎ (2 ^ 32 ≤ value_after n f)
  not_pushed b rest e (inl other) = inl (ap all_ascii_digits e ∙ (digits_append (take k f) (b ∷ rest) digits ∙ and_left _ _ other))
  not_pushed b rest e (inr large) =
      let v : value_after n f ≡ value_after (a * 10 + (b - 48)) rest = ap (value_after n) e ∙ (value_append n (take k f) (b ∷ rest) ∙ ap (λ m. value_after (m * 10 + (b - 48)) rest) (sym so_far)) in
      let grows = value_grows (a * 10 + (b - 48)) rest in
      inr (omega arith)

  -- all bytes were pushed, or the one at hand was not
  pub pushed : (o : Option (Bor ℕ)) (r : Option ℕ) (Stops : Bor ℕ → Type 0) → MatchOption o (k ≡ length f) (λ x. (k < length f) × (x.now ≡ slice_index_or f k x.now)) → MatchOption o (r ≡ Some a) Stops → ((x : Bor ℕ) → Stops x → (r ≡ None) × ((is_ascii_digit x.now ≡ false) ⊎ (2 ^ 32 ≤ a * 10 + (x.now - 48)))) → DigitsPushed n f r
  pushed None r Stops end e stops =
      let whole : take k f ≡ f = take_all k f (omega arith) in
      rw e (sym (ap all_ascii_digits whole) ∙ digits, so_far ∙ ap (value_after n) whole, fits)
  pushed (Some x) r Stops (lt, is) e stops =
      let stop = stops x e in
      let parts : f ≡ take k f ++ x.now ∷ drop (k + 1) f = sym (take-append-drop k f) ∙ (ap (λ t. take k f ++ t) (drop_more f k x.now lt) ∙ ap (λ b. take k f ++ b ∷ drop (k + 1) f) (sym is)) in
      rw stop.0 (not_pushed x.now (drop (k + 1) f) parts stop.1)

pub number_from : (f : List ℕ) → 0 < length f → all_ascii_digits f ≡ true → value f ≤ 4_294_967_295 → is_number f ≡ true
number_from f some digits small = and_from _ _ (lt-ltb 0 (length f) some) (and_from _ _ digits (le-leb _ _ small))

-- a field that is no number has the fault of one
not_read : (f : List ℕ) → is_number f ≡ false → NumberRead f (Err NotNumber)
not_read f e = rw e refl

passes : (b : Bool) (n : ℕ) → first ((not b, suc n) ∷ []) ≡ 0 → b ≡ true
passes true n e = refl
passes false n e = absurd (omega arith)

-- where no check applies, the field is a number
is_read : (f : List ℕ) → first (field_checks f) ≡ 0 → is_number f ≡ true
is_read f e = passes (is_number f) 15 e

-- an empty field is no number
pub empty_read : (f : List ℕ) → length f ≡ 0 → NumberRead f (Err NotNumber)
empty_read f e = not_read f (and_left _ _ (le-ltb 0 (length f) (omega arith)))

-- where a field has a byte, what pushing its bytes answers is what reading answers
pub pushed_read : (f : List ℕ) (o : Option ℕ) (r : Result ℕ FieldFault) → 0 < length f → DigitsPushed 0 f o → r ≡ ok_or o NotNumber → NumberRead f r
pushed_read f None r some (inl other) e = rw e (not_read f (and_right (nat_lt 0 (length f)) _ (and_left _ _ other)))
pushed_read f None r some (inr large) e =
    rw e (not_read f (and_right (nat_lt 0 (length f)) _ (and_right (all_ascii_digits f) _ (lt-leb _ _ (omega arith)))))
pushed_read f (Some m) r some (digits, is, fits) e = rw e (rw (number_from f some digits (omega arith)) refl, is)

number_parts : (f : List ℕ) → is_number f ≡ true → (0 < length f) × (all_ascii_digits f ≡ true) × (value f ≤ 4_294_967_295)
number_parts f e =
    let p = and_parts (nat_lt 0 (length f)) _ e in
    let q = and_parts (all_ascii_digits f) (nat_le (value f) 4_294_967_295) p.1 in
    (ltb-true 0 (length f) p.0, q.0, leb-true _ _ q.1)

-- a number that is written has a digit
pub some_digit : (n : ℕ) → n < 2 ^ 32 → 0 < length (decimal n)
some_digit n small = decimal_nonempty n (omega arith)

-- its digits are digits, and write it
pub written_value : (f : List ℕ) (n : ℕ) → f ≡ decimal n → n < 2 ^ 32 → (value_after 0 f ≡ n) × (all_ascii_digits f ≡ true)
written_value f n e small = (ap value e ∙ digits_value-decimal own n (omega arith), ap all_ascii_digits e ∙ digits_decimal own n (omega arith))

-- what is written of a number reads back as it
pub reads_written : (f : List ℕ) (r : Result ℕ FieldFault) → NumberRead f r → (n : ℕ) → n < 2 ^ 32 → f ≡ decimal n → r ≡ Ok n
reads_written f (Ok m) (p, q) n small e = ap Ok (q ∙ (written_value f n e small).0)
reads_written f (Err x) p n small e =
    let it = written_value f n e small in
    let some : 0 < length f = subst (λ bs. 0 < length bs) (sym e) (some_digit n small) in
    absurd (grind (arith, p, number_from f some it.1 (omega (arith, it.0))))

-- a number without leading zeros is what is written of its value
pub writes_read : (f : List ℕ) (r : Result ℕ FieldFault) → NumberRead f r → IfOk r (λ n. (slice_index_or f 0 0 ≡ 48 → length f ≡ 1) → decimal n ≡ f)
writes_read f (Ok m) (p, q) =
    λ plain. let parts = number_parts f (is_read f p) in
    ap decimal q ∙ decimal-digits_value own f parts.1 parts.0 plain (omega arith)
writes_read f (Err x) p = tt
