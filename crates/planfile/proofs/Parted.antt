-- The parts of a text, as the text goes on.
use Rattle.std.proofs.Common.{◌≡◌, ℕ, ◌-◌, ◌<◌, ◌≤◌, true, false, ◌==◌, ◌≢◌, List, [], ◌∷◌, ◌++◌, length, take, sym, refl, ap, ◌∙◌, inl, inr, append_assoc, not-suc-le-zero, sub-one, arith, length-append}
use Rattle.std.proofs.lemmas.List.{append-nil, same_from_push, length-take}
use Rattle.std.proofs.lemmas.Bool.{cases_Bool, eq-eqb, ne_eqb}
use Rattle.std.specs.List.{onto_first}
use Rattle.std.proofs.lemmas.Slice.Eq.{ends_is}
use Rattle.std.proofs.lemmas.Bool.Decides.{Decides-eqb}
use Rattle.std.proofs.lemmas.List.Splits.{length-slice_split}
use Rattle.std.proofs.lemmas.List.Sums.{count_by-le-length}
use Rattle.planfile.specs.Text.{newline, parted_by, lines, ends_with_newline}

-- a text in front of the first part
abbrev pub onto_front : List ℕ → List (List ℕ) → List (List ℕ)
onto_front p [] = p ∷ []
onto_front p (q ∷ qs) = (p ++ q) ∷ qs

-- a byte in front of a text that is in front
front_first : (b : ℕ) (p : List ℕ) (qs : List (List ℕ)) → onto_first b (onto_front p qs) ≡ onto_front (b ∷ p) qs
front_first b p [] = refl
front_first b p (q ∷ qs) = refl

-- an empty text in front changes nothing
front_none : (qs : List (List ℕ)) → 0 < length qs → onto_front [] qs ≡ qs
front_none [] h = absurd (not-suc-le-zero h)
front_none (q ∷ qs) h = refl

-- there is a part at least
pub some_part : (sep : ℕ) (xs : List ℕ) → 0 < length (parted_by sep xs)
some_part sep xs = omega (arith, length-slice_split (λ b. b == sep) xs)

-- a text has a last part, and more text goes on with that
record Goes_on (sep : ℕ) (xs : List ℕ) : Type 0 where
  done : List (List ℕ)
  last : List ℕ
  cut : parted_by sep xs ≡ done ++ last ∷ []
  more : (ys : List ℕ) → parted_by sep (xs ++ ys) ≡ done ++ onto_front last (parted_by sep ys)

-- a byte in front that does not part
goes_on_other : (sep b : ℕ) (xs : List ℕ) → (b == sep) ≡ false → (done : List (List ℕ)) (last : List ℕ) → parted_by sep xs ≡ done ++ last ∷ []
    → ((ys : List ℕ) → parted_by sep (xs ++ ys) ≡ done ++ onto_front last (parted_by sep ys)) → Goes_on sep (b ∷ xs)
goes_on_other sep b xs e [] last cut more =
    record { done = []; last = b ∷ last; cut = rw (e, cut); more = λ ys. rw (e, more ys) (front_first b last (parted_by sep ys)) }
goes_on_other sep b xs e (d ∷ done) last cut more =
    record { done = (b ∷ d) ∷ done; last = last; cut = rw (e, cut); more = λ ys. rw (e, more ys) }

-- each text goes on so
goes_on : (sep : ℕ) (xs : List ℕ) → Goes_on sep xs
goes_on sep [] =
    record { done = []; last = []; cut = refl; more = λ ys. sym (front_none (parted_by sep ys) (some_part sep ys)) }
goes_on sep (b ∷ xs) =
    let g = goes_on sep xs in
    elim (cases_Bool (b == sep)) [
      | inl e ↦ record { done = [] ∷ g.done; last = g.last; cut = rw (e, g.cut); more = λ ys. rw (e, g.more ys) }
      | inr e ↦ goes_on_other sep b xs e g.done g.last g.cut g.more
    ]

-- more text goes on with the last part
pub parted_more : (sep : ℕ) (xs ys : List ℕ) (done : List (List ℕ)) (last : List ℕ) → parted_by sep xs ≡ done ++ last ∷ []
    → parted_by sep (xs ++ ys) ≡ done ++ onto_front last (parted_by sep ys)
parted_more sep xs ys done last cut =
    let g = goes_on sep xs in
    let same = same_from_push g.done done g.last last (sym g.cut ∙ cut) in
    rw (← same.0, ← same.1) (g.more ys)

-- a byte that parts ends the last part
pub parted_at : (sep : ℕ) (xs ys : List ℕ) (done : List (List ℕ)) (last : List ℕ) → parted_by sep xs ≡ done ++ last ∷ []
    → parted_by sep (xs ++ sep ∷ ys) ≡ (done ++ last ∷ []) ++ parted_by sep ys
parted_at sep xs ys done last cut =
    let e = eq-eqb sep sep refl in
    let m = parted_more sep xs (sep ∷ ys) done last cut in
    rw append_assoc (simp (e, append-nil) at m)

-- any other byte goes onto the last part
pub parted_on : (sep b : ℕ) (xs : List ℕ) (done : List (List ℕ)) (last : List ℕ) → b ≢ sep → parted_by sep xs ≡ done ++ last ∷ []
    → parted_by sep (xs ++ b ∷ []) ≡ done ++ (last ++ b ∷ []) ∷ []
parted_on sep b xs done last ne cut =
    let e = ne_eqb b sep ne in
    let m = parted_more sep xs (b ∷ []) done last cut in
    simp e at m

-- all parts but the last, with one more in front
lines_cons : (p : List ℕ) (ps : List (List ℕ)) → 0 < length ps → take (length (p ∷ ps) - 1) (p ∷ ps) ≡ p ∷ take (length ps - 1) ps
lines_cons p [] h = absurd (not-suc-le-zero h)
lines_cons p (q ∷ ps) h = simp sub-one

-- the first line of a text
pub first_line : (p rest : List ℕ) → parted_by newline p ≡ p ∷ [] → lines (p ++ newline ∷ rest) ≡ p ∷ lines rest
first_line p rest one =
    let two : parted_by newline (p ++ newline ∷ rest) ≡ p ∷ parted_by newline rest = parted_at newline p rest [] p one in
    rw two (lines_cons p (parted_by newline rest) (some_part newline rest))

-- there are no more lines than bytes
pub few_lines : (text : List ℕ) → length (lines text) ≤ length text
few_lines text =
    let parts = length-slice_split (λ b. b == newline) text in
    let few = count_by-le-length (λ b. b == newline) text in
    simp length-take (omega arith)

-- a text that is ended by a newline has a line
pub ended_line : (text : List ℕ) → ends_with_newline text ≡ true → 0 < length (lines text)
ended_line text e =
    let front : List ℕ = take (length text - 1) text in
    let whole : text ≡ front ++ newline ∷ [] = (ends_is Decides-eqb text (newline ∷ []) _ refl).0 e in
    let g = goes_on newline front in
    let parts = ap length (ap (parted_by newline) whole ∙ parted_at newline front [] g.done g.last g.cut) in
    simp length-take (omega (arith, simp length-append at parts))
