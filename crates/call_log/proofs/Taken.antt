-- A line, byte by byte. Assumes nothing.
use Rattle.std.proofs.Common.{◌≡◌, ◌≢◌, ℕ, zero, suc, List, [], ◌∷◌, ◌++◌, ◌⊎◌, length, take, sym, refl, ap, ◌∙◌, inl, inr, append_assoc, arith}
use Rattle.std.proofs.lemmas.List.{append-nil}
use Rattle.planfile.specs.Text.{newline}
use Rattle.planfile.proofs.Parted.{parted_on}
use Rattle.call_log.specs.Counting.{kept_of}
use Rattle.call_log.specs.Reading.{BeginsWith, OnePiece}

-- a text with a byte is not empty
some : (b : ℕ) (bs : List ℕ) → b ∷ bs ≢ []
some b bs e = absurd (cc)

-- a byte more, where so many bytes are kept
pub kept_on : (n : ℕ) (front : List ℕ) (b : ℕ) → take n (take n front ++ b ∷ []) ≡ take n (front ++ b ∷ [])
kept_on zero [] b = refl
kept_on zero (x ∷ front) b = refl
kept_on (suc n) [] b = refl
kept_on (suc n) (x ∷ front) b = ap (λ ys. x ∷ ys) (kept_on n front b)

-- a byte that is no newline
pub one_on : (front : List ℕ) (b : ℕ) → b ≢ newline → OnePiece front → OnePiece (front ++ b ∷ [])
one_on front b other one = parted_on newline b front [] front other one

-- the newline of a line
pub at_newline : (xs front rest kept : List ℕ) (b : ℕ) → b ≡ newline → xs ≡ front ++ b ∷ rest → kept ≡ kept_of (front ++ b ∷ []) → OnePiece front → BeginsWith xs kept rest
at_newline xs front rest kept b is whole first one =
    record {
      line = front ++ newline ∷ [];
      whole = whole ∙ (ap (λ n. front ++ n ∷ rest) is ∙ sym (append_assoc front (newline ∷ []) rest));
      front = first ∙ ap (λ n. kept_of (front ++ n ∷ [])) is;
      ends = inl (front, refl, one);
    }

-- the end of a log
pub at_end : (xs front kept : List ℕ) → xs ≡ front → kept ≡ kept_of front → OnePiece front → BeginsWith xs kept [] ⊎ ((xs ≡ []) × (kept ≡ []) × (◌≡◌ {A = List ℕ} [] []))
at_end xs [] kept whole is one = inr (whole, is, refl)
at_end xs (b ∷ front) kept whole is one =
    inl (record { line = b ∷ front; whole = whole ∙ sym (append-nil (b ∷ front)); front = is; ends = inr (one, some b front, refl) })

-- something is kept of each line
none_kept : (line : List ℕ) → [] ≡ kept_of line → line ≡ []
none_kept [] e = refl
none_kept (b ∷ line) e = absurd (some b _ (sym e))

no_line : (text : List ℕ) → text ++ newline ∷ [] ≢ []
no_line [] e = some _ _ e
no_line (b ∷ text) e = some _ _ e

pub some_kept : (xs ys : List ℕ) → BeginsWith xs [] ys → ⊥
some_kept xs ys b =
    let none = none_kept b.line b.front in
    elim b.ends [
      | inl e ↦ no_line e.0 (sym e.1 ∙ none)
      | inr e ↦ e.1 none
    ]

-- where nothing is kept there was no line
pub none_taken : (xs kept ys : List ℕ) → length kept ≡ 0 → BeginsWith xs kept ys ⊎ ((xs ≡ []) × (kept ≡ []) × (ys ≡ [])) → (xs ≡ []) × (ys ≡ [])
none_taken xs [] ys none (inl b) = absurd (some_kept xs ys b)
none_taken xs [] ys none (inr e) = (e.0, e.2)
none_taken xs (k ∷ kept) ys none t = absurd (omega arith)
