-- A word is told by its length and its bytes, one by one.
use Rattle.std.proofs.Common.{◌≡◌, ℕ, suc, Bool, true, if◌then◌else◌, ◌&&◌, ◌==◌, List, [], ◌∷◌, length, slice_index_or, codes, refl, arith}
use Rattle.std.proofs.lemmas.Bool.Decides.{nat_tests}
use Rattle.planfile.specs.declared.word.Word.{Word}
use Rattle.planfile.specs.declared.word.Word.TheVariants.{Clock, Row, Every, Heavy, Other}
use Rattle.std.specs.Cmp.Lexicographic.{pointwise}
use Rattle.planfile.specs.Text.{word_of}

-- the bytes w stand in f from index i on
abbrev pub reads : List ℕ → ℕ → List ℕ → Bool
reads f i [] = true
reads f i (b ∷ w) = ((slice_index_or f i 0) == b) && reads f (suc i) w

-- a byte in front moves the index by one
reads_behind : (x : ℕ) (f : List ℕ) (i : ℕ) (w : List ℕ) → reads (x ∷ f) (suc i) w ≡ reads f i w
reads_behind x f i [] = refl
reads_behind x f i (b ∷ w) = rw (reads_behind x f (suc i) w)

-- f has as many bytes as w, and each is that of w
abbrev pub is : List ℕ → List ℕ → Bool
is f w = (length f == length w) && reads f 0 w

-- the two tests agree
pub same_is : (f w : List ℕ) → pointwise ◌==◌ f w ≡ is f w
same_is [] [] = refl
same_is [] (b ∷ w) = grind (arith, nat_tests)
same_is (x ∷ f) [] = grind (arith, nat_tests)
same_is (x ∷ f) (b ∷ w) = rw (same_is f w, reads_behind x f 0 w) (grind (arith, nat_tests))

-- the word that a field is, by the field's length and bytes
abbrev pub word_by : List ℕ → Word
word_by f =
    if is f (codes "clock") then Clock
    else if is f (codes "row") then Row
    else if is f (codes "every") then Every
    else if is f (codes "heavy") then Heavy
    else Other

-- the word that a field is, so told
pub word_is : (f : List ℕ) → word_of f ≡ word_by f
word_is f = simp same_is
