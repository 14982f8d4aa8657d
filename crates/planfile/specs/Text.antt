-- Lines, fields, words and numbers of a text, which is a list of bytes. Assumes nothing.
-- How to read it: bytes are numbers, so 9 is a tab, 10 a newline, and 48 to 57 are the digits. FORMATS.md says the same in words.
use Rattle.std.specs.Prelude.{◌≡◌, ℕ, ◌+◌, ◌-◌, ◌*◌, ◌^◌, ◌<◌, ◌≤◌, ◌⊎◌, Bool, true, false, if◌then◌else◌, ◌&&◌, Option, Some, None, List, [], ◌∷◌, length, take, fold, codes, ◌==◌, nat_eq, nat_le, nat_lt, slice_index, slice_index_or}
use Rattle.std.specs.Cmp.Lexicographic.{pointwise}
use Rattle.std.specs.List.{ends_with, slice_split}
use Rattle.std.specs.Str.{all_ascii_digits}
use Rattle.planfile.specs.declared.word.Word.{Word}
use Rattle.planfile.specs.declared.word.Word.TheVariants.{Clock, Row, Every, Heavy, Other}

-- what ends a line
abbrev pub newline : ℕ
newline = 10

-- what parts two fields
abbrev pub tab : ℕ
tab = 9

-- the parts of a text before, between and behind the bytes that part it
abbrev pub parted_by : ℕ → List ℕ → List (List ℕ)
parted_by separator = slice_split (λ b. b == separator)

-- the lines of a text: each is ended by a newline, and what follows the last newline is none
abbrev pub lines : List ℕ → List (List ℕ)
lines text = take (length (parted_by newline text) - 1) (parted_by newline text)

-- the fields of a line: there is one more than there are tabs
abbrev pub fields : List ℕ → List (List ℕ)
fields line = parted_by tab line

-- the last byte is a newline; an empty text has none
abbrev pub ends_with_newline : List ℕ → Bool
ends_with_newline text = ends_with nat_eq text (newline ∷ [])

-- the field with this number, counted from 1; empty where there is none
abbrev pub field : ℕ → List (List ℕ) → List ℕ
field k fs = slice_index_or fs (k - 1) []

-- which word a field is
abbrev pub word_of : List ℕ → Word
word_of f =
    if pointwise ◌==◌ f (codes "clock") then Clock
    else if pointwise ◌==◌ f (codes "row") then Row
    else if pointwise ◌==◌ f (codes "every") then Every
    else if pointwise ◌==◌ f (codes "heavy") then Heavy
    else Other

-- a number with one more digit, in base ten
abbrev pub with_digit : ℕ → ℕ → ℕ
with_digit n b = n * 10 + (b - 48)

-- the number that digits write in base ten, behind those of n
abbrev pub value_after : ℕ → List ℕ → ℕ
value_after = fold with_digit

-- the number that digits write in base ten
abbrev pub value : List ℕ → ℕ
value = value_after 0

-- the largest number that a field can write
abbrev pub largest_number : ℕ
largest_number = 4_294_967_295

-- a field is a number: one digit or more, and not above 4,294,967,295
abbrev pub is_number : List ℕ → Bool
is_number f = nat_lt 0 (length f) && (all_ascii_digits f && nat_le (value f) largest_number)

-- Bytes are put behind a number as its next digits: the number then, or none where a byte is no digit or the number gets too large.
abbrev pub DigitsPushed : ℕ → List ℕ → Option ℕ → Type 0
DigitsPushed n bs None = (all_ascii_digits bs ≡ false) ⊎ (2 ^ 32 ≤ value_after n bs)
DigitsPushed n bs (Some m) = (all_ascii_digits bs ≡ true) × (m ≡ value_after n bs) × (m < 2 ^ 32)

-- the field is not written with zeros in front: one that begins with 0 (byte 48) is 0
abbrev pub HasNoLeadingZero : List ℕ → Type 0
HasNoLeadingZero f = slice_index f 0 ≡ 48 → length f ≡ 1
