-- What the reader has taken of a line, byte by byte. Assumes nothing.
-- How to read it: `at` is the place of the next byte. `IsBeforeByte` is true before the reader takes it and `IsPastByte` after, by the
-- state that it is in.
use Rattle.std.specs.Prelude.{◌≡◌, ℕ, ◌+◌, ◌≤◌, List, [], ◌∷◌, ◌++◌, length, map, take, drop}
use Rattle.std.specs.List.{between}
use Rattle.planfile.specs.declared.reader.TheConstants.{MOST_FIELDS}
use Rattle.planfile.specs.declared.reader.Reader.{Reader}
use Rattle.planfile.specs.declared.reader.State.{State}
use Rattle.planfile.specs.declared.reader.State.TheVariants.{Field, Ended}
use Rattle.planfile.specs.Text.{newline, parted_by, lines, fields}

-- the fields that a reader keeps of the line at hand
abbrev pub kept_fields : Reader → List (List ℕ)
kept_fields r = map (λ f. f.now) r.kept.items

-- a field was kept, if it is one of the first MOST_FIELDS; the text and the state are as they were
pub record Kept (before : Reader) (field : List ℕ) (after : Reader) : Type 0 where
  pub text : after.text.now ≡ before.text.now
  pub state : after.state ≡ before.state
  pub fields : kept_fields after ≡ take MOST_FIELDS (kept_fields before ++ field ∷ [])

-- Of the line that a text begins with, the bytes before `at` are taken. No newline is among them. They are cut into the fields before this index, of
-- which the first MOST_FIELDS are kept, and the one that began at this start.
pub record IsInField (text : List ℕ) (at : ℕ) (kept : List (List ℕ)) (index start : ℕ) : Type 0 where
  pub begun : start ≤ at
  pub low : index ≤ start
  pub one_line : parted_by newline (take at text) ≡ take at text ∷ []
  pub before : List (List ℕ)
  pub cut : fields (take at text) ≡ before ++ between start at text ∷ []
  pub size : length before ≡ index
  pub first_kept : kept ≡ take MOST_FIELDS before

-- The first line of a text is ended by the newline at this place. It has so many fields, of which the first MOST_FIELDS are kept.
pub record IsBehindLine (text : List ℕ) (at : ℕ) (kept : List (List ℕ)) (count : ℕ) : Type 0 where
  pub first : lines text ≡ take at text ∷ lines (drop (at + 1) text)
  pub size : count ≡ length (fields (take at text))
  pub first_kept : kept ≡ take MOST_FIELDS (fields (take at text))

-- the reader is in a field of the first line of a text
abbrev pub IsBeforeByte : List ℕ → ℕ → List (List ℕ) → State → Type 0
IsBeforeByte text at kept (Field index start) = IsInField text at kept index start
IsBeforeByte text at kept (Ended count) = ⊥

-- the reader took the byte at this place, and is in a field of the first line, or behind that line
abbrev pub IsPastByte : List ℕ → ℕ → List (List ℕ) → State → Type 0
IsPastByte text at kept (Field index start) = IsInField text (at + 1) kept index start
IsPastByte text at kept (Ended count) = IsBehindLine text at kept count

-- the byte at this place was taken
pub record Stepped (before : Reader) (at : ℕ) (after : Reader) : Type 0 where
  pub text : after.text.now ≡ before.text.now
  pub taken : IsPastByte before.text.now at (kept_fields after) after.state
