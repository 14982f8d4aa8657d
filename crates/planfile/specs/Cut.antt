-- How a file is cut into lines, and each line into its fields. Assumes nothing.
-- How to read it: lines and fields are as in Text.antt; here is what the reader has of them.
use Rattle.std.specs.Prelude.{ℕ, ◌+◌, ◌<◌, ◌≤◌, List, length, map}
use Rattle.planfile.specs.declared.reader.TheConstants.{MOST_FIELDS}
use Rattle.planfile.specs.declared.reader.Reader.{Reader}
use Rattle.planfile.specs.Text.{lines, fields}

-- the n fields from field k on are there, and are among the first MOST_FIELDS, which a line keeps
abbrev pub Keeps : List (List ℕ) → ℕ → ℕ → Type 0
Keeps fs k n = (0 < k) × (k + n ≤ MOST_FIELDS + 1) × (k + n ≤ length fs + 1)

-- what a reader still gives: each line of the text that is left, as its fields
abbrev pub lines_left : Reader → List (List (List ℕ))
lines_left r = map fields (lines r.text.now)
