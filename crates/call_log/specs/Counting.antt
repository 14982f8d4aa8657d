-- How many bytes may come, and how many of a line are kept. Assumes nothing.
use Rattle.std.specs.Prelude.{ℕ, ◌+◌, Bool, List, take, if◌then◌else◌}
use Rattle.std.specs.declared.io.traits.Bytes.{Bytes}
use Rattle.std.specs.Io.Iter.{bytes_left}
use Rattle.planfile.specs.declared.TheConstants.{LONGEST_LINE}

-- the most bytes that a log may still give: none once its end was seen
abbrev pub to_come : {R : Type 0} → Bool → Bytes R → ℕ
to_come ended bytes = if ended then 0 else bytes_left bytes

-- what is kept of a line: one byte more than a line may have, by which it is seen that it is too long
abbrev pub kept_of : List ℕ → List ℕ
kept_of line = take (LONGEST_LINE + 1) line
