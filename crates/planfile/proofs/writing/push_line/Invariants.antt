-- The text with the numbers that are left, and the newline, is the text with the line.
use Rattle.std.proofs.Common.{◌≡◌, ◌++◌, ◌∷◌, [], drop}
use Rattle.planfile.specs.Report.{number_fields, line_of}
use Rattle.planfile.specs.Text.{newline}
use Rattle.planfile.proofs.writing.push_line.Given as goal

abbrev pub invariant-loop-number : goal.invariant-loop-number
invariant-loop-number l =
    l.text.bytes ++ (number_fields (drop l.number-index l.numbers) ++ newline ∷ []) ≡ l.fn.text.bytes ++ line_of l.word l.numbers
