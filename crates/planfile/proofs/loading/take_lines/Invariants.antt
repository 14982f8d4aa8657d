-- The rows so far are in the table, the answers are theirs, and what the lines that are left give with them is what the file gives.
use Rattle.std.proofs.Common.{◌+◌, List, length, drop, Result}
use Rattle.analysis.specs.Ranks.{Claim}
use Rattle.planfile.specs.declared.fault.Blame.{Blame}
use Rattle.planfile.specs.Reading.{RowsKept, RowsRead, LinesRead}
use Rattle.planfile.specs.Laws.{row_lines}
use Rattle.planfile.proofs.loading.take_lines.Given as goal

abbrev pub invariant-loop-index : goal.invariant-loop-index
invariant-loop-index l =
    (rows : List Claim)
    × RowsKept rows l.register.table l.answers
    × ((r : Result (List Claim) Blame) → RowsRead l.clock (length l.yielded + 2) rows (drop (length l.yielded) (row_lines l.file)) r → LinesRead l.file r)
