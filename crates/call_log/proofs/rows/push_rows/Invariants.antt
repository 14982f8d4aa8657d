-- The lines so far and those of the answers that are left are the lines of all.
use Rattle.std.proofs.Common.{◌≡◌, ◌++◌, drop, string_bytes}
use Rattle.table.specs.Account.{Account}
use Rattle.table.specs.Agreement.{AgreesWith}
use Rattle.runs.specs.Desk.{table_of}
use Rattle.planfile.specs.Checks.{row_demand}
use Rattle.call_log.specs.Logs.{rows_text}
use Rattle.call_log.proofs.rows.push_rows.Given as goal

abbrev pub invariant-loop-answer : goal.invariant-loop-answer
invariant-loop-answer l =
    (a : Account) → AgreesWith row_demand a (table_of l.desk) → string_bytes l.text ++ rows_text a (drop l.answer-index l.answers) ≡ string_bytes l.fn.text ++ rows_text a l.fn.answers
