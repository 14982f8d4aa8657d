-- The text with the lines that are left is the report.
use Rattle.std.proofs.Common.{◌≡◌, ◌++◌, drop}
use Rattle.planfile.specs.Report.{report}
use Rattle.planfile.proofs.writing.report_text.Given as goal

abbrev pub invariant-loop-answer : goal.invariant-loop-answer
invariant-loop-answer l = l.text.bytes ++ report (drop l.answer-index l.answers) ≡ report l.answers
