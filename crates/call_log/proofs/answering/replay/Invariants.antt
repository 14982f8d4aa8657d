-- What was said so far is what the lines so far are answered.
use Rattle.std.proofs.Common.{◌≡◌, ◌+◌, ◌≤◌, true, IfSome}
use Rattle.analysis.specs.declared.TheConstants.{MOST_ROWS}
use Rattle.call_log.specs.declared.log.Log.{Log}
use Rattle.call_log.specs.Logs.{table_due}
use Rattle.call_log.specs.Reading.{Tells, bytes_left_of, due_count, due_stage, left_of}
use Rattle.call_log.proofs.answering.replay.Given as goal

abbrev pub invariant-loop-due : goal.invariant-loop-due
invariant-loop-due g l =
    record {
      few : IfSome l.due (λ o. o.places ≤ MOST_ROWS);
      said : (first : Log g.row.R.Denot g.R.Read) × (left_of first ≡ g.R.Read.remaining l.fn.log) × (first.number ≡ 0) × (first.well_formed ≡ true) × Tells first l.log (g.W.Write.contents l.fn.out) (g.W.Write.contents l.out) table_due (due_stage l.due);
    }

abbrev pub decreases-loop-due : goal.decreases-loop-due
decreases-loop-due g l = due_count l.due + bytes_left_of l.log
