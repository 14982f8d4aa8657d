-- The evening goes on, with the account of all calls on its table so far.
use Rattle.std.proofs.Common.{◌≤◌, List}
use Rattle.table.specs.History.{HasHistory, account_of}
use Rattle.table.specs.Runs.{Event}
use Rattle.runs.specs.Desk.{table_of}
use Rattle.planfile.specs.Checks.{row_demand}
use Rattle.call_log.specs.Logs.{clock_due, evening}
use Rattle.call_log.specs.Reading.{Tells, bytes_left_of}
use Rattle.call_log.proofs.log.Log.answer_evening.Given as goal

abbrev pub invariant-loop-desk : goal.invariant-loop-desk
invariant-loop-desk g l =
    record {
      calls : (es : List Event) × HasHistory row_demand es (table_of l.desk) × Tells l.fn.self l.self (g.W.Write.contents l.fn.out) (g.W.Write.contents l.out) (clock_due l.fn.opening) (evening l.clock (account_of es (table_of l.desk)));
      fewer : bytes_left_of l.self ≤ bytes_left_of l.fn.self;
    }

abbrev pub decreases-loop-desk : goal.decreases-loop-desk
decreases-loop-desk g l = bytes_left_of l.self
