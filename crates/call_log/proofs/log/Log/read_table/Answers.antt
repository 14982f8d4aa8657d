-- The line at hand is a table line, or it is refused.
use Rattle.std.proofs.Common.{[], refl}
use Rattle.planfile.specs.Fault.{line_blame}
use Rattle.call_log.specs.Logs.{clock_due, over, table_due}
use Rattle.call_log.proofs.Says.{opening_refused, opening_says}
use Rattle.call_log.proofs.Tells.{appends_none, told_refused, told_text}
use Rattle.call_log.proofs.log.Log.read_table.Goals as goal

pub returns-in-Ok-clause-told : goal.returns-in-Ok-clause-told
returns-in-Ok-clause-told g c =
    let l = c.args.self.now in
    let A = g.W.Write.contents c.args.out.now in
    let o = c.in-Ok.opening in
    let table = c.in-Ok.ensures.table in
    told_text l A A table_due (clock_due o) [] (appends_none A A refl) (opening_says l.number c.deref.result.now l.line.items c.deref.ensures.value o table.0 table.1)

pub returns-in_ok-refuse-in-Err-clause-told : goal.returns-in_ok-refuse-in-Err-clause-told
returns-in_ok-refuse-in-Err-clause-told g c =
    let l = c.args.self.now in
    let m = c.refuse.new.self in
    let A = g.W.Write.contents c.args.out.now in
    let B = g.W.Write.contents c.refuse.new.out in
    let fault = c.in-Err.fault in
    let refused = c.in_ok-refuse-in-Err.ensures in
    told_refused l m A B table_due over (line_blame fault) refused.same refused.malformed refused.told (opening_refused l.number c.deref.result.now l.line.items c.deref.ensures.value fault c.in-Err.ensures.table)
