-- A clock line is due, and the line is one, or it is refused.
use Rattle.std.proofs.Common.{[], subst}
use Rattle.std.specs.Io.KnownBytes.{Appends}
use Rattle.call_log.specs.Logs.{clock_due, evening, over}
use Rattle.table.specs.Account.{fresh_account}
use Rattle.planfile.specs.Fault.{at_line, line_blame}
use Rattle.planfile.specs.Report.{refusal_line}
use Rattle.call_log.proofs.Says.{clock_refused, clock_says}
use Rattle.call_log.proofs.Tells.{appends_none, tells_line, told_refused, told_text}
use Rattle.call_log.proofs.log.Log.read_clock.Goals as goal

pub returns-in-Ok-clause-tells : goal.returns-in-Ok-clause-tells
returns-in-Ok-clause-tells g c =
    let due = rw c.if-not-branch.false at c.in_ok-read_due.ensures.line in
    let l = c.args.self.now in
    let m = c.read_due.new.self in
    let A = g.W.Write.contents c.args.out.now in
    let B = g.W.Write.contents c.read_due.new.out in
    let table = c.in-Ok.ensures in
    tells_line l m m A B (clock_due c.args.opening) (evening c.in-Ok.clock (fresh_account c.args.opening.number c.args.opening.places)) due.0 due.1 due.2
    (told_text m A B (clock_due c.args.opening) (evening c.in-Ok.clock (fresh_account c.args.opening.number c.args.opening.places)) [] (appends_none A B due.3) (clock_says m.number c.deref.result.now m.line.items c.deref.ensures.value c.args.opening c.in-Ok.clock table.0 table.1))

pub returns-in_ok-refuse-in-Err-clause-tells : goal.returns-in_ok-refuse-in-Err-clause-tells
returns-in_ok-refuse-in-Err-clause-tells g c =
    let due = rw c.if-not-branch.false at c.in_ok-read_due.ensures.line in
    let l = c.args.self.now in
    let m = c.read_due.new.self in
    let n = c.refuse.new.self in
    let A = g.W.Write.contents c.args.out.now in
    let C = g.W.Write.contents c.refuse.new.out in
    let refused = c.in_ok-refuse-in-Err.ensures in
    tells_line l m n A C (clock_due c.args.opening) over due.0 due.1 due.2
    (told_refused m n A C (clock_due c.args.opening) over (line_blame c.in-Err.fault) refused.same refused.malformed (subst (λ X. Appends X C (refusal_line (at_line m.number (line_blame c.in-Err.fault)))) due.3 refused.told) (clock_refused m.number c.deref.result.now m.line.items c.deref.ensures.value c.args.opening c.in-Err.fault c.in-Err.ensures))
