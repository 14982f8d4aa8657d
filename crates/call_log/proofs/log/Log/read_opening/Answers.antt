-- A table line is due, and the line that is read is answered as one.
use Rattle.std.proofs.Common.{subst}
use Rattle.std.proofs.lemmas.Result.{IfOk-weaker}
use Rattle.call_log.specs.Logs.{table_due}
use Rattle.call_log.specs.Reading.{AnswersLine, due_stage}
use Rattle.call_log.proofs.Tells.{tells_line}
use Rattle.call_log.proofs.log.Log.read_opening.Goals as goal

pub returns-clause-tells : goal.returns-clause-tells
returns-clause-tells g c =
    let due = rw c.if-not-branch.false at c.in_ok-read_due.ensures.line in
    let l = c.args.self.now in
    let m = c.read_due.new.self in
    let n = c.read_table.new.self in
    let A = g.W.Write.contents c.args.out.now in
    let C = g.W.Write.contents c.read_table.new.out in
    IfOk-weaker c.read_table.result _ _ (λ o told. tells_line l m n A C table_due (due_stage o) due.0 due.1 due.2 (subst (λ X. AnswersLine m n X C table_due (due_stage o)) due.3 told)) c.read_table.ensures.told
