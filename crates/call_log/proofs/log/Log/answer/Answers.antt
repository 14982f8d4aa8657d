-- What comes of the line at hand.
use Rattle.std.proofs.Common.{◌∷◌, Ok, ap, ◌∙◌}
use Rattle.table.specs.History.{account_of}
use Rattle.runs.specs.Calls.{call_row}
use Rattle.runs.specs.Desk.{table_of}
use Rattle.planfile.specs.declared.request.Request.TheVariants.{Call, Rows}
use Rattle.planfile.specs.Fault.{line_blame}
use Rattle.planfile.specs.Responses.{response_line, response_of}
use Rattle.call_log.specs.Logs.{evening, says}
use Rattle.call_log.proofs.Evenings.{account_number, call_says, rows_say}
use Rattle.call_log.proofs.Says.{request_refused, request_says}
use Rattle.call_log.proofs.Tells.{told_refused, told_text}
use Rattle.call_log.proofs.log.Log.answer.Goals as goal

pub returns-in_ok-make_call-in-Ok-Call-clause-told : goal.returns-in_ok-make_call-in-Ok-Call-clause-told
returns-in_ok-make_call-in-Ok-Call-clause-told g c es known =
    let l = c.args.self.now in
    let t = table_of c.args.desk.now in
    let u = table_of c.make_call.new.desk in
    let A = g.W.Write.contents c.args.out.now in
    let B = g.W.Write.contents c.make_call.new.out in
    let clock = c.args.clock in
    let a = account_of es t in
    let call = c.in-Ok-Call.call in
    let number = c.number.ensures ∙ ap (λ x. x.number) c.table.ensures ∙ account_number clock l.number c.deref.result.now es t t in
    let made = c.in_ok-make_call-in-Ok-Call.ensures in
    let told = made.told es known in
    let text = response_line (response_of l.number (call_row call) told.0) in
    let next = evening clock (account_of (told.1 ∷ es) u) in
    let answered = call_says clock l.number c.deref.result.now es t u call told.0 told.1 (ap (λ f. f.0) made.frame) told.2 told.3 in
    let line = request_says l.number c.deref.result.now l.line.items c.deref.ensures.value clock a c.number.result number c.read_request.result c.read_request.ensures (Call call) (c.in-Ok-Call.is ∙ ap Ok c.in-Ok-Call.field-0-is) (says text next) answered in
    (told.1 ∷ es, told.3, told_text l A B (evening clock a) next text told.4 line)

pub returns-in_ok-tell_rows-in-Ok-Rows-clause-told : goal.returns-in_ok-tell_rows-in-Ok-Rows-clause-told
returns-in_ok-tell_rows-in-Ok-Rows-clause-told g c es known =
    let l = c.args.self.now in
    let t = table_of c.args.desk.now in
    let A = g.W.Write.contents c.args.out.now in
    let B = g.W.Write.contents c.tell_rows.new.out in
    let clock = c.args.clock in
    let a = account_of es t in
    let number = c.number.ensures ∙ ap (λ x. x.number) c.table.ensures ∙ account_number clock l.number c.deref.result.now es t t in
    let told = c.in_ok-tell_rows-in-Ok-Rows.ensures in
    let line = request_says l.number c.deref.result.now l.line.items c.deref.ensures.value clock a c.number.result number c.read_request.result c.read_request.ensures Rows (c.in-Ok-Rows.is ∙ ap Ok c.in-Ok-Rows.field-0-is) (says told.0 (evening clock a)) (rows_say clock l.number c.deref.result.now es t t told.0 known told.2) in
    (es, known, told_text l A B (evening clock a) (evening clock a) told.0 told.1 line)

pub returns-in_ok-refuse-in-Err-clause-told : goal.returns-in_ok-refuse-in-Err-clause-told
returns-in_ok-refuse-in-Err-clause-told g c es known =
    let l = c.args.self.now in
    let m = c.refuse.new.self in
    let t = table_of c.args.desk.now in
    let A = g.W.Write.contents c.args.out.now in
    let B = g.W.Write.contents c.refuse.new.out in
    let clock = c.args.clock in
    let a = account_of es t in
    let number = c.number.ensures ∙ ap (λ x. x.number) c.table.ensures ∙ account_number clock l.number c.deref.result.now es t t in
    let fault = c.in-Err.fault in
    let refused = c.in_ok-refuse-in-Err.ensures in
    let line = request_refused l.number c.deref.result.now l.line.items c.deref.ensures.value clock a c.number.result number c.read_request.result c.read_request.ensures fault c.in-Err.is in
    (es, known, told_refused l m A B (evening clock a) (evening clock a) (line_blame fault) refused.same refused.malformed refused.told line)
