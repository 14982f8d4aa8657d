-- The reply is that of the call, and its text is told.
use Rattle.std.proofs.Common.{◌∙◌, ap, subst}
use Rattle.std.specs.Io.KnownBytes.{Appends}
use Rattle.std.proofs.lemmas.Result.{on_ok_weaker}
use Rattle.planfile.specs.Responses.{response_line, response_of}
use Rattle.call_log.proofs.answering.make_call.Goals as goal

pub returns-clause-told : goal.returns-clause-told
returns-clause-told g c =
    let reply = c.in_ok-reply.reply in
    let response = c.of.ensures ∙ ap (λ n. response_of c.args.line n reply) c.row-row.ensures in
    on_ok_weaker c.tell.result (λ told es known.
    let kept = c.in_ok-reply.ensures.promise.after es known in
    (reply, kept.event, kept.is_event, kept.history, subst (λ r. Appends (g.W.Write.contents c.args.out.now) (g.W.Write.contents c.tell.new.out) (response_line r)) response told))
    c.tell.ensures
