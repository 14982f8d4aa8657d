-- Evening by evening, up to the end.
use Rattle.std.proofs.Common.{◌≡◌, ap, ◌∙◌, arith}
use Rattle.call_log.specs.Logs.{table_due}
use Rattle.call_log.specs.Reading.{due_count, due_stage}
use Rattle.call_log.proofs.Tells.{all_said, tells_more}
use Rattle.call_log.proofs.answering.replay.Goals as goal

pub loop-due-init : goal.loop-due-init
loop-due-init g c = record { few = c.in_ok-due.ensures.few; said = (c.new-log.result, c.new-log.ensures.left, c.new-log.ensures.number, c.new-log.ensures.well_formed, c.in_ok-due.ensures.tells) }

pub answer_evening-requires : goal.answer_evening-requires
answer_evening-requires g c = rw c.in-Some.is at c.loop-due.invariant.few

pub loop-due-smaller : goal.loop-due-smaller
loop-due-smaller g c =
    let one : due_count c.loop-due.due ≡ 1 = ap due_count c.in-Some.is in
    omega (arith, one, c.in_ok-due-2.ensures.fewer)

pub loop-due-preserved : goal.loop-due-preserved
loop-due-preserved g c =
    let before = c.loop-due.invariant.said in
    let A = g.W.Write.contents c.args.out.now in
    let B = g.W.Write.contents c.loop-due.out in
    let C = g.W.Write.contents c.answer_evening.new.out in
    record {
      few = c.in_ok-due-2.ensures.few;
      said = (
        before.0,
        before.1,
        before.2,
        before.3,
        tells_more before.0 c.loop-due.log c.answer_evening.new.self A B C table_due (due_stage c.loop-due.due) (due_stage c.in_ok-due-2.due) before.4 (rw c.in-Some.is c.in_ok-due-2.ensures.tells),
      );
    }

pub returns : goal.returns
returns g c input known =
    let before = c.loop-due.invariant.said in
    all_said before.0 c.loop-due.log (g.W.Write.contents c.args.out.now) (g.W.Write.contents c.loop-due.out) table_due input (before.1 ∙ known) before.2 before.3 (rw c.in_default.is at before.4)
