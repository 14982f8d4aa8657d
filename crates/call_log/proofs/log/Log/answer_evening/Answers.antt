-- Line by line, up to a table line or the end of the log.
use Rattle.std.proofs.Common.{[], sym, ap, ◌∙◌, refl, subst, arith}
use Rattle.table.specs.History.{account_of}
use Rattle.runs.specs.Desk.{table_of}
use Rattle.call_log.specs.Logs.{clock_due, evening, over}
use Rattle.call_log.specs.Reading.{Tells}
use Rattle.call_log.proofs.Evenings.{few_places, opened}
use Rattle.call_log.proofs.Tells.{and_true, appends_none, tells_end, tells_more, tells_next}
use Rattle.call_log.proofs.log.Log.answer_evening.Goals as goal

pub loop-desk-init : goal.loop-desk-init
loop-desk-init g c =
    let o = c.args.opening in
    let clock = c.in-Some.clock in
    let t = table_of c.new-desk.result in
    let l = c.args.self.now in
    let m = c.read_clock.new.self in
    let tells = rw c.in-Some.is at c.in_ok-clock.ensures.tells in
    let stage = opened clock o t _ (ap (λ f. f.0) c.new-desk.ensures.frame) (few_places o.places _ refl c.requires) in
    record {
      calls = ([], c.new-desk.ensures.history, subst (λ s. Tells l m (g.W.Write.contents c.args.out.now) (g.W.Write.contents c.read_clock.new.out) (clock_due o) s) (sym stage) tells);
      fewer = c.in_ok-clock.ensures.fewer;
    }

pub returns-in-Table-clause-tells : goal.returns-in-Table-clause-tells
returns-in-Table-clause-tells g c =
    let so_far = c.loop-desk.invariant.calls in
    let read = c.in_ok-read_line.ensures in
    let told = (rw c.in-Table.is at c.in_ok-answer.ensures.told) so_far.0 so_far.1 in
    tells_next c.args.self.now c.loop-desk.self c.read_line.new.self c.answer.new.self _ _ _ _ _ _ so_far.2 (rw c.if-branch.true at read.line) (rw c.if-branch.true at read.number) read.well_formed told.2

pub returns-in-End-clause-tells : goal.returns-in-End-clause-tells
returns-in-End-clause-tells g c =
    let so_far = c.loop-desk.invariant.calls in
    let read = c.in_ok-read_line.ensures in
    let told = (rw c.in-End.is at c.in_ok-answer.ensures.told) so_far.0 so_far.1 in
    tells_next c.args.self.now c.loop-desk.self c.read_line.new.self c.answer.new.self _ _ _ _ _ _ so_far.2 (rw c.if-branch.true at read.line) (rw c.if-branch.true at read.number) read.well_formed told.2

pub loop-desk-smaller : goal.loop-desk-smaller
loop-desk-smaller g c =
    omega (arith, c.in_ok-answer.ensures.same.to_come, rw c.if-branch.true at c.in_ok-read_line.ensures.fewer)

pub loop-desk-preserved : goal.loop-desk-preserved
loop-desk-preserved g c =
    let so_far = c.loop-desk.invariant.calls in
    let read = c.in_ok-read_line.ensures in
    let told = (rw c.in-Line.is at c.in_ok-answer.ensures.told) so_far.0 so_far.1 in
    record {
      calls = (
        told.0,
        told.1,
        tells_next c.args.self.now c.loop-desk.self c.read_line.new.self c.answer.new.self _ _ _ _ _ _ so_far.2 (rw c.if-branch.true at read.line) (rw c.if-branch.true at read.number) read.well_formed told.2,
      );
      fewer = omega (arith, c.in_ok-answer.ensures.same.to_come, rw c.if-branch.true at read.fewer, c.loop-desk.invariant.fewer);
    }

pub returns-clause-tells : goal.returns-clause-tells
returns-clause-tells g c =
    let so_far = c.loop-desk.invariant.calls in
    let read = c.in_ok-read_line.ensures in
    let l = c.loop-desk.self in
    let m = c.read_line.new.self in
    let B = g.W.Write.contents c.loop-desk.out in
    let s = evening c.in-Some.clock (account_of so_far.0 (table_of c.loop-desk.desk)) in
    tells_more c.args.self.now l m _ B B (clock_due c.args.opening) s over so_far.2
    (tells_end l m B B s (rw c.if-branch.false at read.line) (appends_none B B refl) (read.well_formed ∙ and_true l.well_formed))

pub returns-clause-fewer : goal.returns-clause-fewer
returns-clause-fewer g c =
    omega (arith, rw c.if-branch.false at c.in_ok-read_line.ensures.fewer, c.loop-desk.invariant.fewer)
