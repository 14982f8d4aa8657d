use Rattle.std.proofs.Common.{List}
use Rattle.std.proofs.Math.Logic.{∥∥₁_map}
use Rattle.std.specs.Vec.{vec_items}
use Rattle.analysis.specs.Judge.{answers_of}
use Rattle.table.specs.History.{HasHistory}
use Rattle.table.specs.Runs.{Event}
use Rattle.table.proofs.Histories.{answered_promise}
use Rattle.runs.specs.declared.desk.Ran.{Ran}
use Rattle.runs.specs.Desk.{KeepsPromise, table_of}
use Rattle.runs.proofs.desk.Desk.make_listed.Goals as goal

pub returns-clause-promise : goal.returns-clause-promise
returns-clause-promise g c =
    let demand = g.K.Kind.demand in
    let ran : Ran = record { replies = c.make_all.new.replies; answers = c.answers-answers.result } in
    let after : (es : List Event) → HasHistory demand es (table_of c.args.self.now) → KeepsPromise demand es (vec_items c.args.calls) ran (table_of c.make_all.new.self) = λ es known.
    let done = c.make_all.ensures.history es known in
    record {
      events = done.0;
      follow = done.1;
      history = done.2;
      answers = c.answers-answers.ensures.in_time;
      promise = ∥∥₁_map done.2 (λ h. answered_promise demand done.0 (table_of c.make_all.new.self) h (answers_of c.answers-answers.result) c.answers-answers.ensures.in_time.answered);
    } in
    record { after = after; ever = ∥∥₁_map c.args.self.now.register.history (λ k. (k.0, ∣ k.1 ∣₁, after k.0 ∣ k.1 ∣₁)) }
