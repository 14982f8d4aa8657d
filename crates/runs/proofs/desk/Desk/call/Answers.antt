use Rattle.std.proofs.Common.{◌∷◌, List, sym, ap, subst}
use Rattle.std.proofs.Math.Logic.{∥∥₁_map}
use Rattle.table.specs.History.{HasHistory}
use Rattle.table.specs.Runs.{Event}
use Rattle.table.proofs.Histories.{every_history}
use Rattle.runs.specs.Calls.{IsEvent}
use Rattle.runs.specs.Desk.{CallKeepsPromise, table_of}
use Rattle.runs.proofs.desk.Desk.call.Goals as goal

pub returns-clause-promise : goal.returns-clause-promise
returns-clause-promise g c =
    let demand = g.K.Kind.demand in
    let made = c.make-reply.ensures.history in
    let t = table_of c.make-reply.new.self in
    let number = sym (ap (λ f. f.0.number) c.make-reply.ensures.frame) in
    let after : (es : List Event) → HasHistory demand es (table_of c.args.self.now) → CallKeepsPromise demand es c.args.call c.make-reply.result t = λ es known.
    let history = made.2 es known in
    record {
      event = made.0;
      is_event = subst (λ n. IsEvent demand n c.args.call c.make-reply.result made.0) number made.1;
      history = history;
      promise = every_history demand (made.0 ∷ es) t history;
    } in
    record { after = after; ever = ∥∥₁_map c.args.self.now.register.history (λ k. (k.0, ∣ k.1 ∣₁, after k.0 ∣ k.1 ∣₁)) }
