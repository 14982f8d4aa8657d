use Rattle.std.proofs.Common.{Result}
use Rattle.analysis.specs.declared.answers.Answers.{Answers}
use Rattle.demand.specs.Demand.{Demand, Lawful}
use Rattle.table.specs.declared.hold.Hold.{Hold}
use Rattle.table.specs.declared.refusals.HoldRefusal.{HoldRefusal}
use Rattle.table.specs.declared.Table.{Table}
use Rattle.table.specs.Account.{Account, HoldsAnswered, hold_part}
use Rattle.table.specs.Agreement.{AgreesWith}
use Rattle.table.specs.History.{Continues}
use Rattle.std.proofs.Common.{◌≡◌, None, Some, Ok, Err, sym, refl, ap, ◌∙◌, subst₂, arith, rules}
use Rattle.std.proofs.lemmas.Result.{err_from_is_err_and}
use Rattle.analysis.specs.Candidates.{claims}
use Rattle.analysis.specs.Judge.{JudgementRefused}
use Rattle.analysis.specs.Ranks.{Claim}
use Rattle.analysis.specs.declared.Task.{Task}
use Rattle.table.specs.declared.refusals.HoldRefusal.TheVariants.{NoPlace}
use Rattle.table.specs.declared.state.State.TheVariants.{Free}
use Rattle.table.specs.Account.{hold_number, with_row}
use Rattle.table.specs.Places.{At}
use Rattle.table.proofs.Changes.{row_in}
use Rattle.table.proofs.Holding.{refused_early, no_place_found, place_found, refused_judged}
use Rattle.table.proofs.Lookups.{tasks}
use Rattle.table.proofs.Judgements.{newcomer_in_time, newcomer_listed}
use Rattle.table.proofs.Histories.{continues}
use Rattle.table.specs.Runs.{holding}
use Rattle.table.proofs.Table.hold_answered.Goals as goal

pub returns-in_err-check_row-clause-account : goal.returns-in_err-check_row-clause-account
returns-in_err-check_row-clause-account g c a agrees =
    let e = err_from_is_err_and c.from_residual.result c.from_residual.ensures.1 in
    let claim : Claim = record { row = c.args.row; demand = g.K.Kind.demand c.args.kind } in
    (a, rw e.1 (refused_early a claim e.0 (ap hold_number e.2 ∙ c.in_err-check_row.ensures a agrees), refl), agrees)

pub returns-in_err-place-clause-account : goal.returns-in_err-place-clause-account
returns-in_err-place-clause-account g c a agrees =
    let e = err_from_is_err_and c.from_residual-in_err-place.result c.from_residual-in_err-place.ensures.1 in
    let claim : Claim = record { row = c.args.row; demand = g.K.Kind.demand c.args.kind } in
    let none : c.place_in.result ≡ None = grind (arith, c.in_err-place.ensures.value) in
    let refusal : c.in_err-place.field-0.0 ≡ NoPlace = grind (arith, c.in_err-place.ensures.value) in
    let full = no_place_found c.args.self.now agrees claim (c.in_ok-check_row.ensures a agrees) c.place_in.result c.place_in.ensures none in
    (a, rw (e.1, e.2, refusal) (full, refl), agrees)

pub returns-in_err-answers-clause-account : goal.returns-in_err-answers-clause-account
returns-in_err-answers-clause-account g c a agrees =
    let e = err_from_is_err_and c.from_residual-in_err-answers.result c.from_residual-in_err-answers.ensures.1 in
    let claim : Claim = record { row = c.args.row; demand = g.K.Kind.demand c.args.kind } in
    let task : Task g.row.K.Denot = record { row = c.args.row; kind = c.args.kind } in
    let some : c.place_in.result ≡ Some c.in_ok-place.place = grind (arith, c.in_ok-place.ensures.value) in
    let pass = place_found c.args.self.now agrees claim (c.in_ok-check_row.ensures a agrees) c.place_in.result c.place_in.ensures c.in_ok-place.place some in
    let refused = subst₂ (JudgementRefused (claims g.K.Kind.demand (tasks c.args.self.now) (Some task))) (sym e.2.0) (sym e.2.1) c.in_err-answers.ensures in
    (a, rw e.1 (refused_judged c.args.self.now agrees task pass e.0 refused, refl), agrees)

pub returns-clause-account : goal.returns-clause-account
returns-clause-account g c a agrees =
    let claim : Claim = record { row = c.args.row; demand = g.K.Kind.demand c.args.kind } in
    let task : Task g.row.K.Denot = record { row = c.args.row; kind = c.args.kind } in
    let some : c.place_in.result ≡ Some c.in_ok-place.place = grind (arith, c.in_ok-place.ensures.value) in
    let pass = place_found c.args.self.now agrees claim (c.in_ok-check_row.ensures a agrees) c.place_in.result c.place_in.ensures c.in_ok-place.place some in
    let in_time = newcomer_in_time c.args.self.now agrees task pass c.in_ok-answers.answers c.in_ok-answers.ensures in
    let at : At c.args.self.now (λ s. s ≡ Free) c.in_ok-place.place = search rules in (
      with_row a claim,
      (
        (record { passes = pass; in_time = in_time; table = c.put.ensures.number ∙ sym agrees.number_is; row = refl }, refl),
        newcomer_listed c.args.self.now agrees task pass c.in_ok-answers.answers c.in_ok-answers.ensures,
      ),
      row_in c.args.self.now agrees c.put.new.self c.in_ok-place.place at task c.put.ensures (g.met.K.Kind.lawful c.args.kind) pass in_time,
    )

-- what comes with the hold does not count
from_answered : {K : Type 0} {demand : K → Demand} {t u : Table K} (row : Claim) (r : Result (Hold × Answers) HoldRefusal) → Lawful row.demand → ((a : Account) → AgreesWith demand a t → (b : Account) × HoldsAnswered a row r b × AgreesWith demand b u) → Continues demand (holding row (hold_part r)) t u
from_answered {demand = demand} {t = t} {u = u} row (Ok p) lawful f =
    continues demand t u (holding row (Ok p.0)) (λ a agrees. let b = f a agrees in (b.0, (lawful, b.1.0), b.2))
from_answered {demand = demand} {t = t} {u = u} row (Err e) lawful f =
    continues demand t u (holding row (Err e)) (λ a agrees. let b = f a agrees in (b.0, (lawful, b.1), b.2))

pub returns-in_err-check_row-clause-history : goal.returns-in_err-check_row-clause-history
returns-in_err-check_row-clause-history g c =
    from_answered (record { row = c.args.row; demand = g.K.Kind.demand c.args.kind }) c.from_residual.result (g.met.K.Kind.lawful c.args.kind) (returns-in_err-check_row-clause-account g c)

pub returns-in_err-place-clause-history : goal.returns-in_err-place-clause-history
returns-in_err-place-clause-history g c =
    from_answered (record { row = c.args.row; demand = g.K.Kind.demand c.args.kind }) c.from_residual-in_err-place.result (g.met.K.Kind.lawful c.args.kind) (returns-in_err-place-clause-account g c)

pub returns-in_err-answers-clause-history : goal.returns-in_err-answers-clause-history
returns-in_err-answers-clause-history g c =
    from_answered (record { row = c.args.row; demand = g.K.Kind.demand c.args.kind }) c.from_residual-in_err-answers.result (g.met.K.Kind.lawful c.args.kind) (returns-in_err-answers-clause-account g c)

pub returns-clause-history : goal.returns-clause-history
returns-clause-history g c =
    from_answered (record { row = c.args.row; demand = g.K.Kind.demand c.args.kind }) (Ok (record { table = c.put.new.self.number; row = c.args.row.number }, c.in_ok-answers.answers)) (g.met.K.Kind.lawful c.args.kind) (returns-clause-account g c)
