use Rattle.std.proofs.Common.{◌≡◌, ap, ◌∙◌, arith}
use Rattle.analysis.specs.Judge.{answers_of}
use Rattle.table.specs.Places.{answer_of}
use Rattle.table.proofs.Histories.{asked}
use Rattle.table.proofs.Judgements.{bound_found}
use Rattle.table.proofs.Table.bound.Goals as goal

pub returns-in_err-answers-clause-account : goal.returns-in_err-answers-clause-account
returns-in_err-answers-clause-account g c a agrees =
    let listed = c.answers.ensures.account a agrees in absurd (grind (arith, listed.1, c.map_err.ensures.cases))

pub returns-clause-account : goal.returns-clause-account
returns-clause-account g c a agrees =
    let listed = c.answers.ensures.account a agrees in
    let same : c.in_ok-answers.answers ≡ listed.0 = grind (arith, listed.1, c.in_ok-answers.ensures.cases) in
    rw c.ok_or.ensures.value
    (bound_found a (answers_of listed.0) listed.2 c.args.number c.find_answer.result
    (c.find_answer.ensures ∙ ap (answer_of c.args.number) (c.rows.ensures ∙ ap answers_of same)))

pub returns-in_err-answers-clause-history : goal.returns-in_err-answers-clause-history
returns-in_err-answers-clause-history g c = asked g.K.Kind.demand c.args.self.now c.args.number c.from_residual.result (returns-in_err-answers-clause-account g c)

pub returns-clause-history : goal.returns-clause-history
returns-clause-history g c = asked g.K.Kind.demand c.args.self.now c.args.number c.ok_or.result (returns-clause-account g c)
