use Rattle.std.proofs.Common.{◌≡◌, subst}
use Rattle.analysis.specs.declared.answers.Answers.{Answers}
use Rattle.analysis.specs.Judge.{Answered, answers_of}
use Rattle.analysis.specs.Ranks.{loads, ranking}
use Rattle.table.proofs.InHand.{accounted_of, answers_all}
use Rattle.runs.proofs.register.Register.answers.Goals as goal

pub unwrap-requires : goal.unwrap-requires
unwrap-requires g c = answers_all g.K.Kind.demand c.args.self.now.table c.answers.result c.answers.ensures.account (accounted_of g.K.Kind.demand c.args.self.now.table c.args.self.now.history)

pub returns-clause-account : goal.returns-clause-account
returns-clause-account g c a agrees =
    let all = c.answers.ensures.account a agrees in
    let answered = all.1 in
    let unwrapped = c.unwrap.ensures in
    let same : all.0 ≡ c.unwrap.result = cc in
    subst (λ (x : Answers). Answered (loads (ranking a.rows)) (answers_of x)) same all.2
