use Rattle.table.proofs.Judgements.{all_in_time, all_listed}
use Rattle.table.proofs.Table.answers.Goals as goal

pub returns-clause-account : goal.returns-clause-account
returns-clause-account g c a agrees = all_listed c.args.self.now agrees c.judgement.result c.judgement.ensures

pub returns-clause-in_time : goal.returns-clause-in_time
returns-clause-in_time g c = all_in_time g.K.Kind.demand c.args.self.now c.judgement.result c.judgement.ensures
