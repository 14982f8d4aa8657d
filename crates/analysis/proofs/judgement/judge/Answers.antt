use Rattle.analysis.proofs.Order.{highest_first}
use Rattle.analysis.proofs.Verdicts as verdicts
use Rattle.analysis.proofs.judgement.judge.Goals as goal

pub returns-clause-late_exactly_when_no_plan : goal.returns-clause-late_exactly_when_no_plan
returns-clause-late_exactly_when_no_plan g c = verdicts.late_exactly_when_no_plan g.K.Kind.demand g.met.K.Kind.lawful c.args.places.now c.args.newcomer.now

pub returns-clause-removal_keeps_in_time : goal.returns-clause-removal_keeps_in_time
returns-clause-removal_keeps_in_time g c = verdicts.removal g.K.Kind.demand g.met.K.Kind.lawful c.args.places.now c.args.newcomer.now

pub returns-clause-highest_first : goal.returns-clause-highest_first
returns-clause-highest_first g c = highest_first _
