use Rattle.std.proofs.Common.{◌≡◌, ◌+◌, ◌-◌, ◌*◌, ◌∙◌, arith, rules}
use Rattle.demand.specs.Basic.{from_heavy, length_of_heavy, length_of_job, length_of_pattern}
use Rattle.demand.specs.Runs.{largest_is}
use Rattle.demand.proofs.heavy.Heavy.largest_total.Goals as goal

pub returns-clause-largest : goal.returns-clause-largest
returns-clause-largest c =
    let k = c.args.self.now in
    let total : c.args.jobs * c.from-job.result + c.div_up.result * (c.from-heavy.result - c.from-job.result) ≡ from_heavy (length_of_job k.job) (length_of_heavy k.job k.heavy) (length_of_pattern k.among) c.args.jobs = search rules in
    total
    ∙ largest_is (length_of_job k.job) (length_of_heavy k.job k.heavy) (length_of_pattern k.among) (omega arith) (omega arith) c.args.jobs
