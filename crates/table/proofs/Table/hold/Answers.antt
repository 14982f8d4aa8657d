use Rattle.std.proofs.Common.{Ok}
use Rattle.std.proofs.lemmas.Result.{err_from_is_err_and}
use Rattle.table.proofs.Histories.{continues}
use Rattle.table.specs.Runs.{holding}
use Rattle.table.proofs.Table.hold.Goals as goal

pub returns-in_err-hold-clause-account : goal.returns-in_err-hold-clause-account
returns-in_err-hold-clause-account g c a agrees =
    let e = err_from_is_err_and c.from_residual.result c.from_residual.ensures.1 in
    rw (e.1, e.2) (c.in_err-hold.ensures.account a agrees)

pub returns-clause-account : goal.returns-clause-account
returns-clause-account g c a agrees =
    let p = c.in_ok-hold.ensures.account a agrees in
    (p.0, p.1.0, p.2)

pub returns-in_err-hold-clause-history : goal.returns-in_err-hold-clause-history
returns-in_err-hold-clause-history g c = continues g.K.Kind.demand c.args.self.now _ (holding (record { row = c.args.row; demand = g.K.Kind.demand c.args.kind }) c.from_residual.result) (λ a agrees. let b = returns-in_err-hold-clause-account g c a agrees in (b.0, (g.met.K.Kind.lawful c.args.kind, b.1), b.2))

pub returns-clause-history : goal.returns-clause-history
returns-clause-history g c = continues g.K.Kind.demand c.args.self.now _ (holding (record { row = c.args.row; demand = g.K.Kind.demand c.args.kind }) (Ok c.in_ok-hold.hold)) (λ a agrees. let b = returns-clause-account g c a agrees in (b.0, (g.met.K.Kind.lawful c.args.kind, b.1), b.2))
