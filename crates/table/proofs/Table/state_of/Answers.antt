use Rattle.table.proofs.Spending.{state_is}
use Rattle.table.proofs.Table.state_of.Goals as goal

pub returns : goal.returns
returns g c a agrees = state_is c.args.self.now agrees c.args.number c.state_here.result c.state_here.ensures
