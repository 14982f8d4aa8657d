use Rattle.std.proofs.Common.{length}
use Rattle.table.proofs.Histories.{fresh_history}
use Rattle.table.proofs.Emptying.{emptied_agrees}
use Rattle.table.proofs.Table.new.Goals as goal

pub returns-clause-agrees : goal.returns-clause-agrees
returns-clause-agrees g c = emptied_agrees g.K.Kind.demand c.args.number c.args.places.now _ c.empty_places.ensures

pub returns-clause-history : goal.returns-clause-history
returns-clause-history g c = fresh_history g.K.Kind.demand _ (length c.args.places.now) c.empty_places.ensures.count (returns-clause-agrees g c)
