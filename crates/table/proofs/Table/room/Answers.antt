use Rattle.table.proofs.Lookups.{room_left}
use Rattle.table.proofs.Table.room.Goals as goal

pub returns : goal.returns
returns g c a agrees = rw c.free_places.ensures (room_left c.args.self.now agrees)
