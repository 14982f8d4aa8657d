use Rattle.std.proofs.Common.{◌≡◌, true, ◌∙◌}
use Rattle.table.specs.Places.{names}
use Rattle.table.proofs.Lookups.{low_where, number_found}
use Rattle.table.proofs.Table.has_number.Goals as goal

pub returns : goal.returns
returns g c a agrees = c.is_some.ensures ∙ number_found c.args.self.now agrees c.args.number c.place_of.result (low_where c.args.self.now (λ s. names s c.args.number ≡ true) c.place_of.result c.place_of.ensures)
