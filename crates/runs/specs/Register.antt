-- A register, as its callers see it. Assumes nothing.
use Rattle.demand.specs.declared.Kind.{Ghosts}
use Rattle.table.specs.declared.Table.{Table}
use Rattle.runs.specs.declared.register.Register.{Register}

-- the table of a register
abbrev pub table_of : {K : Type 0} {kind : Ghosts K} → Register K kind → Table K
table_of r = r.table
