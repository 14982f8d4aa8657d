-- What a fault says: its number, and what is to blame. Assumes nothing.
-- How to read it: a `Blame` is a struct of the code, with the number of a check, a line, a field and a late row, each 0 where there is none.
use Rattle.std.specs.Prelude.{ℕ, Bool, List}
use Rattle.demand.specs.Refusals.{first_of, refusal_number}
use Rattle.table.specs.Account.{hold_number, hold_late}
use Rattle.planfile.specs.declared.fault.Blame.{Blame}
use Rattle.planfile.specs.declared.fault.Fault.{Fault}
use Rattle.planfile.specs.declared.fault.Fault.TheVariants.{ReportMemory, File, Line}
use Rattle.planfile.specs.declared.fault.FieldFault.{FieldFault}
use Rattle.planfile.specs.declared.fault.FieldFault.TheVariants.{NotNumber}
use Rattle.planfile.specs.declared.fault.LineFault.{LineFault}
use Rattle.planfile.specs.declared.fault.LineFault.TheVariants.{Word, Length, Count, Number, Kind, Hold}

-- the number of what is wrong with a field
abbrev pub field_number : FieldFault → ℕ
field_number NotNumber = 16

-- no check applies
abbrev pub nothing : Blame
nothing = record { number = 0; line = 0; field = 0; late = 0 }

-- a check that blames no field: of the whole file, or of a line whose number is not known yet
abbrev pub by_number : ℕ → Blame
by_number n = record { number = n; line = 0; field = 0; late = 0 }

-- a check that blames a field
abbrev pub by_field : ℕ → ℕ → Blame
by_field n k = record { number = n; line = 0; field = k; late = 0 }

-- the same at a line
abbrev pub at_line : ℕ → Blame → Blame
at_line n b = record { number = b.number; line = n; field = b.field; late = b.late }

-- what the first check blames that applies
abbrev pub first_blame : List (Bool × Blame) → Blame
first_blame = first_of nothing

-- what a fault of a line says
abbrev pub line_blame : LineFault → Blame
line_blame (Word k) = by_field 17 k
line_blame Length = by_number 18
line_blame Count = by_number 15
line_blame (Number k) = by_field 16 k
line_blame (Kind e) = by_number (refusal_number e)
line_blame (Hold e) = record { number = hold_number e; line = 0; field = 0; late = hold_late e }

-- what a fault of a file says
abbrev pub blame : Fault → Blame
blame ReportMemory = by_number 19
blame File = by_number 18
blame (Line n f) = at_line n (line_blame f)

-- a fault that names no line: of the file itself, or of the memory lent for its report
abbrev pub IsOfNoLine : Fault → Type 0
IsOfNoLine ReportMemory = Unit {0}
IsOfNoLine File = Unit {0}
IsOfNoLine (Line n f) = ⊥
