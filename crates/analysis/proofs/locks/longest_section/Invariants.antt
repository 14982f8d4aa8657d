use Rattle.std.proofs.Common.{◌≡◌}
use Rattle.analysis.specs.Locks.{ceiling_at, longest_in_row}
use Rattle.analysis.proofs.locks.longest_section.Given as goal

-- the longest section on the locks so far
abbrev pub invariant-loop-lock : goal.invariant-loop-lock
invariant-loop-lock l = l.longest ≡ longest_in_row (ceiling_at l.ceilings) l.priority l.row l.lock
