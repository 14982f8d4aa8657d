use Rattle.std.proofs.Common.{◌≡◌, take}
use Rattle.analysis.specs.Locks.{ceiling_at, longest_in}
use Rattle.analysis.specs.Places.{ranked_rows}
use Rattle.analysis.proofs.locks.longest_of_all.Given as goal

-- the longest section of the rows so far
abbrev pub invariant-loop-rank : goal.invariant-loop-rank
invariant-loop-rank l = l.longest ≡ longest_in (ceiling_at l.ceilings) l.priority (ranked_rows (take l.rank-index l.rows))
