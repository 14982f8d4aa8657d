use Rattle.std.proofs.Common.{◌≡◌, take}
use Rattle.analysis.specs.Locks.{ceiling}
use Rattle.analysis.specs.Places.{ranked_rows}
use Rattle.analysis.proofs.locks.ceiling_of.Given as goal

-- the ceiling by the rows so far
abbrev pub invariant-loop-rank : goal.invariant-loop-rank
invariant-loop-rank l = l.ceiling ≡ ceiling (ranked_rows (take l.rank-index l.ranks)) l.lock
