use Rattle.std.proofs.Common.{◌+◌, ◌-◌, ◌^◌, ◌<◌, ◌≤◌, length}
use Rattle.analysis.specs.Candidates.{need_with}
use Rattle.analysis.proofs.Jumps.{NoneBefore, NoneAmong}
use Rattle.analysis.proofs.search.search.Given as goal

abbrev pub invariant-windows : goal.invariant-windows
invariant-windows g l = (1 ≤ l.window) × NoneBefore (need_with g.K.Kind.demand l.higher.items l.alone) (2 ^ length l.higher.items) l.window

abbrev pub invariant-vectors : goal.invariant-vectors
invariant-vectors g l = (l.window < l.next) × NoneAmong (need_with g.K.Kind.demand l.higher.items l.alone) l.vector l.window l.next

abbrev pub decreases-windows : goal.decreases-windows
decreases-windows g l = l.deadline + 1 - l.window
