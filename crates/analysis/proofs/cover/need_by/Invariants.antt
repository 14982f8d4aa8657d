use Rattle.std.proofs.Common.{◌≡◌}
use Rattle.std.specs.Iterator.Adapters.{enumerate_count, enumerate_source, rev_source}
use Rattle.std.specs.Slice.Iter.{iter_rest}
use Rattle.analysis.specs.Candidates.{above_of}
use Rattle.analysis.proofs.Summed.{Behind}
use Rattle.analysis.proofs.cover.need_by.Given as goal

abbrev pub invariant-loop-i : goal.invariant-loop-i
invariant-loop-i g l =
    (enumerate_count (rev_source l.i-iterator) ≡ 0)
    × Behind (above_of g.K.Kind.demand) l.higher.items l.vector l.window l.alone (iter_rest (enumerate_source (rev_source l.i-iterator))) l.sum.waits l.sum.need
