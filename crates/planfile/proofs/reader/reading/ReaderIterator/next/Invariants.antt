-- So far the bytes of one line are taken.
use Rattle.std.proofs.Common.{◌≡◌}
use Rattle.planfile.specs.Steps.{IsBeforeByte, kept_fields}
use Rattle.planfile.proofs.reader.reading.ReaderIterator.next.Given as goal

abbrev pub invariant-loop-at : goal.invariant-loop-at
invariant-loop-at l = (l.self.text.now ≡ l.text) × IsBeforeByte l.text l.at (kept_fields l.self) l.self.state
