-- A line has a field, and the first is kept.
use Rattle.std.proofs.Common.{length, ap, arith}
use Rattle.planfile.specs.Text.{fields, tab}
use Rattle.planfile.proofs.Cutting.{is_kept}
use Rattle.planfile.proofs.Parted.{some_part}
use Rattle.planfile.proofs.reader.Line.first.Goals as goal

pub bounds-deref-0 : goal.bounds-deref-0
bounds-deref-0 c =
    let text = c.self.inside.text.now in
    omega (arith, ap length c.deref.ensures.0, is_kept c.self.inside.kept.items (fields text) c.self.invariant.1 0 (omega arith) (some_part tab text))
