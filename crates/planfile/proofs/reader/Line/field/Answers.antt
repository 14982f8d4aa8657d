-- The fields that are kept are the first twenty.
use Rattle.std.proofs.Common.{◌-◌, take, ap, ◌∙◌, arith}
use Rattle.planfile.proofs.Cutting.{field_is}
use Rattle.planfile.proofs.reader.Line.field.Goals as goal

pub returns : goal.returns
returns c =
    rw c.deref.ensures.0 (field_is c.self.inside.kept.items c.args.self.now (c.self.invariant.1 ∙ ap (take 20) c.self.view_is) (c.args.number - 1) (omega arith) (omega arith) _)
