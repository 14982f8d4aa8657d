use Rattle.std.proofs.Common.{◌∙◌, arith}
use Rattle.analysis.proofs.Summed.{behind_more}
use Rattle.analysis.proofs.cover.need_by.Goals as goal

pub loop-i-preserved : goal.loop-i-preserved
loop-i-preserved g c =
    let step = c.in-Some.ensures.steps in (
      step.0 ∙ c.loop-i.invariant.0,
      behind_more _ _ _ _ _ _ _ c.in-Some.row.now c.in-Some.i _ _ _ _ step.1.0 (omega (arith, step.1.1, c.loop-i.invariant.0)) c.loop-i.invariant.1
          c.with_row-sum.ensures.waits c.with_row-sum.ensures.need,
    )
