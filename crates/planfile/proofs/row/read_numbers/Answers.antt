use Rattle.std.proofs.Common.{◌<◌, [], ◌∷◌, ◌++◌, length, sym, ap, ◌∙◌, add-one, arith, length-set}
use Rattle.std.proofs.lemmas.List.{take_more_set}
use Rattle.std.proofs.lemmas.Result.{err_from_is_err_and}
use Rattle.planfile.specs.Checks.{numbers_in}
use Rattle.planfile.proofs.Blames.{fault_numbered, first_broken, one_more, numbers_more}
use Rattle.planfile.proofs.row.read_numbers.Goals as goal

pub returns-in_err-number : goal.returns-in_err-number
returns-in_err-number g c =
    let p = err_from_is_err_and c.from_residual.result c.from_residual.ensures.1 in
    rw (p.1, p.2) (first_broken c.args.line.now c.args.start c.loop-i.i g.row.N _ (omega arith) c.loop-i.invariant.1 (fault_numbered _) c.in_err-number.ensures)

pub loop-i-preserved : goal.loop-i-preserved
loop-i-preserved g c =
    let fs = c.args.line.now in
    let inv = c.loop-i.invariant in
    let here = c.in_ok-number.ensures in
    let shorter : c.loop-i.i < length c.loop-i.number-items = omega (arith, inv.0, c.loop-i-test.true) in (
      length-set c.loop-i.number-items c.loop-i.i _ ∙ inv.0,
      one_more fs c.args.start c.loop-i.i inv.1 here.0,
      take_more_set c.loop-i.number-items c.loop-i.i _ shorter ∙ (ap (λ ns. ns ++ c.in_ok-number.field-0 ∷ []) inv.2 ∙ (ap (λ n. numbers_in fs c.args.start c.loop-i.i ++ n ∷ []) here.1 ∙ (sym (numbers_more fs c.args.start c.loop-i.i) ∙ ap (numbers_in fs c.args.start) (sym (add-one c.loop-i.i))))),
    )
