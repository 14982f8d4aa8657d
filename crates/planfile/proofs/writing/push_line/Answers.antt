-- The next number is among those that are left, so there is room for it.
use Rattle.std.proofs.Common.{◌∷◌, ◌++◌, [], length, sym, ap, ◌∙◌, arith}
use Rattle.std.proofs.lemmas.List.{drop_more, length-append}
use Rattle.planfile.specs.Report.{number_fields}
use Rattle.planfile.specs.Text.{newline}
use Rattle.planfile.proofs.writing.push_line.Goals as goal

pub push_number-requires : goal.push_number-requires
push_number-requires c =
    let next = drop_more c.args.numbers.now c.loop-number.number-index 0 (omega arith) in
    let whole = ap (λ ns. c.loop-number.text.bytes ++ (number_fields ns ++ newline ∷ [])) (sym next) ∙ c.loop-number.invariant in
    omega (arith, simp length-append at (ap length whole), simp length-append at c.requires)
