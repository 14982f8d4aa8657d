-- The bytes are pushed as digits, up to the end or to the first that is not pushed.
use Rattle.std.proofs.Common.{length, sym, ap, ◌∙◌, rules}
use Rattle.std.proofs.lemmas.Iterator.{YieldsList-from_slice}
use Rattle.std.specs.Str.{all_ascii_digits}
use Rattle.planfile.specs.Text.{value_after}
use Rattle.planfile.proofs.Numbers.{digits_pushed, turned, pushed}
use Rattle.planfile.proofs.number.push_digits.Goals as goal

pub returns : goal.returns
returns c =
    let ran = c.try_fold.ensures.ran in
    let field = c.args.digits.now in
    let end = turned field (YieldsList-from_slice field (cc)) ran.0 ran.1 _ ran.4 in
    let so_far = digits_pushed _ (λ p x q t. search rules) ran.0 _ _ ran.5 (search rules) in
    pushed c.args.number field (length ran.0) ran.3 (ap all_ascii_digits (sym end.0) ∙ so_far.0) (so_far.1 ∙ ap (value_after c.args.number) end.0) so_far.2 ran.1 c.try_fold.result _ end.1 ran.6 (λ x t. search rules)
