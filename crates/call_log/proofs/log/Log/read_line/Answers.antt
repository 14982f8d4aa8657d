-- Where nothing of a line is kept there was none.
use Rattle.std.proofs.Common.{sym, ap, ◌∙◌, eqb-true, arith, Some}
use Rattle.call_log.proofs.Taken.{none_taken}
use Rattle.call_log.proofs.log.Log.read_line.Goals as goal

pub returns-then-is_empty-clause-line : goal.returns-then-is_empty-clause-line
returns-then-is_empty-clause-line g c xs known =
    let taken = c.in_ok-take_line.ensures.line xs known in
    let line = c.take_line.new.self.line in
    let empty = eqb-true _ 0 (sym c.if-is_empty.ensures) in
    let none = none_taken xs line.items taken.0 (omega (arith, line.ok.0, empty)) taken.2 in
    (none.0, taken.1 ∙ ap Some none.1)
