-- A line that has its newline has its fields.
use Rattle.std.proofs.Common.{map, length, ap, arith}
use Rattle.std.proofs.lemmas.List.{length-map}
use Rattle.planfile.specs.Cut.{lines_left}
use Rattle.planfile.specs.Text.{lines, fields}
use Rattle.planfile.proofs.Parted.{ended_line}
use Rattle.planfile.proofs.LinesRead.{first_line, some_first}
use Rattle.planfile.proofs.Requests.{ended_so}
use Rattle.planfile.proofs.request.cut.Goals as goal

pub unwrap-requires : goal.unwrap-requires
unwrap-requires c =
    let text = c.args.text.now in
    let left = ap (λ t. map fields (lines t)) c.new.ensures in
    let ended = ended_so text c.in_ok-check_end.ensures.0 in
    some_first lines_left c.new.result c.next.new.self c.next.result c.next.ensures.steps
    (omega (arith, ap length left, length-map (lines text) fields, ended_line text ended))

pub returns : goal.returns
returns c =
    (c.in_ok-check_end.ensures.0, (first_line c.args.text.now c.new.result c.next.new.self _ _ c.new.ensures c.next.ensures.steps c.unwrap.ensures).0)
