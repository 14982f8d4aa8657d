-- A byte is kept while there are 4,096 at most.
use Rattle.std.proofs.Common.{[], ◌∷◌, ◌++◌, sym, ◌∙◌, arith}
use Rattle.std.proofs.lemmas.List.{length_push, take_all, take_at}
use Rattle.call_log.proofs.log.push_byte.Goals as goal

pub returns-in_ok-push : goal.returns-in_ok-push
returns-in_ok-push c =
    let items = c.args.line.now.items in
    c.in_ok-push.ensures.items
    ∙ sym (take_all 4097 (items ++ c.args.byte ∷ []) (omega (arith, length_push items c.args.byte, c.args.line.now.ok.0, c.len.ensures, c.if-len-le-LONGEST_LINE.true)))

pub returns-else-len-le-LONGEST_LINE : goal.returns-else-len-le-LONGEST_LINE
returns-else-len-le-LONGEST_LINE c =
    sym (take_at c.args.line.now.items (c.args.byte ∷ []) 4097 (omega (arith, c.args.line.now.ok.0, c.len.ensures, c.if-len-le-LONGEST_LINE.false, c.requires)))
