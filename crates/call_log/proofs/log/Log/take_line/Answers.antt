-- Each byte goes behind those of the line; a newline ends it, and so does the end of the log.
use Rattle.std.proofs.Common.{[], ◌∷◌, ◌++◌, length, sym, ap, ◌∙◌, subst, inl, append_assoc, arith}
use Rattle.std.proofs.lemmas.List.{append-nil, length-take}
use Rattle.call_log.specs.Counting.{kept_of}
use Rattle.call_log.specs.Reading.{ReadsByte}
use Rattle.call_log.proofs.Taken.{at_end, at_newline, kept_on, one_on}
use Rattle.call_log.proofs.log.Log.take_line.Goals as goal

pub returns-then-byte-eq10-clause-line : goal.returns-then-byte-eq10-clause-line
returns-then-byte-eq10-clause-line g c xs known =
    let before = c.loop-byte.invariant.taken xs known in
    let byte = subst (λ o. ReadsByte c.loop-byte.self o c.next_byte.new.self) c.in-Some.is c.in_ok-byte.ensures.byte in
    let here = byte before.1 before.2 in
    let items = ap (λ v. v.items) c.in_ok-byte.ensures.line ∙ before.4 in
    let kept = c.in_ok-push_byte.ensures ∙ ap (λ l. kept_of (l ++ c.in-Some.byte ∷ [])) items ∙ kept_on 4097 before.0 c.in-Some.byte in
    let whole = before.3 ∙ ap (λ ys. before.0 ++ ys) here.2 in
    (here.0, here.1, inl (at_newline xs before.0 here.0 _ c.in-Some.byte c.if-byte-eq10.true whole kept before.5))

pub loop-byte-preserved : goal.loop-byte-preserved
loop-byte-preserved g c =
    let inv = c.loop-byte.invariant in
    let byte = subst (λ o. ReadsByte c.loop-byte.self o c.next_byte.new.self) c.in-Some.is c.in_ok-byte.ensures.byte in
    record {
      same = (c.in_ok-byte.ensures.same.0 ∙ inv.same.0, c.in_ok-byte.ensures.same.1 ∙ inv.same.1);
      short = omega (arith, ap length c.in_ok-push_byte.ensures, length-take 4097 (c.next_byte.new.self.line.items ++ c.in-Some.byte ∷ []));
      fewer = omega (arith, rw c.in-Some.is at c.in_ok-byte.ensures.fewer, inv.fewer);
      taken = λ xs known.
          let before = inv.taken xs known in
          let here = byte before.1 before.2 in
          let items = ap (λ v. v.items) c.in_ok-byte.ensures.line ∙ before.4 in (
            before.0 ++ c.in-Some.byte ∷ [],
            here.0,
            here.1,
            before.3 ∙ ap (λ ys. before.0 ++ ys) here.2 ∙ sym (append_assoc before.0 (c.in-Some.byte ∷ []) here.0),
            c.in_ok-push_byte.ensures ∙ ap (λ l. kept_of (l ++ c.in-Some.byte ∷ [])) items ∙ kept_on 4097 before.0 c.in-Some.byte,
            one_on before.0 c.in-Some.byte c.if-byte-eq10.false before.5,
          );
    }

pub returns-clause-line : goal.returns-clause-line
returns-clause-line g c xs known =
    let before = c.loop-byte.invariant.taken xs known in
    let byte = subst (λ o. ReadsByte c.loop-byte.self o c.next_byte.new.self) c.in_default.is c.in_ok-byte.ensures.byte in
    let here = byte before.1 before.2 in
    let items = ap (λ v. v.items) c.in_ok-byte.ensures.line ∙ before.4 in
    let whole = before.3 ∙ ap (λ ys. before.0 ++ ys) here.0 ∙ append-nil before.0 in
    ([], here.1, at_end xs before.0 _ whole items before.5)
