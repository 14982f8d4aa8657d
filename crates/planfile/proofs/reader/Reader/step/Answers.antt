-- A byte of a field leaves the reader as it is; a tab and a newline end the field, which is kept then.
use Rattle.std.proofs.Common.{sym, refl, ◌∙◌, subst, arith}
use Rattle.planfile.specs.Steps.{IsPastByte, kept_fields}
use Rattle.planfile.proofs.Cutting.{in_field, on_other, on_tab, on_newline}
use Rattle.planfile.proofs.reader.Reader.step.Goals as goal

pub returns-in-Field-eq9 : goal.returns-in-Field-eq9
returns-in-Field-eq9 c =
    let r = c.args.self.now in
    record {
      text = c.keep.ensures.text;
      taken = on_tab r.text.now c.args.at (kept_fields r) _ _ (in_field _ _ _ _ _ _ c.in-Field-eq9.is-0 c.requires.taking) c.requires.inside _ c.keep.ensures.fields (sym c.requires.byte ∙ c.in-Field-eq9.is-1);
    }

pub returns-in-Field-eq10 : goal.returns-in-Field-eq10
returns-in-Field-eq10 c =
    let r = c.args.self.now in
    record {
      text = c.keep-in-Field-eq10.ensures.text;
      taken = on_newline r.text.now c.args.at (kept_fields r) _ _ (in_field _ _ _ _ _ _ c.in-Field-eq10.is-0 c.requires.taking) c.requires.inside _ c.keep-in-Field-eq10.ensures.fields (sym c.requires.byte ∙ c.in-Field-eq10.is-1);
    }

pub returns-in-Field-default : goal.returns-in-Field-default
returns-in-Field-default c =
    let r = c.args.self.now in
    let e = c.in-Field-default.is-0 in
    record {
      text = refl;
      taken = subst (IsPastByte r.text.now c.args.at (kept_fields r)) (sym e) (on_other r.text.now c.args.at (kept_fields r) _ _ (in_field _ _ _ _ _ _ e c.requires.taking) c.requires.inside (λ h. omega arith) (λ h. omega arith));
    }
