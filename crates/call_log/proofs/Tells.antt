-- What is said between two moments of a log, put together. Assumes nothing.
use Rattle.std.proofs.Common.{◌≡◌, ◌≢◌, ℕ, ◌+◌, Bool, true, false, ◌&&◌, List, [], ◌++◌, Option, Some, None, Ok, Err, Result, sym, refl, ap, ◌∙◌, subst, inl, append_assoc}
use Rattle.std.proofs.lemmas.List.{append-nil}
use Rattle.std.specs.declared.io.traits.Read.{Ghosts}
use Rattle.std.specs.Io.KnownBytes.{Appends}
use Rattle.planfile.specs.declared.fault.Blame.{Blame}
use Rattle.planfile.specs.declared.fault.LineFault.{LineFault}
use Rattle.planfile.specs.Checks.{Reads}
use Rattle.planfile.specs.Fault.{at_line, nothing, first_blame, line_blame}
use Rattle.planfile.specs.Report.{refusal_line}
use Rattle.planfile.proofs.Blames.{fault_numbered}
use Rattle.planfile.specs.Text.{newline, parted_by}
use Rattle.call_log.specs.declared.log.Log.{Log}
use Rattle.call_log.specs.Logs.{Stage, over, Checked, LineSays, LogSays, end_says, refuses, says}
use Rattle.call_log.specs.Reading.{Leads, ReadsLine, AnswersLine, SameLog, Tells, left_of}
use Rattle.planfile.proofs.Parted.{some_part}
use Rattle.call_log.proofs.Lines.{end_leads, over_says, turn_leads}

pub and_true : (b : Bool) → b ≡ (b && true)
and_true true = refl
and_true false = refl

pub and_false : (b : Bool) → false ≡ (b && false)
and_false true = refl
and_false false = refl

and_more : (a b c : Bool) → ((a && b) && c) ≡ (a && (b && c))
and_more true b c = refl
and_more false b c = refl

-- bytes that were appended, and more of them
appends_more : (A B C : Option (List ℕ)) (xs ys : List ℕ) → Appends A B xs → Appends B C ys → Appends A C (xs ++ ys)
appends_more None B C xs ys p q = tt
appends_more (Some a) None C xs ys p q = absurd p
appends_more (Some a) (Some b) None xs ys p q = absurd q
appends_more (Some a) (Some b) (Some c) xs ys p q = q ∙ ap (λ l. l ++ ys) p ∙ append_assoc a xs ys

-- nothing was appended
pub appends_none : (A B : Option (List ℕ)) → B ≡ A → Appends A B []
appends_none A B same = subst (λ X. Appends A X []) (sym same) (none A)
  where
    none : (A : Option (List ℕ)) → Appends A A []
    none None = tt
    none (Some a) = sym (append-nil a)

-- a line is refused for its fault
pub is_refused : (k : ℕ) (b : Blame) (s : Stage) (f : LineFault) (More : Type 0) → b ≡ line_blame f → Checked k b s (refuses k (line_blame f) s) More
is_refused k b s f More is =
    inl (subst (λ (x : Blame). x.number ≢ 0) (sym is) (fault_numbered f), ap (λ (x : Blame). refuses k x s) (sym is))

-- what was read, and what was refused
pub read_ok : {A : Type 0} (checks : List (Bool × Blame)) (x y : A) (r : Result A LineFault) → Reads checks x r → r ≡ Ok y → (first_blame checks ≡ nothing) × (y ≡ x)
read_ok checks x y r read is = subst (λ q. Reads checks x q) is read

pub read_err : {A : Type 0} (checks : List (Bool × Blame)) (x : A) (f : LineFault) (r : Result A LineFault) → Reads checks x r → r ≡ Err f → first_blame checks ≡ line_blame f
read_err checks x f r read is = subst (λ q. Reads checks x q) is read

module _ {R : Type 0} {reads : Ghosts R} where
  -- a line is answered with a text, or with none
  pub told_text : (l : Log R reads) (A B : Option (List ℕ)) (s t : Stage) (said : List ℕ) → Appends A B said → LineSays s l.number l.line.items (says said t) → AnswersLine l l A B s t
  told_text l A B s t said told line =
      record { turn = says said t; says = line; told = told; well_formed = and_true l.well_formed; next = refl; same = record { line = refl; number = refl; left = refl; to_come = refl } }

  -- a line is refused
  pub told_refused : (l m : Log R reads) (A B : Option (List ℕ)) (s t : Stage) (b : Blame) → SameLog l m → m.well_formed ≡ false → Appends A B (refusal_line (at_line l.number b)) → LineSays s l.number l.line.items (refuses l.number b t) → AnswersLine l m A B s t
  told_refused l m A B s t b same ill told line =
      record { turn = refuses l.number b t; says = line; told = told; well_formed = ill ∙ and_false l.well_formed; next = refl; same = same }

  -- one thing after the other
  pub tells_more : (l m n : Log R reads) (A B C : Option (List ℕ)) (s t u : Stage) → Tells l m A B s t → Tells m n B C t u → Tells l n A C s u
  tells_more l m n A B C s t u first second xs known =
      let p = first xs known in
      let q = second p.0 p.1 in (
        q.0,
        q.1,
        p.2 ++ q.2,
        p.3 && q.3,
        appends_more A B C p.2 q.2 p.4 q.4,
        q.5 ∙ ap (λ b. b && q.3) p.5 ∙ and_more l.well_formed p.3 q.3,
        λ more fine h.
            subst (λ said. LogSays s (l.number + 1) (parted_by newline xs) said ((p.3 && q.3) && fine)) (sym (append_assoc p.2 q.2 more))
            (subst (λ ok. LogSays s (l.number + 1) (parted_by newline xs) (p.2 ++ (q.2 ++ more)) ok) (sym (and_more p.3 q.3 fine)) (p.6 (q.2 ++ more) (q.3 && fine) (q.6 more fine h))),
      )

  -- a line is read and answered
  pub tells_line : (l m n : Log R reads) (A B : Option (List ℕ)) (s t : Stage) → ReadsLine l true m → m.number ≡ l.number + 1 → m.well_formed ≡ l.well_formed → AnswersLine m n A B s t → Tells l n A B s t
  tells_line l m n A B s t read number ill told xs known =
      let r = read xs known in
      let turn = told.turn in
      let line : LineSays s (l.number + 1) m.line.items turn = subst (λ k. LineSays s k m.line.items turn) number told.says in
      let leads : Leads s (l.number + 1) xs turn.said turn.well_formed turn.next ((l.number + 1) + 1) r.0 = turn_leads s (l.number + 1) xs m.line.items r.0 r.2 turn line in (
        r.0,
        told.same.left ∙ r.1,
        turn.said,
        turn.well_formed,
        told.told,
        told.well_formed ∙ ap (λ b. b && turn.well_formed) ill,
        subst (λ j. Leads s (l.number + 1) xs turn.said turn.well_formed t j r.0) (ap (λ k. k + 1) (sym number ∙ sym told.same.number))
            (subst (λ next. Leads s (l.number + 1) xs turn.said turn.well_formed next ((l.number + 1) + 1) r.0) told.next leads),
      )

  -- the same behind what was said till then
  pub tells_next : (first l m n : Log R reads) (A B C : Option (List ℕ)) (s t u : Stage) → Tells first l A B s t → ReadsLine l true m → m.number ≡ l.number + 1 → m.well_formed ≡ l.well_formed → AnswersLine m n B C t u → Tells first n A C s u
  tells_next first l m n A B C s t u so_far read number ill told = tells_more first l n A B C s t u so_far (tells_line l m n B C t u read number ill told)

  -- the end of a log is told
  pub tells_end : (l m : Log R reads) (A B : Option (List ℕ)) (s : Stage) → ReadsLine l false m → Appends A B (end_says s (l.number + 1) []).said → m.well_formed ≡ (l.well_formed && (end_says s (l.number + 1) []).well_formed) → Tells l m A B s over
  tells_end l m A B s read told well_formed xs known =
      let r = read xs known in
      ([], r.1, (end_says s (l.number + 1) []).said, (end_says s (l.number + 1) []).well_formed, told, well_formed, subst (Leads s (l.number + 1) xs _ _ over (m.number + 1)) r.0 (end_leads s (l.number + 1) (m.number + 1) xs r.0))

  -- at the end all is said of a log
  pub all_said : (first l : Log R reads) (A B : Option (List ℕ)) (s : Stage) (xs : List ℕ) → left_of first ≡ Some xs → first.number ≡ 0 → first.well_formed ≡ true → Tells first l A B s over → (said : List ℕ) × Appends A B said × LogSays s 1 (parted_by newline xs) said l.well_formed
  all_said first l A B s xs known number fine tells =
      let t = tells xs known in
      let rest = over_says (l.number + 1) (parted_by newline t.0) (some_part newline t.0) in
      let whole : LogSays s (first.number + 1) (parted_by newline xs) (t.2 ++ []) (t.3 && true) = t.6 [] true rest in
      let ok : (t.3 && true) ≡ l.well_formed = sym (and_true t.3) ∙ sym (t.5 ∙ ap (λ b. b && t.3) fine) in (
        t.2,
        t.4,
        subst (λ k. LogSays s (k + 1) (parted_by newline xs) t.2 l.well_formed) number
            (subst (λ b. LogSays s (first.number + 1) (parted_by newline xs) t.2 b) ok
            (subst (λ said. LogSays s (first.number + 1) (parted_by newline xs) said (t.3 && true)) (append-nil t.2) whole)),
      )
