-- A file has one answer: the definitions give no two for it. Assumes nothing.
use Rattle.std.proofs.Common.{◌≡◌, ℕ, ◌+◌, ◌<◌, ◌≤◌, if◌then◌else◌, ◌==◌, ◌≢◌, ◌⊎◌, List, [], ◌∷◌, length, Ok, Err, Result, sym, refl, ap, ◌∙◌, inl, inr, arith}
use Rattle.std.proofs.lemmas.Bool.Decides.{nat_tests}
use Rattle.analysis.specs.Judge.{LateRow}
use Rattle.analysis.specs.Plans.{System, FirstLate}
use Rattle.analysis.specs.Ranks.{Claim, Load, system, loads, ranking}
use Rattle.analysis.proofs.Best.{Grows, window_kept}
use Rattle.table.specs.declared.refusals.HoldRefusal.{HoldRefusal}
use Rattle.table.specs.declared.refusals.HoldRefusal.TheVariants.{Number, Priority, Suspension, Deadline, Section, NoPlace, Late}
use Rattle.table.specs.Account.{Refused, hold_number, hold_late}
use Rattle.table.specs.Agreement.{LawfulRows}
use Rattle.table.proofs.Shared.{at_least_five, needs_grow}
use Rattle.table.proofs.Unique.{same_bounds}
use Rattle.demand.specs.declared.factor.Factor.{Factor}
use Rattle.planfile.specs.declared.fault.Fault.{Fault}
use Rattle.planfile.specs.declared.fault.LineFault.TheVariants.{Hold}
use Rattle.planfile.specs.declared.fault.Blame.{Blame}
use Rattle.planfile.specs.Fault.{nothing, at_line, first_blame, line_blame, blame}
use Rattle.planfile.specs.Text.{fields}
use Rattle.planfile.specs.Checks.{clock_checks, entry_of}
use Rattle.planfile.specs.Reading.{account_with, claim_in, first_fields, file_checks, RowTaken, RowRefused, RowsRead, FileRead}
use Rattle.planfile.specs.Loading.{Loaded}
use Rattle.planfile.specs.Laws.{row_lines, factor_of, OneAnswer}
use Rattle.planfile.proofs.Blames.{something}
use Rattle.planfile.proofs.FileOrder.{rows_are}
use Rattle.planfile.proofs.RowsAccepted.{claim_lawful, lawful_before, none_lawful, not_refused}

module _ (s : System) (grows : Grows s) where
  -- a late rank has no bound, so none below it is the first late one
  none_below : (j k : ℕ) → FirstLate s j → FirstLate s k → j < k → ⊥
  none_below j k f g lt =
      let same : (i : ℕ) → i < j → f.R i ≡ g.R i = same_bounds s grows j f.R f.V g.R g.V f.above (λ i l. g.above i (omega arith)) in
      f.none (g.V j) (g.R j) (window_kept s grows j f.R g.R (g.V j) (g.R j) (λ i l. let e = same i l in omega arith) (g.above j lt).covers)

  -- there is one first late rank
  first_late_once : (j k : ℕ) → FirstLate s j → FirstLate s k → j ≡ k
  first_late_once j k f g =
      let no_less = none_below j k f g in
      let no_more = none_below k j g f in
      omega arith

-- so one row at most is named as late
named_once : (ls : List Load) (m n : ℕ) → Grows (system ls) → LateRow ls m → LateRow ls n → m ≡ n
named_once ls m n grows (j, f, p) (k, g, q) =
    let e = first_late_once (system ls) grows j k f g in
    cc

-- checks that say the same of two numbers, 0 of 11 and else the number, are of one number
numbered_once : (m n : ℕ) → 5 ≤ m → 5 ≤ n → (if m == 11 then 0 else m) ≡ (if n == 11 then 0 else n) → m ≡ n
numbered_once m n h l e = grind (arith, nat_tests)

-- a refusal is of a late row, or names none
late_or_none : (e : HoldRefusal) → (hold_number e ≡ 11) ⊎ (hold_late e ≡ 0)
late_or_none Number = inr refl
late_or_none Priority = inr refl
late_or_none Suspension = inr refl
late_or_none Deadline = inr refl
late_or_none Section = inr refl
late_or_none NoPlace = inr refl
late_or_none (Late n) = inl refl

-- two refusals of one row say the same
refused_once : (rows : List Claim) (c : Claim) → LawfulRows (c ∷ rows) → (d e : HoldRefusal) → Refused (account_with rows) c d → Refused (account_with rows) c e → line_blame (Hold d) ≡ line_blame (Hold e)
refused_once rows c lawful d e p q =
    let same : hold_number d ≡ hold_number e = numbered_once (hold_number d) (hold_number e) (at_least_five d) (at_least_five e) (sym p.by_number ∙ q.by_number) in
    let late = go same (late_or_none d) (late_or_none e) in
    cc
  where
    both : hold_number d ≡ 11 → hold_number e ≡ 11 → hold_late d ≡ hold_late e
    both h l = named_once (loads (ranking (c ∷ rows))) (hold_late d) (hold_late e) (needs_grow (c ∷ rows) lawful) (p.late h) (q.late l)

    go : hold_number d ≡ hold_number e → (hold_number d ≡ 11) ⊎ (hold_late d ≡ 0) → (hold_number e ≡ 11) ⊎ (hold_late e ≡ 0) → hold_late d ≡ hold_late e
    go same (inl h) l = both h (sym same ∙ h)
    go same (inr h) (inl l) = both (same ∙ l) l
    go same (inr h) (inr l) = h ∙ sym l

-- a check that applies has a number
not_nothing : (a b : Blame) → a ≡ b → b.number ≢ 0 → a ≡ nothing → ⊥
not_nothing a b e some none = something b some (sym e ∙ none)

module _ (clock : Factor) (rows : List Claim) (fs : List (List ℕ)) (lawful : LawfulRows rows) where
  -- the kind of a row line is lawful too
  lawful_more : LawfulRows (claim_in clock fs ∷ rows)
  lawful_more = lawful_before (claim_in clock fs) rows (claim_lawful clock (entry_of fs)) lawful

  -- a row line is refused for one thing
  row_once : (a b : Blame) → RowRefused clock rows fs a → RowRefused clock rows fs b → a ≡ b
  row_once a b (inl x) (inl y) = sym x.0 ∙ y.0
  row_once a b (inl x) (inr y) = absurd (not_nothing _ a x.0 x.1 y.0)
  row_once a b (inr x) (inl y) = absurd (not_nothing _ b y.0 y.1 x.0)
  row_once a b (inr (x, (d, p, i))) (inr (y, (e, q, j))) = i ∙ (refused_once rows (claim_in clock fs) lawful_more d e p q ∙ sym j)

  -- a row line that is refused is not taken
  not_taken : (b : Blame) → RowRefused clock rows fs b → RowTaken clock rows fs → ⊥
  not_taken b (inl x) taken = not_nothing _ b x.0 x.1 taken.passes
  not_taken b (inr (x, (e, p, i))) taken = not_refused rows (claim_in clock fs) lawful_more taken.accepted.passes taken.accepted.in_time e p

-- row lines give one thing
rows_once : (clock : Factor) (n : ℕ) (rows : List Claim) (ls : List (List ℕ)) → LawfulRows rows → (r s : Result (List Claim) Blame) → RowsRead clock n rows ls r → RowsRead clock n rows ls s → r ≡ s
rows_once clock n rows [] lawful r s p q = p ∙ sym q
rows_once clock n rows (line ∷ rest) lawful r s (inl (a, p, i)) (inl (b, q, j)) = let e = row_once clock rows (fields line) lawful a b p q in cc
rows_once clock n rows (line ∷ rest) lawful r s (inl (a, p, i)) (inr x) = absurd (not_taken clock rows (fields line) lawful a p x.0)
rows_once clock n rows (line ∷ rest) lawful r s (inr x) (inl (b, q, j)) = absurd (not_taken clock rows (fields line) lawful b q x.0)
rows_once clock n rows (line ∷ rest) lawful r s (inr x) (inr y) =
    rows_once clock (n + 1) (claim_in clock (fields line) ∷ rows) rest (lawful_more clock rows (fields line) lawful) r s x.1 y.1

-- where a check applies it decides, and where none does, what comes after it
behind_checks : {A B : Type 0} (b : Blame) (out r s : Result (List Claim) Blame) → (A → B → r ≡ s) → ((b.number ≢ 0) × (r ≡ out)) ⊎ ((b ≡ nothing) × A) → ((b.number ≢ 0) × (s ≡ out)) ⊎ ((b ≡ nothing) × B) → r ≡ s
behind_checks b out r s once (inl x) (inl y) = x.1 ∙ sym y.1
behind_checks b out r s once (inl x) (inr y) = absurd (not_nothing b b refl x.0 y.0)
behind_checks b out r s once (inr x) (inl y) = absurd (not_nothing b b refl y.0 x.0)
behind_checks b out r s once (inr x) (inr y) = once x.1 y.1

-- a file gives one thing
pub same_answer : (text : List ℕ) (room : ℕ) (r s : Result (List Claim) Blame) → FileRead text room r → FileRead text room s → r ≡ s
same_answer text room r s =
    let clock = first_blame (clock_checks (first_fields text)) in
    behind_checks (first_blame (file_checks text room)) _ r s (behind_checks clock (Err (at_line 1 clock)) r s (rows_once (factor_of text) 2 [] (row_lines text) none_lawful r s))

-- so what load answers is all that the file gives
pub one_answer : (text before : List ℕ) (r : Result ℕ Fault) (after : List ℕ) → Loaded text before r after → OneAnswer text (length before) r
one_answer text before (Ok n) after loaded s read =
    same_answer text (length before) s (Ok loaded.rows) read loaded.read ∙ ap Ok (rows_are text (length before) loaded.rows loaded.read)
one_answer text before (Err f) after loaded s read = same_answer text (length before) s (Err (blame f)) read loaded.0
