-- A plan file that was written from rows in time loads to their report. Assumes nothing.
use Rattle.std.proofs.Common.{◌≡◌, ℕ, ◌+◌, ◌*◌, ◌≤◌, if◌then◌else◌, not, ◌||◌, nat_lt, ◌≢◌, List, [], ◌∷◌, map, length, slice_index_or, drop, Ok, Err, codes, Result, sym, ap, ◌∙◌, subst, inl, inr, arith}
use Rattle.std.proofs.lemmas.List.{length-append}
use Rattle.std.proofs.lemmas.Bool.{cond-false, le-ltb, or_from, not_from_true}
use Rattle.analysis.specs.Judge.{InTime}
use Rattle.analysis.specs.Ranks.{Claim}
use Rattle.table.specs.Account.{Refused}
use Rattle.demand.specs.declared.factor.Factor.{Factor}
use Rattle.planfile.specs.declared.fault.Fault.{Fault}
use Rattle.planfile.specs.declared.fault.Blame.{Blame}
use Rattle.planfile.specs.Fault.{nothing, by_number, first_blame, blame}
use Rattle.planfile.specs.Text.{newline, lines, fields, ends_with_newline}
use Rattle.planfile.specs.Checks.{Entry, clock_checks, clock_of, line_checks, claim_of}
use Rattle.planfile.specs.Reading.{account_with, first_fields, file_checks, RowRefused, RowsRead, FileRead}
use Rattle.planfile.specs.Loading.{Loaded}
use Rattle.planfile.specs.Laws.{plan_text, claims_onto, NumbersPass, SoundPlan, RoundTrip}
use Rattle.planfile.proofs.Blames.{something}
use Rattle.planfile.proofs.FileOrder.{not_both, same_ok}
use Rattle.planfile.proofs.Joined.{Parts, WholeLines, with_newlines, line_lacks, line_short, lines_are, lines_ended}
use Rattle.planfile.proofs.RowsAccepted.{none_distinct, none_lawful, SoundBehind, sound_more, few_entries, entry_not_refused}
use Rattle.planfile.proofs.WrittenLines.{row_parts, row_parts_are, row_word, row_line, clock_word, clock_line, clock_parts, plan_text_is}
use Rattle.planfile.proofs.WrittenPass.{entry_is, row_passes, clock_parts_are, clock_is, clock_passes}

-- nothing has no number
no_blame : (a b : Blame) → a ≡ nothing → a ≡ b → b.number ≢ 0 → ⊥
no_blame a b p q ne = something b ne (sym q ∙ p)

module _ (clock : Factor) where
  -- a written row line is not refused
  line_not_refused : (rows : List Claim) (e : Entry) (es : List Entry) → SoundBehind clock rows (e ∷ es) → (b : Blame) → RowRefused clock rows (fields (row_line e)) b → ⊥
  line_not_refused rows e es s b (inl x) =
      no_blame (first_blame (line_checks (fields (row_line e)))) b (row_passes e s.numbers.0 s.numbers.1) x.0 x.1
  line_not_refused rows e es s b (inr x) =
      entry_not_refused clock rows e es s x.1.0
      (subst (λ (f : Entry). Refused (account_with rows) (claim_of clock f) x.1.0) (entry_is e s.numbers.0) x.1.1)

  -- the written row lines give the rows of the entries, and nothing else
  rows_read : (n : ℕ) (rows : List Claim) (es : List Entry) → SoundBehind clock rows es → (r : Result (List Claim) Blame) → RowsRead clock n rows (map row_line es) r → r ≡ Ok (claims_onto clock rows es)
  rows_read n rows [] s r read = read
  rows_read n rows (e ∷ es) s r (inl x) = absurd (line_not_refused rows e es s x.0 x.1)
  rows_read n rows (e ∷ es) s r (inr x) =
      rows_read (n + 1) (claim_of clock e ∷ rows) es (sound_more clock rows e es s) r
      (subst (λ (f : Entry). RowsRead clock (n + 1) (claim_of clock f ∷ rows) (map row_line es) r) (entry_is e s.numbers.0) x.1)

  -- a written row line has no newline
  rows_whole : (rows : List Claim) (es : List Entry) → NumbersPass clock rows es → WholeLines (map row_line es)
  rows_whole rows [] pass = tt
  rows_whole rows (e ∷ es) pass =
      (line_lacks (codes "row") (row_parts e) row_word (row_parts_are e pass.0).0, rows_whole (claim_of clock e ∷ rows) es pass.3)

  -- 220 bytes to a row are enough
  rows_short : (rows : List Claim) (es : List Entry) → NumbersPass clock rows es → length (with_newlines (map row_line es)) ≤ 220 * length es
  rows_short rows [] pass = omega arith
  rows_short rows (e ∷ es) pass =
      let parts = row_parts_are e pass.0 in
      let few = parts.1 in
      let here = line_short (codes "row") (row_parts e) row_word parts.0 in
      let rest = rows_short (claim_of clock e ∷ rows) es pass.3 in
      omega (arith, length-append (row_line e) (newline ∷ with_newlines (map row_line es)))

module _ (clock : Factor) (es : List Entry) (sound : SoundPlan clock es) where
  -- the text of the plan, by its lines
  abbrev all_lines : List (List ℕ)
  all_lines = clock_line clock ∷ map row_line es

  abbrev whole : List ℕ
  whole = with_newlines all_lines

  parts_are : Parts (clock_parts clock)
  parts_are = clock_parts_are clock sound.numerator sound.denominator

  lines_of : lines whole ≡ all_lines
  lines_of = lines_are all_lines (line_lacks (codes "clock") (clock_parts clock) clock_word parts_are, rows_whole clock [] es sound.numbers)

  few_bytes : length whole ≤ 4096
  few_bytes =
      let few = few_entries clock [] es sound.numbers (omega arith) in
      let here = line_short (codes "clock") (clock_parts clock) clock_word parts_are in
      let rest = rows_short clock [] es sound.numbers in
      omega (arith, length-append (clock_line clock) (newline ∷ with_newlines (map row_line es)))

  file_passes : (room : ℕ) → 512 ≤ room → first_blame (file_checks whole room) ≡ nothing
  file_passes room enough =
      cond-false (nat_lt room 512) (by_number 19) (if nat_lt 4096 (length whole) || not (ends_with_newline whole) then by_number 18 else nothing) (le-ltb room 512 enough)
      ∙ cond-false (nat_lt 4096 (length whole) || not (ends_with_newline whole)) (by_number 18) nothing
      (or_from (nat_lt 4096 (length whole)) (not (ends_with_newline whole)) (le-ltb 4096 (length whole) few_bytes) (not_from_true (ends_with_newline whole) (lines_ended (clock_line clock) (map row_line es))))

  first_line : first_fields whole ≡ fields (clock_line clock)
  first_line = ap (λ (ls : List (List ℕ)). fields (slice_index_or ls 0 [])) lines_of

  clock_line_passes : first_blame (clock_checks (first_fields whole)) ≡ nothing
  clock_line_passes = ap (λ (fs : List (List ℕ)). first_blame (clock_checks fs)) first_line ∙ clock_passes clock sound.numerator sound.denominator sound.factor

  factor : clock_of (first_fields whole) ≡ clock
  factor = ap clock_of first_line ∙ clock_is clock sound.numerator sound.denominator

  -- the text of the plan gives its rows, and nothing else
  plan_read : (room : ℕ) → 512 ≤ room → (r : Result (List Claim) Blame) → FileRead whole room r → r ≡ Ok (claims_onto clock [] es)
  plan_read room enough r (inl x) = absurd (x.0 (ap (λ (b : Blame). b.number) (file_passes room enough)))
  plan_read room enough r (inr (pass, inl x)) = absurd (x.0 (ap (λ (b : Blame). b.number) clock_line_passes))
  plan_read room enough r (inr (pass, inr x)) =
      rows_read clock 2 [] es (record { numbers = sound.numbers; distinct = none_distinct; lawful = none_lawful; in_time = sound.in_time }) r
      (subst (λ (ls : List (List ℕ)). RowsRead clock 2 [] (drop 1 ls) r) lines_of
      (subst (λ (c : Factor). RowsRead c 2 [] (drop 1 (lines whole)) r) factor x.1))

-- what is read of the text that is written
pub written_read : (text : List ℕ) (clock : Factor) (es : List Entry) → SoundPlan clock es → text ≡ plan_text clock es → (room : ℕ) → 512 ≤ room → (r : Result (List Claim) Blame) → FileRead text room r → r ≡ Ok (claims_onto clock [] es)
written_read text clock es sound e room enough r read =
    plan_read clock es sound room enough r (subst (λ (t : List ℕ). FileRead t room r) (e ∙ plan_text_is clock es) read)

-- so what is loaded is the report of the rows that were written
pub round_trip : (text before : List ℕ) (r : Result ℕ Fault) (after : List ℕ) → Loaded text before r after → RoundTrip text before r after
round_trip text before (Ok n) after loaded clock es sound e enough =
    let same = same_ok loaded.rows (claims_onto clock [] es) (written_read text clock es sound e (length before) enough (Ok loaded.rows) loaded.read) in
    record {
      answers = loaded.answers;
      in_time = subst (λ (rows : List Claim). InTime rows loaded.answers) same loaded.in_time;
      size = loaded.size;
      written = loaded.written;
    }
round_trip text before (Err f) after loaded clock es sound e enough =
    not_both (claims_onto clock [] es) (blame f) (sym (written_read text clock es sound e (length before) enough (Err (blame f)) loaded.0))
