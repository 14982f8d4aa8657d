-- A file is read in its order: all row lines are taken, or the first fault is answered. Assumes nothing.
use Rattle.std.proofs.Common.{◌≡◌, ℕ, zero, suc, ◌+◌, ◌<◌, ◌≢◌, List, [], ◌∷◌, length, slice_index_or, take, Ok, Err, Result, sym, ap, ◌∙◌, subst, inl, inr, not-suc-le-zero, zero-add, arith}
use Rattle.analysis.specs.Judge.{InTime}
use Rattle.analysis.specs.Ranks.{Claim}
use Rattle.demand.specs.declared.factor.Factor.{Factor}
use Rattle.planfile.specs.declared.fault.Fault.{Fault}
use Rattle.planfile.specs.declared.fault.Blame.{Blame}
use Rattle.planfile.specs.Fault.{at_line, first_blame, blame}
use Rattle.planfile.specs.Text.{fields}
use Rattle.planfile.specs.Checks.{clock_checks}
use Rattle.planfile.specs.Reading.{claim_in, first_fields, file_checks, RowTaken, RowRefused, RowsRead, FileRead}
use Rattle.planfile.specs.Loading.{Loaded}
use Rattle.planfile.specs.Laws.{row_lines, factor_of, rows_onto, AllTaken, FirstFault, InFileOrder}

-- rows are no fault
pub not_both : {A B : Type 0} (x : A) (y : B) → ◌≡◌ {A = Result A B} (Ok x) (Err y) → ⊥
not_both x y p = cc

pub same_ok : {A B : Type 0} (x y : A) → ◌≡◌ {A = Result A B} (Ok x) (Ok y) → x ≡ y
same_ok x y p = cc

same_err : {A B : Type 0} (x y : B) → ◌≡◌ {A = Result A B} (Err x) (Err y) → x ≡ y
same_err x y p = cc

-- each of the first n lines is taken, among the rows of those before it
abbrev TakenBefore : Factor → List Claim → List (List ℕ) → ℕ → Type 0
TakenBefore clock rows ls n = (j : ℕ) → j < n → RowTaken clock (rows_onto clock rows (take j ls)) (fields (slice_index_or ls j []))

taken_more : (clock : Factor) (rows : List Claim) (line : List ℕ) (rest : List (List ℕ)) (n : ℕ) → RowTaken clock rows (fields line) → TakenBefore clock (claim_in clock (fields line) ∷ rows) rest n → TakenBefore clock rows (line ∷ rest) (suc n)
taken_more clock rows line rest n here before zero h = here
taken_more clock rows line rest n here before (suc j) h = before j (omega arith)

-- all lines are taken, and give these rows
record Taken (clock : Factor) (rows : List Claim) (ls : List (List ℕ)) (out : List Claim) : Type 0 where
  all : out ≡ rows_onto clock rows ls
  each : TakenBefore clock rows ls (length ls)

rows_taken : (clock : Factor) (n : ℕ) (rows : List Claim) (ls : List (List ℕ)) (out : List Claim) → RowsRead clock n rows ls (Ok out) → Taken clock rows ls out
rows_taken clock n rows [] out e = record { all = same_ok out rows e; each = λ j h. absurd (not-suc-le-zero h) }
rows_taken clock n rows (line ∷ rest) out (inl x) = absurd (not_both out (at_line n x.0) x.2)
rows_taken clock n rows (line ∷ rest) out (inr x) =
    let more = rows_taken clock (n + 1) (claim_in clock (fields line) ∷ rows) rest out x.1 in
    record { all = more.all; each = taken_more clock rows line rest (length rest) x.0 more.each }

-- one of the lines, of which the first is line n, is refused, and each before it is taken
record FaultAmong (clock : Factor) (n : ℕ) (rows : List Claim) (ls : List (List ℕ)) (b : Blame) : Type 0 where
  index : ℕ
  within : index < length ls
  before : TakenBefore clock rows ls index
  said : Blame
  refused : RowRefused clock (rows_onto clock rows (take index ls)) (fields (slice_index_or ls index [])) said
  blamed : b ≡ at_line (index + n) said

rows_fault : (clock : Factor) (n : ℕ) (rows : List Claim) (ls : List (List ℕ)) (b : Blame) → RowsRead clock n rows ls (Err b) → FaultAmong clock n rows ls b
rows_fault clock n rows [] b e = absurd (not_both rows b (sym e))
rows_fault clock n rows (line ∷ rest) b (inl x) =
    record {
      index = 0;
      within = omega arith;
      before = λ j h. absurd (not-suc-le-zero h);
      said = x.0;
      refused = x.1;
      blamed = same_err b (at_line n x.0) x.2 ∙ ap (λ (m : ℕ). at_line m x.0) (sym (zero-add n));
    }
rows_fault clock n rows (line ∷ rest) b (inr x) =
    let more = rows_fault clock (n + 1) (claim_in clock (fields line) ∷ rows) rest b x.1 in
    let within = more.within in
    let place : more.index + (n + 1) ≡ suc more.index + n = omega arith in
    record {
      index = suc more.index;
      within = omega arith;
      before = taken_more clock rows line rest more.index x.0 more.before;
      said = more.said;
      refused = more.refused;
      blamed = more.blamed ∙ ap (λ (m : ℕ). at_line m more.said) place;
    }

-- a file that gives rows is past its own checks and those of its clock line, so its row lines give them
file_rows : (text : List ℕ) (room : ℕ) (rows : List Claim) → FileRead text room (Ok rows) → Taken (factor_of text) [] (row_lines text) rows
file_rows text room rows (inl x) = absurd (not_both rows _ x.1)
file_rows text room rows (inr (pass, inl x)) = absurd (not_both rows _ x.1)
file_rows text room rows (inr (pass, inr x)) = rows_taken (factor_of text) 2 [] (row_lines text) rows x.1

-- a file that gives rows has each row line taken
pub file_order_ok : (text : List ℕ) (room : ℕ) (rows : List Claim) → FileRead text room (Ok rows) → AllTaken text
file_order_ok text room rows read = (file_rows text room rows read).each

-- the rows that a file gives are those of its row lines
pub rows_are : (text : List ℕ) (room : ℕ) (rows : List Claim) → FileRead text room (Ok rows) → rows ≡ rows_onto (factor_of text) [] (row_lines text)
rows_are text room rows read = (file_rows text room rows read).all

-- a file that is refused is so for its first fault
pub file_order_err : (text : List ℕ) (room : ℕ) (b : Blame) → FileRead text room (Err b) → FirstFault text room b
file_order_err text room b (inl x) =
    let e = same_err b (first_blame (file_checks text room)) x.1 in
    inl (sym e, subst (λ (c : Blame). c.number ≢ 0) (sym e) x.0)
file_order_err text room b (inr (pass, inl x)) = inr (pass, inl (x.0, same_err b (at_line 1 (first_blame (clock_checks (first_fields text)))) x.1))
file_order_err text room b (inr (pass, inr x)) =
    let fault = rows_fault (factor_of text) 2 [] (row_lines text) b x.1 in
    inr (
      pass,
      inr (record {
        index = fault.index;
        within = fault.within;
        clock = x.0;
        before = fault.before;
        said = fault.said;
        refused = fault.refused;
        blamed = fault.blamed;
      }),
    )

-- what load answers goes by the order of the file
pub in_file_order : (text before : List ℕ) (r : Result ℕ Fault) (after : List ℕ) → Loaded text before r after → InFileOrder text before r after
in_file_order text before (Ok n) after loaded = (
  file_order_ok text (length before) loaded.rows loaded.read,
  record {
    answers = loaded.answers;
    in_time = subst (λ (cs : List Claim). InTime cs loaded.answers) (rows_are text (length before) loaded.rows loaded.read) loaded.in_time;
    size = loaded.size;
    written = loaded.written;
  },
)
in_file_order text before (Err f) after loaded = file_order_err text (length before) (blame f) loaded.0
