-- What the lines of a file give, one after the other. Assumes nothing.
use Rattle.std.proofs.Common.{◌≡◌, ℕ, ◌+◌, ◌^◌, ◌<◌, ◌≤◌, List, [], ◌∷◌, map, length, slice_index_or, drop, Option, Some, None, Ok, Err, Result, sym, refl, ap, ◌∙◌, subst, inl, inr, arith, drop_of_length-le, MatchResult}
use Rattle.std.specs.List.{enumerate_from}
use Rattle.std.specs.Iterator.{YieldsFirst}
use Rattle.std.specs.Iterator.Adapters.{enumerate_steps}
use Rattle.std.specs.declared.iter.Enumerate.{Enumerate}
use Rattle.std.proofs.lemmas.Iterator.{YieldsList}
use Rattle.std.proofs.lemmas.Iterator.Consumers.{YieldsList-from_first, YieldsList-from_enumerate}
use Rattle.std.specs.Option.{IsSome}
use Rattle.std.specs.Result.{IsErrAnd}
use Rattle.std.proofs.lemmas.List.{drop_more, get_or-map, length-map, length-drop}
use Rattle.std.proofs.lemmas.List.FromFn.{length-enumerate_from, get_or-enumerate_from}
use Rattle.analysis.specs.Ranks.{Claim}
use Rattle.demand.specs.declared.factor.Factor.{Factor}
use Rattle.planfile.specs.declared.fault.Blame.{Blame}
use Rattle.planfile.specs.Fault.{nothing, at_line, first_blame}
use Rattle.planfile.specs.Checks.{clock_checks, clock_of}
use Rattle.planfile.specs.Reading.{claim_in, clock_blame, first_fields, RowTaken, RowRefused, RowsRead, LinesRead}
use Rattle.planfile.specs.declared.reader.Reader.{Reader}
use Rattle.planfile.specs.Cut.{lines_left}
use Rattle.planfile.specs.Laws.{row_lines}
use Rattle.planfile.specs.Text.{lines, fields}
use Rattle.planfile.proofs.Parted.{few_lines}

-- the first of some lines, and the others
first_and_rest : (ls : List (List ℕ)) (line : List (List ℕ)) (rest : List (List (List ℕ))) → map fields ls ≡ line ∷ rest → (line ≡ fields (slice_index_or ls 0 [])) × (rest ≡ map fields (drop 1 ls))
first_and_rest [] line rest e = absurd (cc)
first_and_rest (l ∷ ls) line rest e = (cc, cc)

-- a reader gives the clock line, and the row lines are left
pub first_line : (file : List ℕ) (r s : Reader) (o : Option (List (List ℕ))) (line : List (List ℕ)) → r.text.now ≡ file → YieldsFirst lines_left r o s → o ≡ Some line → (line ≡ first_fields file) × (lines_left s ≡ map fields (row_lines file))
first_line file r s o line text step is =
    first_and_rest (lines file) line (lines_left s) (ap (λ t. map fields (lines t)) (sym text) ∙ rw is at step)

-- where lines are left, the reader gives one
pub some_first : {S A : Type 0} (left : S → List A) (s t : S) (r : Option A) → YieldsFirst left s r t → 0 < length (left s) → IsSome r
some_first left s t None e some = absurd (omega (arith, ap length e.0))
some_first left s t (Some x) e some = refl

-- there are no more row lines than bytes
pub few_rows : (file : List ℕ) → length (row_lines file) ≤ length file
few_rows file = omega (arith, length-drop 1 (lines file), few_lines file)

-- the row lines, each with its index, are what a reader gives behind the clock line
module _ (file : List ℕ) (r s : Reader) (o : Option (List (List ℕ))) (line : List (List ℕ)) (text : r.text.now ≡ file) (step : YieldsFirst lines_left r o s) (is : o ≡ Some line) (e it : Enumerate Reader) (from : e.iter ≡ s) (none : e.count ≡ 0) (same : it ≡ e) where
  rest_is : lines_left it.iter ≡ map fields (row_lines file)
  rest_is = ap (λ (x : Enumerate Reader). lines_left x.iter) same ∙ (ap lines_left from ∙ (first_line file r s o line text step is).1)

  count_is : it.count ≡ 0
  count_is = ap (λ (x : Enumerate Reader). x.count) same ∙ none

  pub row_road : YieldsList {B = ℕ × List (List ℕ)} (enumerate_steps (YieldsFirst lines_left)) (λ p. (p.0, p.1)) it (enumerate_from 0 (map fields (row_lines file)))
  row_road = YieldsList-from_enumerate (YieldsList-from_first (λ x. x) lines_left (map fields (row_lines file)) rest_is) count_is

  -- and their count fits
  pub row_count : length file ≤ 4096 → it.count + length (lines_left it.iter) < 2 ^ 64
  row_count short = omega (arith, count_is, ap length rest_is, length-map (row_lines file) fields, few_rows file)

-- the line of an index
pub line_at : (ls : List (List ℕ)) (k i : ℕ) (line : List (List ℕ)) → (k < length (enumerate_from 0 (map fields ls))) × (◌≡◌ {A = ℕ × List (List ℕ)} (i, line) (slice_index_or (enumerate_from 0 (map fields ls)) k (i, line))) → (k < length ls) × (i ≡ k) × (line ≡ fields (slice_index_or ls k []))
line_at ls k i line (lt, e) =
    let inside : k < length (map fields ls) = omega (arith, length-enumerate_from 0 (map fields ls)) in
    let within : k < length ls = omega (arith, length-map ls fields) in
    let is : ◌≡◌ {A = ℕ × List (List ℕ)} (i, line) (0 + k, slice_index_or (map fields ls) k line) = e ∙ get_or-enumerate_from 0 (map fields ls) k (i, line) inside in
    let index : i ≡ 0 + k = ap (λ (p : ℕ × List (List ℕ)). p.0) is in
    (within, omega arith, ap (λ (p : ℕ × List (List ℕ)). p.1) is ∙ get_or-map fields ls k [] line within)

-- the clock line passes, so the row lines decide
pub clock_taken : (text : List ℕ) (clock : Factor) (r : Result (List Claim) Blame) → first_blame (clock_checks (first_fields text)) ≡ nothing → clock ≡ clock_of (first_fields text) → RowsRead clock 2 [] (row_lines text) r → LinesRead text r
clock_taken text clock r e is rows = inr (e, subst (λ (k : Factor). RowsRead k 2 [] (row_lines text) r) is rows)

module _ (clock : Factor) (n : ℕ) (rows : List Claim) (ls : List (List ℕ)) (k : ℕ) (within : k < length ls) (fs : List (List ℕ)) (here : fs ≡ fields (slice_index_or ls k [])) where
  -- a row line is refused
  pub row_refused : (b : Blame) → RowRefused clock rows fs b → RowsRead clock n rows (drop k ls) (Err (at_line n b))
  row_refused b refused =
      rw (drop_more ls k [] within) (inl (b, subst (λ (xs : List (List ℕ)). RowRefused clock rows xs b) here refused, refl))

  -- a row line is taken, so the lines behind it decide
  pub row_taken : (m j : ℕ) → m ≡ n + 1 → j ≡ k + 1 → RowTaken clock rows fs → (r : Result (List Claim) Blame) → RowsRead clock m (claim_in clock fs ∷ rows) (drop j ls) r → RowsRead clock n rows (drop k ls) r
  row_taken m j e f taken r more = rw (drop_more ls k [] within) (inr (rw here at taken, rw (e, f, here) at more))

-- behind the last line there is none
pub no_lines : (clock : Factor) (n : ℕ) (rows : List Claim) (ls : List (List ℕ)) (k : ℕ) → length ls ≤ k → RowsRead clock n rows (drop k ls) (Ok rows)
no_lines clock n rows ls k end = rw (drop_of_length-le ls end) refl

module _ {T E D : Type 0} (r : Result T E) (s : Result T D) (Said : E → D → Type 0) (told : MatchResult r (λ x. s ≡ Ok x) (λ e. IsErrAnd s (Said e))) where
  -- where an answer with its line's number is none, the line's answer is that too
  pub value_of_line : (x : T) → s ≡ Ok x → r ≡ Ok x
  value_of_line x is = elim r as (λ (r : Result T E). MatchResult r (λ x. s ≡ Ok x) (λ e. IsErrAnd s (Said e)) → r ≡ Ok x) [ Ok y ↦ λ t. cc | Err e ↦ λ t. absurd (rw is at t) ] told

  -- where it is a fault, the line's answer is one
  pub fault_of_line : (says : E → D) → ((e : E) (d : D) → Said e d → d ≡ says e) → (y : D) → s ≡ Err y → (e : E) × (r ≡ Err e) × (y ≡ says e)
  fault_of_line says are y is = elim r as (λ (r : Result T E). MatchResult r (λ x. s ≡ Ok x) (λ e. IsErrAnd s (Said e)) → (e : E) × (r ≡ Err e) × (y ≡ says e)) [ Ok x ↦ λ t. absurd (cc) | Err e ↦ λ t. (e, refl, are e y (rw is at t)) ] told

-- a fault of row lines names its line
rows_name_line : (clock : Factor) (n : ℕ) (rows : List Claim) (ls : List (List ℕ)) (b : Blame) → 0 < n → RowsRead clock n rows ls (Err b) → 0 < b.line
rows_name_line clock n rows [] b some read = absurd (cc)
rows_name_line clock n rows (line ∷ rest) b some (inl (f, refused, is)) = let e : b ≡ at_line n f = cc in omega (arith, ap (λ (x : Blame). x.line) e)
rows_name_line clock n rows (line ∷ rest) b some (inr (taken, read)) = rows_name_line clock (n + 1) (claim_in clock (fields line) ∷ rows) rest b (omega arith) read

-- so a fault of the lines of a file does
pub lines_name_line : (text : List ℕ) (b : Blame) → LinesRead text (Err b) → 0 < b.line
lines_name_line text b (inl (some, is)) = let e : b ≡ at_line 1 (clock_blame text) = cc in omega (arith, ap (λ (x : Blame). x.line) e)
lines_name_line text b (inr (pass, read)) = rows_name_line (clock_of (first_fields text)) 2 [] (drop 1 (lines text)) b (omega arith) read
