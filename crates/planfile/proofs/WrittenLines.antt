-- What the lines of a written plan file are. Assumes nothing.
use Rattle.std.proofs.Common.{◌≡◌, ℕ, ◌<◌, ◌≤◌, true, false, not, nat_le, List, [], ◌∷◌, ◌++◌, map, length, codes, decimal, sym, refl, ap, ◌∙◌, arith}
use Rattle.std.specs.List.{AllByRecursion}
use Rattle.std.proofs.lemmas.List.Elements.{recursion_from_All}
use Rattle.std.specs.Char.{is_ascii_digit}
use Rattle.std.specs.Str.{all_ascii_digits}
use Rattle.std.proofs.lemmas.Fmt.{digits_decimal, digits_value-decimal, decimal_nonempty, length-decimal-le}
use Rattle.std.proofs.lemmas.List.{append_assoc, length-append, length-map}
use Rattle.std.proofs.lemmas.Bool.{and_parts, leb-true, ne_eqb, not_from_true}
use Rattle.demand.specs.declared.factor.Factor.{Factor}
use Rattle.either.specs.declared.Either.TheVariants.{Left, Right}
use Rattle.planfile.specs.Checks.{Jobs, Entry}
use Rattle.planfile.specs.Text.{newline, tab, value, largest_number, is_number}
use Rattle.planfile.specs.Report.{number_fields}
use Rattle.planfile.specs.Laws.{jobs_text, numbers_of, row_text, rows_text, clock_text, plan_text, AllFit, jobs_numbers, Writable}
use Rattle.planfile.proofs.Numbers.{own, number_from}
use Rattle.planfile.proofs.Joined.{Lacks, Part, Parts, parts_append, tabbed, tabbed_append, with_newlines}

digits_lack : (separator : ℕ) → separator < 48 → (ds : List ℕ) → all_ascii_digits ds ≡ true → Lacks separator ds
digits_lack separator low [] h = tt
digits_lack separator low (b ∷ ds) h =
    let both = and_parts (is_ascii_digit b) (all_ascii_digits ds) h in
    let digit = and_parts (nat_le 48 b) (nat_le b 57) both.0 in
    let least = leb-true 48 b digit.0 in
    (ne_eqb b separator (λ e. omega arith), digits_lack separator low ds both.1)

module _ (n : ℕ) (fits : n ≤ 4_294_967_295) where
  decimal_part : Part (decimal n)
  decimal_part = record {
    no_tab = digits_lack tab (omega arith) (decimal n) (digits_decimal own n (omega arith));
    no_newline = digits_lack newline (omega arith) (decimal n) (digits_decimal own n (omega arith));
    short = length-decimal-le 10 n (omega arith) (omega arith) (omega arith);
  }

  -- a number that is written is read back
  pub reads : value (decimal n) ≡ n
  reads = digits_value-decimal own n (omega arith)

  pub number_passes : not (is_number (decimal n)) ≡ false
  number_passes =
      let same = reads in
      not_from_true (is_number (decimal n)) (number_from (decimal n) (decimal_nonempty n (omega arith)) (digits_decimal own n (omega arith)) (omega arith))

-- each number fits a field
abbrev pub EachFits : List ℕ → Type 0
EachFits = AllByRecursion (λ n. n ≤ largest_number)

-- so do those that the law asks for
pub each_fits : (ns : List ℕ) → AllFit ns → EachFits ns
each_fits = recursion_from_All (λ n. n ≤ largest_number)

pub decimal_parts : (ns : List ℕ) → EachFits ns → Parts (map decimal ns)
decimal_parts [] h = tt
decimal_parts (n ∷ ns) h = (decimal_part n h.0, decimal_parts ns h.1)

numbers_tabbed : (ns : List ℕ) → number_fields ns ≡ tabbed (map decimal ns)
numbers_tabbed [] = refl
numbers_tabbed (n ∷ ns) = ap (λ (t : List ℕ). tab ∷ (decimal n ++ t)) (numbers_tabbed ns)

-- the word of a kind, and its numbers
abbrev pub jobs_parts : Jobs → List (List ℕ)
jobs_parts (Left k) = codes "every" ∷ map decimal (k.job ∷ k.period ∷ [])
jobs_parts (Right k) = codes "heavy" ∷ map decimal (k.job ∷ k.heavy ∷ k.among ∷ k.period ∷ [])

jobs_tabbed : (jobs : Jobs) → jobs_text jobs ≡ tabbed (jobs_parts jobs)
jobs_tabbed (Left k) = ap (λ (s : List ℕ). tab ∷ (codes "every" ++ s)) (numbers_tabbed (k.job ∷ k.period ∷ []))
jobs_tabbed (Right k) = ap (λ (s : List ℕ). tab ∷ (codes "heavy" ++ s)) (numbers_tabbed (k.job ∷ k.heavy ∷ k.among ∷ k.period ∷ []))

word_part : (word : List ℕ) → Lacks tab word → Lacks newline word → length word ≤ 10 → Part word
word_part word t n s = record { no_tab = t; no_newline = n; short = s }

jobs_parts_are : (jobs : Jobs) → EachFits (jobs_numbers jobs) → Parts (jobs_parts jobs) × (length (jobs_parts jobs) ≤ 5)
jobs_parts_are (Left k) h = ((word_part (codes "every") (refl, (refl, (refl, (refl, (refl, tt))))) (refl, (refl, (refl, (refl, (refl, tt))))) (omega arith), decimal_parts (k.job ∷ k.period ∷ []) h), omega arith)
jobs_parts_are (Right k) h = ((word_part (codes "heavy") (refl, (refl, (refl, (refl, (refl, tt))))) (refl, (refl, (refl, (refl, (refl, tt))))) (omega arith), decimal_parts (k.job ∷ k.heavy ∷ k.among ∷ k.period ∷ []) h), omega arith)

-- the fields of a row line behind its word
abbrev pub row_parts : Entry → List (List ℕ)
row_parts e = map decimal (numbers_of e) ++ jobs_parts e.jobs

pub row_parts_are : (e : Entry) → Writable e → Parts (row_parts e) × (length (row_parts e) ≤ 19)
row_parts_are e w =
    let jobs = jobs_parts_are e.jobs (each_fits (jobs_numbers e.jobs) w.jobs) in
    let locks = w.locks in
    let few = jobs.1 in
    let most : length (row_parts e) ≤ 19 = simp (length-append, length-map) (omega arith) in
    (parts_append (map decimal (numbers_of e)) (jobs_parts e.jobs) (decimal_parts (numbers_of e) (each_fits (numbers_of e) w.numbers)) jobs.0, most)

pub row_word : Part (codes "row")
row_word = word_part (codes "row") (refl, (refl, (refl, tt))) (refl, (refl, (refl, tt))) (omega arith)

pub clock_word : Part (codes "clock")
clock_word = word_part (codes "clock") (refl, (refl, (refl, (refl, (refl, tt))))) (refl, (refl, (refl, (refl, (refl, tt))))) (omega arith)

-- a row line, without its newline
abbrev pub row_line : Entry → List ℕ
row_line e = codes "row" ++ tabbed (row_parts e)

abbrev pub clock_parts : Factor → List (List ℕ)
clock_parts clock = decimal clock.numerator ∷ decimal clock.denominator ∷ []

-- a clock line, without its newline
abbrev pub clock_line : Factor → List ℕ
clock_line clock = codes "clock" ++ tabbed (clock_parts clock)

row_text_is : (e : Entry) → row_text e ≡ row_line e ++ newline ∷ []
row_text_is e =
    let numbers = numbers_tabbed (numbers_of e) in
    let jobs = jobs_tabbed e.jobs in
    let joined = tabbed_append (map decimal (numbers_of e)) (jobs_parts e.jobs) in
    ap (λ (t : List ℕ). codes "row" ++ t)
    (ap (λ (t : List ℕ). t ++ (jobs_text e.jobs ++ newline ∷ [])) numbers
    ∙ ap (λ (t : List ℕ). tabbed (map decimal (numbers_of e)) ++ (t ++ newline ∷ [])) jobs
    ∙ sym (append_assoc (tabbed (map decimal (numbers_of e))) (tabbed (jobs_parts e.jobs)) (newline ∷ []))
    ∙ ap (λ (t : List ℕ). t ++ newline ∷ []) (sym joined))

rows_text_is : (es : List Entry) → rows_text es ≡ with_newlines (map row_line es)
rows_text_is [] = refl
rows_text_is (e ∷ es) =
    ap (λ (t : List ℕ). t ++ rows_text es) (row_text_is e)
    ∙ append_assoc (row_line e) (newline ∷ []) (rows_text es)
    ∙ ap (λ (t : List ℕ). row_line e ++ newline ∷ t) (rows_text_is es)

clock_text_is : (clock : Factor) → clock_text clock ≡ clock_line clock ++ newline ∷ []
clock_text_is clock = ap (λ (t : List ℕ). codes "clock" ++ (t ++ newline ∷ [])) (numbers_tabbed (clock.numerator ∷ clock.denominator ∷ []))

pub plan_text_is : (clock : Factor) (es : List Entry) → plan_text clock es ≡ with_newlines (clock_line clock ∷ map row_line es)
plan_text_is clock es =
    ap (λ (t : List ℕ). t ++ rows_text es) (clock_text_is clock)
    ∙ append_assoc (clock_line clock) (newline ∷ []) (rows_text es)
    ∙ ap (λ (t : List ℕ). clock_line clock ++ newline ∷ t) (rows_text_is es)
