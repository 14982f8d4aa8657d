-- The lines of a written plan file pass their checks, and say what was written. Assumes nothing.
use Rattle.std.proofs.Common.{◌≡◌, ℕ, zero, suc, ◌+◌, ◌-◌, ◌≤◌, not, List, [], ◌∷◌, ◌++◌, map, length, slice_index_or, drop, codes, decimal, refl, ap, ◌∙◌, subst, arith}
use Rattle.demand.specs.Refusals.{first, slowed_checks}
use Rattle.planfile.proofs.Blames.{NoneApply, none_front, none_append, first_blame-blames_by_number}
use Rattle.demand.specs.declared.factor.Factor.{Factor}
use Rattle.either.specs.declared.Either.TheVariants.{Left, Right}
use Rattle.planfile.specs.Fault.{nothing, first_blame, by_number}
use Rattle.planfile.specs.Text.{fields, field, word_of, value, is_number}
use Rattle.planfile.specs.Checks.{Jobs, Entry, number_checks, blames_by_number, clock_of, clock_checks, entry_of, jobs_in, shape_checks, text_checks, kind_checks, line_checks}
use Rattle.planfile.specs.Laws.{numbers_of, jobs_numbers, Writable}
use Rattle.planfile.proofs.Joined.{Parts, fields_are}
use Rattle.planfile.proofs.WrittenLines.{EachFits, each_fits, reads, number_passes, decimal_parts, row_parts, row_parts_are, row_word, row_line, clock_word, clock_parts, clock_line}

-- these numbers are written in the fields from field k on
abbrev NumbersAt : List (List ℕ) → ℕ → List ℕ → Type 0
NumbersAt fs k [] = Unit {0}
NumbersAt fs k (n ∷ ns) = (field k fs ≡ decimal n) × NumbersAt fs (k + 1) ns

-- fields of numbers pass
numbers_pass : (fs : List (List ℕ)) (k : ℕ) (ns : List ℕ) → NumbersAt fs k ns → EachFits ns → NoneApply (number_checks fs k (length ns))
numbers_pass fs k [] h fit = tt
numbers_pass fs k (n ∷ ns) h fit =
    (ap (λ (f : List ℕ). not (is_number f)) h.0 ∙ number_passes n fit.0, numbers_pass fs (k + 1) ns h.1 fit.1)

-- the fields of a clock line
abbrev clock_written : Factor → List (List ℕ)
clock_written clock = codes "clock" ∷ clock_parts clock

module _ (clock : Factor) (numerator : clock.numerator ≤ 4_294_967_295) (denominator : clock.denominator ≤ 4_294_967_295) where
  pub clock_parts_are : Parts (clock_parts clock)
  clock_parts_are = decimal_parts (clock.numerator ∷ clock.denominator ∷ []) (numerator, (denominator, tt))

  first_fields_are : fields (clock_line clock) ≡ clock_written clock
  first_fields_are = fields_are (codes "clock") (clock_parts clock) clock_word clock_parts_are

  clock_says : clock_of (clock_written clock) ≡ clock
  clock_says = λ i. record { numerator = reads clock.numerator numerator i; denominator = reads clock.denominator denominator i }

  -- a clock line gives the factor that was written
  pub clock_is : clock_of (fields (clock_line clock)) ≡ clock
  clock_is = ap clock_of first_fields_are ∙ clock_says

  pub clock_passes : first (slowed_checks clock.numerator clock.denominator) ≡ 0 → first_blame (clock_checks (fields (clock_line clock))) ≡ nothing
  clock_passes z =
      ap (λ (fs : List (List ℕ)). first_blame (clock_checks fs)) first_fields_are
      ∙ none_front (number_checks (clock_written clock) 2 2) (blames_by_number (slowed_checks (value (decimal clock.numerator)) (value (decimal clock.denominator))))
      (numbers_pass (clock_written clock) 2 (clock.numerator ∷ clock.denominator ∷ []) (refl, (refl, tt)) (numerator, (denominator, tt)))
      ∙ ap (λ (c : Factor). first_blame (blames_by_number (slowed_checks c.numerator c.denominator))) clock_says
      ∙ (first_blame-blames_by_number (slowed_checks clock.numerator clock.denominator) ∙ ap by_number z)

-- the first n of a list, 0 where there are fewer
abbrev firsts : ℕ → List ℕ → List ℕ
firsts zero xs = []
firsts (suc n) xs = slice_index_or xs 0 0 ∷ firsts n (drop 1 xs)

-- a list of n is its first n
firsts_are : (n : ℕ) (xs : List ℕ) → length xs ≡ n → firsts n xs ≡ xs
firsts_are zero [] e = refl
firsts_are zero (x ∷ xs) e = absurd (omega arith)
firsts_are (suc n) [] e = absurd (omega arith)
firsts_are (suc n) (x ∷ xs) e = ap (λ (ys : List ℕ). x ∷ ys) (firsts_are n xs (omega arith))

-- an entry with other sections and jobs
abbrev with_parts : Entry → List ℕ → Jobs → Entry
with_parts e sections jobs = record {
  row = record {
    number = e.row.number;
    priority = e.row.priority;
    suspension = e.row.suspension;
    suspensions = e.row.suspensions;
    deadline = e.row.deadline;
    sections = sections;
  };
  delay = e.delay;
  jobs = jobs;
}

-- the fields of a row line
abbrev row_written : Entry → List (List ℕ)
row_written e = codes "row" ∷ row_parts e

-- all numbers are read back
all_read : (ns : List ℕ) → EachFits ns → map value (map decimal ns) ≡ ns
all_read [] h = refl
all_read (n ∷ ns) h = λ i. reads n h.0 i ∷ all_read ns h.1 i

-- the fields of an entry's row line pass, and say what the entry says
abbrev SaidByLine : Entry → Type 0
SaidByLine e = EachFits (numbers_of e) → EachFits (jobs_numbers e.jobs) → NoneApply (text_checks (row_written e)) × (entry_of (row_written e) ≡ e)

module _ (e : Entry) (ss : List ℕ) where
  -- the entry with eight sections
  abbrev eight : Jobs → Entry
  eight jobs = with_parts e (firsts 8 ss) jobs

  abbrev line : Jobs → List (List ℕ)
  line jobs = row_written (eight jobs)

  shape_passes : (jobs : Jobs) → NoneApply (shape_checks (line jobs))
  shape_passes (Left k) = (refl, (refl, (refl, tt)))
  shape_passes (Right k) = (refl, (refl, (refl, tt)))

  front_passes : (jobs : Jobs) → EachFits (numbers_of (eight jobs)) → NoneApply (number_checks (line jobs) 2 14)
  front_passes jobs n =
      numbers_pass (line jobs) 2 (numbers_of (eight jobs))
      (refl, (refl, (refl, (refl, (refl, (refl, (refl, (refl, (refl, (refl, (refl, (refl, (refl, (refl, tt)))))))))))))) n

  back_passes : (jobs : Jobs) → EachFits (jobs_numbers jobs) → NoneApply (number_checks (line jobs) 17 (length (line jobs) - 16))
  back_passes (Left k) j = numbers_pass (line (Left k)) 17 (k.job ∷ k.period ∷ []) (refl, (refl, tt)) j
  back_passes (Right k) j = numbers_pass (line (Right k)) 17 (k.job ∷ k.heavy ∷ k.among ∷ k.period ∷ []) (refl, (refl, (refl, (refl, tt)))) j

  jobs_said : (jobs : Jobs) → EachFits (jobs_numbers jobs) → jobs_in (line jobs) (word_of (field 16 (line jobs))) ≡ jobs
  jobs_said (Left k) j = λ i. Left (record { job = reads k.job j.0 i; period = reads k.period j.1.0 i })
  jobs_said (Right k) j = λ i. Right (record { job = reads k.job j.0 i; heavy = reads k.heavy j.1.0 i; among = reads k.among j.1.1.0 i; period = reads k.period j.1.1.1.0 i })

  eight_said : (jobs : Jobs) → SaidByLine (eight jobs)
  eight_said jobs n j = (
    none_append (shape_checks (line jobs)) (number_checks (line jobs) 2 14 ++ number_checks (line jobs) 17 (length (line jobs) - 16)) (shape_passes jobs)
        (none_append (number_checks (line jobs) 2 14) (number_checks (line jobs) 17 (length (line jobs) - 16)) (front_passes jobs n) (back_passes jobs j)),
    λ i. record {
      row = record {
        number = reads e.row.number n.0 i;
        priority = reads e.row.priority n.1.0 i;
        suspension = reads e.row.suspension n.1.1.0 i;
        suspensions = reads e.row.suspensions n.1.1.1.0 i;
        deadline = reads e.row.deadline n.1.1.1.1.0 i;
        sections = all_read (firsts 8 ss) n.1.1.1.1.1.1 i;
      };
      delay = reads e.delay n.1.1.1.1.1.0 i;
      jobs = jobs_said jobs j i;
    },
  )

module _ (e : Entry) (w : Writable e) where
  said : NoneApply (text_checks (row_written e)) × (entry_of (row_written e) ≡ e)
  said =
      let same : with_parts e (firsts 8 e.row.sections) e.jobs ≡ e = ap (λ (ss : List ℕ). with_parts e ss e.jobs) (firsts_are 8 e.row.sections w.locks) in
      subst SaidByLine same (eight_said e e.row.sections e.jobs) (each_fits (numbers_of e) w.numbers) (each_fits (jobs_numbers e.jobs) w.jobs)

  row_fields_are : fields (row_line e) ≡ row_written e
  row_fields_are = fields_are (codes "row") (row_parts e) row_word (row_parts_are e w).0

  -- a row line gives the entry that was written
  pub entry_is : entry_of (fields (row_line e)) ≡ e
  entry_is = ap entry_of row_fields_are ∙ said.1

  pub row_passes : first (kind_checks e) ≡ 0 → first_blame (line_checks (fields (row_line e))) ≡ nothing
  row_passes z =
      ap (λ (fs : List (List ℕ)). first_blame (line_checks fs)) row_fields_are
      ∙ none_front (text_checks (row_written e)) (blames_by_number (kind_checks (entry_of (row_written e)))) said.0
      ∙ ap (λ (f : Entry). first_blame (blames_by_number (kind_checks f))) said.1
      ∙ (first_blame-blames_by_number (kind_checks e) ∙ ap by_number z)
