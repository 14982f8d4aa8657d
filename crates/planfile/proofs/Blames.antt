-- The first check of a list that applies, over lists in a row. Assumes nothing.
use Rattle.std.proofs.Common.{◌≡◌, ℕ, zero, suc, ◌+◌, ◌-◌, ◌<◌, ◌≤◌, Bool, true, false, not, ◌≢◌, List, [], ◌∷◌, ◌++◌, length, refl, ap, ◌∙◌, add-zero, zero-add, arith, ltb-false, eqb-true}
use borrow.Author.Tests.{eqb-false, not-false}
use Rattle.std.specs.List.{AllByRecursion}
use Rattle.std.proofs.lemmas.Bool.{cond-false}
use Rattle.demand.specs.declared.refusal.KindRefusal.{KindRefusal}
use Rattle.demand.specs.declared.refusal.KindRefusal.TheVariants.{Job, Period, Delay, Speed}
use Rattle.demand.specs.Refusals.{first, refusal_number}
use Rattle.demand.proofs.FirstOf.{EachSays, first_of-map, first_of-front, first_of-behind}
use Rattle.table.specs.declared.refusals.HoldRefusal.{HoldRefusal}
use Rattle.table.specs.declared.refusals.HoldRefusal.TheVariants.{Number as OfNumber, Priority, Suspension, Deadline, Section, NoPlace, Late}
use Rattle.table.specs.Account.{hold_number}
use Rattle.planfile.specs.declared.fault.LineFault.{LineFault}
use Rattle.planfile.specs.declared.fault.LineFault.TheVariants.{Word as OfWord, Length, Count, Number, Kind, Hold}
use Rattle.planfile.specs.declared.fault.Fault.{Fault}
use Rattle.planfile.specs.declared.fault.Fault.TheVariants.{ReportMemory, File, Line}
use Rattle.planfile.specs.declared.fault.Blame.{Blame}
use Rattle.planfile.specs.Fault.{nothing, by_number, by_field, first_blame, line_blame, blame}
use Rattle.either.specs.declared.Either.TheVariants.{Left, Right}
use Rattle.planfile.specs.declared.word.Word.{Word}
use Rattle.planfile.specs.Checks.{Jobs, fields_due, number_checks, shape_checks, blames_by_number, numbers_in, number_in, jobs_checks}
use Rattle.planfile.specs.Reading.{file_checks}
use Rattle.planfile.specs.Requests.{end_checks}
use Rattle.planfile.specs.Text.{is_number, field, word_of}

-- each check blames something
abbrev pub Numbered : List (Bool × Blame) → Type 0
Numbered = EachSays nothing

nonzero : (m n : ℕ) → m ≡ suc n → m ≢ 0
nonzero m n e z = omega arith

-- what has a number is something
pub something : (b : Blame) → b.number ≢ 0 → b ≢ nothing
something b some e = some (ap (λ (x : Blame). x.number) e)

by_its_number : (b : Blame) (n : ℕ) → b.number ≡ suc n → b ≢ nothing
by_its_number b n e = something b (nonzero b.number n e)

-- where none of the first applies, the others decide
pub passed : (xs ys : List (Bool × Blame)) → Numbered xs → first_blame xs ≡ nothing → first_blame (xs ++ ys) ≡ first_blame ys
passed = first_of-behind nothing

-- where one of the first applies, the others do not matter
pub stopped : (xs ys : List (Bool × Blame)) (b : Blame) → b.number ≢ 0 → first_blame xs ≡ b → first_blame (xs ++ ys) ≡ b
stopped xs ys b some = first_of-front nothing xs ys b (something b some)

pub numbered_append : (xs ys : List (Bool × Blame)) → Numbered xs → Numbered ys → Numbered (xs ++ ys)
numbered_append [] ys p q = q
numbered_append (x ∷ xs) ys p q = (p.0, numbered_append xs ys p.1 q)

pub numbered_numbers : (fs : List (List ℕ)) (k n : ℕ) → Numbered (number_checks fs k n)
numbered_numbers fs k zero = tt
numbered_numbers fs k (suc n) = (by_its_number _ 15 refl, numbered_numbers fs (k + 1) n)

pub numbered_shape : (fs : List (List ℕ)) → Numbered (shape_checks fs)
numbered_shape fs = (by_its_number _ 14 refl, (by_its_number _ 16 refl, (by_its_number _ 14 refl, tt)))

pub numbered_file : (text : List ℕ) (room : ℕ) → Numbered (file_checks text room)
numbered_file text room = (by_its_number _ 18 refl, (by_its_number _ 17 refl, tt))

pub numbered_end : (text : List ℕ) → Numbered (end_checks text)
numbered_end text = (by_its_number _ 17 refl, tt)

pub kind_numbered : (e : KindRefusal) → refusal_number e ≢ 0
kind_numbered Job = nonzero 1 0 refl
kind_numbered Period = nonzero 2 1 refl
kind_numbered Delay = nonzero 3 2 refl
kind_numbered Speed = nonzero 4 3 refl

hold_numbered : (e : HoldRefusal) → hold_number e ≢ 0
hold_numbered OfNumber = nonzero 5 4 refl
hold_numbered Priority = nonzero 6 5 refl
hold_numbered Suspension = nonzero 7 6 refl
hold_numbered Deadline = nonzero 8 7 refl
hold_numbered Section = nonzero 9 8 refl
hold_numbered NoPlace = nonzero 10 9 refl
hold_numbered (Late n) = nonzero 11 10 refl

-- every fault of a line has a number
pub fault_numbered : (f : LineFault) → (line_blame f).number ≢ 0
fault_numbered (OfWord k) = nonzero 17 16 refl
fault_numbered Length = nonzero 18 17 refl
fault_numbered Count = nonzero 15 14 refl
fault_numbered (Number k) = nonzero 16 15 refl
fault_numbered (Kind e) = kind_numbered e
fault_numbered (Hold e) = hold_numbered e

-- checks that blame no field are first as their numbers are
pub first_blame-blames_by_number : (cs : List (Bool × ℕ)) → first_blame (blames_by_number cs) ≡ by_number (first cs)
first_blame-blames_by_number = first_of-map by_number 0

pub numbered_jobs : (jobs : Jobs) → Numbered (blames_by_number (jobs_checks jobs))
numbered_jobs (Left k) = (something _ (kind_numbered Job), (something _ (kind_numbered Period), tt))
numbered_jobs (Right k) = (something _ (kind_numbered Job), (something _ (kind_numbered Period), tt))

-- fields in a row are checked one after the other
pub checks_split : (fs : List (List ℕ)) (k m n : ℕ) → number_checks fs k (m + n) ≡ number_checks fs k m ++ number_checks fs (k + m) n
checks_split fs k zero n = rw (zero-add, add-zero) refl
checks_split fs k (suc m) n =
    let e : suc m + n ≡ suc (m + n) = omega arith in
    let f : (k + 1) + m ≡ k + suc m = omega arith in
    ap (number_checks fs k) e ∙ (ap (λ cs. (not (is_number (field k fs)), by_field 16 k) ∷ cs) (checks_split fs (k + 1) m n) ∙ ap (λ j. number_checks fs k (suc m) ++ number_checks fs j n) f)

pub numbers_more : (fs : List (List ℕ)) (k n : ℕ) → numbers_in fs k (suc n) ≡ numbers_in fs k n ++ number_in fs (k + n) ∷ []
numbers_more fs k zero = rw add-zero refl
numbers_more fs k (suc n) =
    let f : (k + 1) + n ≡ k + suc n = omega arith in
    ap (λ ns. number_in fs k ∷ ns) (numbers_more fs (k + 1) n) ∙ ap (λ j. numbers_in fs k (suc n) ++ number_in fs j ∷ []) f

-- the first i fields of N are numbers and the next is none
pub first_broken : (fs : List (List ℕ)) (start i N : ℕ) (b : Blame) → i < N → first_blame (number_checks fs start i) ≡ nothing → b.number ≢ 0 → first_blame (number_checks fs (start + i) 1) ≡ b → first_blame (number_checks fs start N) ≡ b
first_broken fs start i N b lt before some here =
    let e : N ≡ i + (1 + (N - (i + 1))) = omega arith in
    ap (λ n. first_blame (number_checks fs start n)) e
    ∙ (ap first_blame (checks_split fs start i (1 + (N - (i + 1))))
    ∙ (passed (number_checks fs start i) _ (numbered_numbers fs start i) before
    ∙ (ap first_blame (checks_split fs (start + i) 1 (N - (i + 1))) ∙ stopped (number_checks fs (start + i) 1) (number_checks fs (start + i + 1) (N - (i + 1))) b some here)))

-- the first i fields are numbers and so is the next
pub one_more : (fs : List (List ℕ)) (start i : ℕ) → first_blame (number_checks fs start i) ≡ nothing → first_blame (number_checks fs (start + i) 1) ≡ nothing → first_blame (number_checks fs start (i + 1)) ≡ nothing
one_more fs start i before here =
    ap first_blame (checks_split fs start i 1) ∙ (passed (number_checks fs start i) _ (numbered_numbers fs start i) before ∙ here)

-- no check applies
abbrev pub NoneApply : List (Bool × Blame) → Type 0
NoneApply = AllByRecursion (λ check. check.0 ≡ false)

pub none_apply : (xs : List (Bool × Blame)) → Numbered xs → first_blame xs ≡ nothing → NoneApply xs
none_apply [] all e = tt
none_apply ((true, b) ∷ xs) all e = absurd (all.0 e)
none_apply ((false, b) ∷ xs) all e = (refl, none_apply xs all.1 e)

-- then those behind decide
pub none_front : (cs ds : List (Bool × Blame)) → NoneApply cs → first_blame (cs ++ ds) ≡ first_blame ds
none_front [] ds h = refl
none_front (c ∷ cs) ds h = cond-false c.0 c.1 (first_blame (cs ++ ds)) h.0 ∙ none_front cs ds h.1

pub none_append : (cs ds : List (Bool × Blame)) → NoneApply cs → NoneApply ds → NoneApply (cs ++ ds)
none_append [] ds h k = k
none_append (c ∷ cs) ds h k = (h.0, none_append cs ds h.1 k)

-- A row line whose shape passes has the fields that its kind asks for.
pub record ShapePasses (fs : List (List ℕ)) (kind : Word) : Type 0 where
  pub enough : 16 ≤ length fs
  pub named : 0 < fields_due kind
  pub due : length fs ≡ fields_due kind

pub shape_passes : (fs : List (List ℕ)) → first_blame (shape_checks fs) ≡ nothing → ShapePasses fs (word_of (field 16 fs))
shape_passes fs e =
    let none = none_apply (shape_checks fs) (numbered_shape fs) e in
    record {
      enough = ltb-false (length fs) 16 none.0;
      named = omega (arith, eqb-false (fields_due (word_of (field 16 fs))) 0 none.1.0);
      due = eqb-true (length fs) (fields_due (word_of (field 16 fs))) (not-false _ none.1.1.0);
    }

-- every fault has a number
pub blame_numbered : (f : Fault) → (blame f).number ≢ 0
blame_numbered ReportMemory = nonzero 19 18 refl
blame_numbered File = nonzero 18 17 refl
blame_numbered (Line n f) = fault_numbered f

-- where no check of the file applies, report memory is long enough
pub long_enough : (text : List ℕ) (room : ℕ) → first_blame (file_checks text room) ≡ nothing → 512 ≤ room
long_enough text room e = ltb-false room 512 (none_apply (file_checks text room) (numbered_file text room) e).0
