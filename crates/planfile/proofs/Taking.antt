-- A row line that is refused, and one whose row is taken in. Assumes nothing.
use Rattle.std.proofs.Common.{◌≡◌, ℕ, ◌-◌, Bool, true, if◌then◌else◌, not, ◌≢◌, List, [], ◌∷◌, ◌++◌, length, Ok, sym, ap, ◌∙◌, subst, arith}
use Rattle.std.proofs.lemmas.Bool.Decides.{nat_tests}
use Rattle.analysis.specs.declared.Row.{Row}
use Rattle.analysis.specs.declared.Task.{Task}
use Rattle.analysis.specs.Ranks.{Claim}
use Rattle.demand.specs.declared.delayed.Delayed.{Delayed}
use Rattle.demand.specs.Refusals.{first, delayed_checks}
use Rattle.table.specs.declared.Table.{Table}
use Rattle.analysis.specs.declared.answers.Answers.{Answers}
use Rattle.table.specs.Account.{Account, bears, number_of, with_row, with_kept}
use Rattle.table.specs.Agreement.{AgreesWith}
use Rattle.runs.specs.Passing.{KeepsRow, hold_on}
use Rattle.demand.specs.declared.factor.Factor.{Factor}
use Rattle.demand.specs.declared.slowed.Slowed.{Slowed}
use Rattle.planfile.specs.declared.fault.Blame.{Blame}
use Rattle.planfile.specs.Fault.{nothing, by_number, first_blame}
use Rattle.planfile.specs.Checks.{Jobs, row_of, task_of, shape_checks, number_checks, number_in, row_checks, blames_by_number, jobs_checks, jobs_demand, entry_of, row_demand}
use Rattle.planfile.specs.Reading.{account_with, claim_in, RowsKept}
use Rattle.std.proofs.lemmas.List.{map-append, append_assoc}
use Rattle.planfile.proofs.Blames.{Numbered, passed, stopped, numbered_append, numbered_shape, numbered_numbers, numbered_jobs, first_blame-blames_by_number}

-- lists of checks in a row: what the first list does not decide, the next does
module _ (w n m : List (Bool × Blame)) (j d : List (Bool × ℕ)) where
  abbrev all_checks : List (Bool × Blame)
  all_checks = (w ++ (n ++ m)) ++ blames_by_number (j ++ d)

  abbrev jobs : List (Bool × Blame)
  jobs = m ++ blames_by_number j

  in_a_row : all_checks ≡ w ++ (n ++ (jobs ++ blames_by_number d))
  in_a_row = ap (λ bs. (w ++ (n ++ m)) ++ bs) (map-append (λ (check : Bool × ℕ). (check.0, by_number check.1)) j d) ∙ simp append_assoc

  first_list : (b : Blame) → b.number ≢ 0 → first_blame w ≡ b → first_blame all_checks ≡ b
  first_list b some e = ap first_blame in_a_row ∙ stopped w (n ++ (jobs ++ blames_by_number d)) b some e

  module _ (numbered : Numbered w) (past : first_blame w ≡ nothing) where
    past_first : first_blame all_checks ≡ first_blame (n ++ (jobs ++ blames_by_number d))
    past_first = ap first_blame in_a_row ∙ passed w (n ++ (jobs ++ blames_by_number d)) numbered past

    second_list : (b : Blame) → b.number ≢ 0 → first_blame n ≡ b → first_blame all_checks ≡ b
    second_list b some e = past_first ∙ stopped n (jobs ++ blames_by_number d) b some e

    module _ (numbered_n : Numbered n) (past_n : first_blame n ≡ nothing) where
      past_second : first_blame all_checks ≡ first_blame (jobs ++ blames_by_number d)
      past_second = past_first ∙ passed n (jobs ++ blames_by_number d) numbered_n past_n

      third_list : (b : Blame) → b.number ≢ 0 → first_blame jobs ≡ b → first_blame all_checks ≡ b
      third_list b some e = past_second ∙ stopped jobs (blames_by_number d) b some e

      fourth_list : (k : ℕ) → Numbered jobs → first_blame jobs ≡ nothing → k ≡ first d → first_blame all_checks ≡ by_number k
      fourth_list k numbered_j e is =
          past_second ∙ (passed jobs (blames_by_number d) numbered_j e ∙ (first_blame-blames_by_number d ∙ ap by_number (sym is)))

module _ (fs : List (List ℕ)) where
  abbrev numbers_of_jobs : List (Bool × Blame)
  numbers_of_jobs = number_checks fs 17 (length fs - 16)

  abbrev of_jobs : List (Bool × ℕ)
  of_jobs = jobs_checks (entry_of fs).jobs

  abbrev of_delay : List (Bool × ℕ)
  of_delay = delayed_checks (number_in fs 7) (jobs_demand (entry_of fs).jobs)

  -- the shape is refused
  pub by_shape : (b : Blame) → b.number ≢ 0 → first_blame (shape_checks fs) ≡ b → first_blame (row_checks fs) ≡ b
  by_shape = first_list (shape_checks fs) (number_checks fs 2 14) numbers_of_jobs of_jobs of_delay

  module _ (shape : first_blame (shape_checks fs) ≡ nothing) where
    -- the shape passes, and a number of the row is refused
    pub by_numbers : (b : Blame) → b.number ≢ 0 → first_blame (number_checks fs 2 14) ≡ b → first_blame (row_checks fs) ≡ b
    by_numbers = second_list (shape_checks fs) (number_checks fs 2 14) numbers_of_jobs of_jobs of_delay (numbered_shape fs) shape

    module _ (numbers : first_blame (number_checks fs 2 14) ≡ nothing) where
      -- the numbers of the row pass, and the jobs are refused
      pub by_jobs : (b : Blame) → b.number ≢ 0 → first_blame (numbers_of_jobs ++ blames_by_number of_jobs) ≡ b → first_blame (row_checks fs) ≡ b
      by_jobs = third_list (shape_checks fs) (number_checks fs 2 14) numbers_of_jobs of_jobs of_delay (numbered_shape fs) shape (numbered_numbers fs 2 14) numbers

      -- the jobs pass, so the delay decides
      pub by_delay : (k : ℕ) → first_blame (numbers_of_jobs ++ blames_by_number of_jobs) ≡ nothing → k ≡ first of_delay → first_blame (row_checks fs) ≡ by_number k
      by_delay k = fourth_list (shape_checks fs) (number_checks fs 2 14) numbers_of_jobs of_jobs of_delay (numbered_shape fs) shape (numbered_numbers fs 2 14) numbers k
          (numbered_append numbers_of_jobs (blames_by_number of_jobs) (numbered_numbers fs 17 (length fs - 16)) (numbered_jobs (entry_of fs).jobs))

-- what was read of a row line, by its parts
module _ (fs : List (List ℕ)) (row : Row) (delay : ℕ) (jobs : Jobs) (read : ◌≡◌ {A = Row × ℕ} (row, delay) (row_of fs, number_in fs 7)) (named : jobs ≡ (entry_of fs).jobs) where
  pub delay_is : first (delayed_checks delay (jobs_demand jobs)) ≡ first (of_delay fs)
  delay_is = ap (λ (x : Row × ℕ). first (delayed_checks x.1 (jobs_demand jobs))) read ∙ ap (λ (j : Jobs). first (delayed_checks (number_in fs 7) (jobs_demand j))) named

  pub task_is : (clock : Factor) (kind : Delayed Jobs) → kind.kind ≡ jobs → kind.delay ≡ delay
      → ◌≡◌ {A = Task (Slowed (Delayed Jobs))} (record { row = row; kind = record { kind = kind; factor = clock } }) (task_of clock fs)
  task_is clock kind k d =
      let jobs_are = k ∙ named in
      let delay_are = d ∙ ap (λ (x : Row × ℕ). x.1) read in
      λ i. record { row = (read i).0; kind = record { kind = record { kind = jobs_are i; delay = delay_are i }; factor = clock } }

-- a row that was held and kept is one row more, and no hold is left
kept : (rows : List Claim) (c : Claim) → with_kept (with_row (account_with rows) c) (hold_on (account_with rows) c) ≡ account_with (c ∷ rows)
kept rows c =
    ap (λ b. record { number = 0; room = 12; rows = c ∷ rows; holds = if not b then record { table = 0; row = number_of c } ∷ [] else [] }) (its_own (number_of c))
  where
    its_own : (n : ℕ) → bears 0 n (record { table = 0; row = n }) ≡ true
    its_own n = grind (arith, nat_tests)

-- a row that was taken in is kept with those before it, and answered with them
pub taken_in : (rows : List Claim) (c : Claim) (all : Answers) (t : Table (Slowed (Delayed Jobs))) → ((b : Account) × KeepsRow (account_with rows) c (Ok all) b × AgreesWith row_demand b t) → RowsKept (c ∷ rows) t all
taken_in rows c all t p =
    let same : p.0 ≡ account_with (c ∷ rows) = p.1.1 ∙ kept rows c in
    record { agrees = subst (λ (a : Account). AgreesWith row_demand a t) same p.2; answered = p.1.0.1 }

-- the row that is held, with the meaning of its kind
abbrev pub held_claim : Task (Slowed (Delayed Jobs)) → Claim
held_claim t = record { row = t.row; demand = row_demand t.kind }

-- it is that of the line
pub same_claim : (clock : Factor) (fs : List (List ℕ)) (t : Task (Slowed (Delayed Jobs))) → t ≡ task_of clock fs → held_claim t ≡ claim_in clock fs
same_claim clock fs t e = ap held_claim e
