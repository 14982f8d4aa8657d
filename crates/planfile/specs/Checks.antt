-- The lines of a plan file: which checks each meets, and what it says. Assumes nothing.
-- How to read it: fs is a line, as the list of its fields, which count from 1. A check is a pair, whether it applies and what it blames; checks
-- stand in lists, and the first that applies counts. For a clock line see `clock_checks` and `clock_of`, for a row line `line_checks` and `task_of`.
use Rattle.std.specs.Prelude.{◌≡◌, ℕ, zero, suc, ◌+◌, ◌-◌, Bool, true, false, not, ◌||◌, List, [], ◌∷◌, ◌++◌, map, length, Ok, Err, Result, ◌==◌, nat_lt}
use Rattle.analysis.specs.declared.TheConstants.{LOCKS}
use Rattle.analysis.specs.declared.Row.{Row}
use Rattle.analysis.specs.declared.Task.{Task}
use Rattle.analysis.specs.Ranks.{Claim}
use Rattle.demand.specs.Demand.{Demand}
use Rattle.demand.specs.Basic.{every_demand, heavy_demand}
use Rattle.demand.specs.Made.{delayed_by, slowed_by, delayed_demand, slowed_demand, either_demand}
use Rattle.either.specs.declared.Either.{Either}
use Rattle.either.specs.declared.Either.TheVariants.{Left, Right}
use Rattle.demand.specs.declared.delayed.Delayed.{Delayed}
use Rattle.demand.specs.declared.heavy.Heavy.{Heavy as HeavyKind}
use Rattle.demand.specs.declared.every.Every.{Every as EveryKind}
use Rattle.demand.specs.declared.slowed.Slowed.{Slowed}
use Rattle.demand.specs.Refusals.{first, every_checks, heavy_checks, delayed_checks, slowed_checks}
use Rattle.planfile.specs.declared.word.Word.{Word}
use Rattle.planfile.specs.declared.word.Word.TheVariants.{Clock, Row as RowWord, Every, Heavy, Other}
use Rattle.demand.specs.declared.factor.Factor.{Factor}
use Rattle.planfile.specs.declared.fault.FieldFault.{FieldFault}
use Rattle.planfile.specs.declared.fault.LineFault.{LineFault}
use Rattle.planfile.specs.declared.fault.Blame.{Blame}
use Rattle.planfile.specs.Fault.{nothing, by_number, by_field, first_blame, field_number, line_blame}
use Rattle.planfile.specs.Text.{ends_with_newline, field, word_of, is_number, value}

-- the word is the one that begins a clock line
abbrev pub is_clock : Word → Bool
is_clock Clock = true
is_clock RowWord = false
is_clock Every = false
is_clock Heavy = false
is_clock Other = false

-- the word is the one that begins a row line
abbrev pub is_row : Word → Bool
is_row Clock = false
is_row RowWord = true
is_row Every = false
is_row Heavy = false
is_row Other = false

-- how many fields a row line has, by the word in field 16; 0 where that names no kind
abbrev pub fields_due : Word → ℕ
fields_due Clock = 0
fields_due RowWord = 0
fields_due Every = 18
fields_due Heavy = 20
fields_due Other = 0

-- When a field is refused as a number.
abbrev pub field_checks : List ℕ → List (Bool × ℕ)
field_checks f = (not (is_number f), 16) ∷ []

-- What reading a field answers: its value where no check applies, else a fault with the number of the one that does.
abbrev pub NumberRead : List ℕ → Result ℕ FieldFault → Type 0
NumberRead f (Ok n) = (first (field_checks f) ≡ 0) × (n ≡ value f)
NumberRead f (Err e) = first (field_checks f) ≡ field_number e

-- these checks, where each blames field k
abbrev pub blames_by_field : ℕ → List (Bool × ℕ) → List (Bool × Blame)
blames_by_field k = map (λ check. (check.0, by_field check.1 k))

-- the n fields from field k on are numbers, leftmost first
abbrev pub number_checks : List (List ℕ) → ℕ → ℕ → List (Bool × Blame)
number_checks fs k zero = []
number_checks fs k (suc n) = blames_by_field k (field_checks (field k fs)) ++ number_checks fs (k + 1) n

-- the number in field k
abbrev pub number_in : List (List ℕ) → ℕ → ℕ
number_in fs k = value (field k fs)

-- the numbers in the n fields from field k on
abbrev pub numbers_in : List (List ℕ) → ℕ → ℕ → List ℕ
numbers_in fs k zero = []
numbers_in fs k (suc n) = number_in fs k ∷ numbers_in fs (k + 1) n

-- these checks, where none blames a field
abbrev pub blames_by_number : List (Bool × ℕ) → List (Bool × Blame)
blames_by_number = map (λ check. (check.0, by_number check.1))

-- the factor that a clock line gives
abbrev pub clock_of : List (List ℕ) → Factor
clock_of fs = record { numerator = number_in fs 2; denominator = number_in fs 3 }

-- When a clock line is refused, in this order.
abbrev pub clock_checks : List (List ℕ) → List (Bool × Blame)
clock_checks fs =
    (not (is_clock (word_of (field 1 fs))), by_field 17 1)
    ∷ (not (length fs == 3), by_number 15)
    ∷ (number_checks fs 2 2 ++ blames_by_number (slowed_checks (number_in fs 2) (number_in fs 3)))

-- the jobs of a row
abbrev pub Jobs : Type 0
Jobs = Either EveryKind HeavyKind

-- the jobs that a row line gives, by the word in field 16
abbrev pub jobs_in : List (List ℕ) → Word → Jobs
jobs_in fs Clock = Left (record { job = 0; period = 0 })
jobs_in fs RowWord = Left (record { job = 0; period = 0 })
jobs_in fs Every = Left (record { job = number_in fs 17; period = number_in fs 18 })
jobs_in fs Heavy = Right (record {
  job = number_in fs 17;
  heavy = number_in fs 18;
  among = number_in fs 19;
  period = number_in fs 20;
})
jobs_in fs Other = Left (record { job = 0; period = 0 })

-- the row that a row line gives
abbrev pub row_of : List (List ℕ) → Row
row_of fs = record {
  number = number_in fs 2;
  priority = number_in fs 3;
  suspension = number_in fs 4;
  suspensions = number_in fs 5;
  deadline = number_in fs 6;
  sections = numbers_in fs 8 LOCKS;
}

-- what a row line has: a row, how late its jobs may come, and its jobs
pub record Entry : Type 0 where
  pub row : Row
  pub delay : ℕ
  pub jobs : Jobs

-- what a row line says
abbrev pub entry_of : List (List ℕ) → Entry
entry_of fs = record { row = row_of fs; delay = number_in fs 7; jobs = jobs_in fs (word_of (field 16 fs)) }

-- When a text is refused for its length or its end: it has more bytes than the limit, or is not ended by a newline.
abbrev pub length_checks : ℕ → List ℕ → List (Bool × Blame)
length_checks limit text = (nat_lt limit (length text) || not (ends_with_newline text), by_number 18) ∷ []

-- When a row line is refused for how many fields it has, or for the word that names its kind, in this order.
abbrev pub shape_checks : List (List ℕ) → List (Bool × Blame)
shape_checks fs =
    (nat_lt (length fs) 16, by_number 15)
    ∷ ((fields_due (word_of (field 16 fs)) == 0), by_field 17 16)
    ∷ (not (length fs == fields_due (word_of (field 16 fs))), by_number 15)
    ∷ []

-- When the text behind the first word of a row line is refused, in this order.
abbrev pub text_checks : List (List ℕ) → List (Bool × Blame)
text_checks fs = shape_checks fs ++ (number_checks fs 2 14 ++ number_checks fs 17 (length fs - 16))

-- what jobs mean
abbrev pub jobs_demand : Jobs → Demand
jobs_demand = either_demand every_demand heavy_demand

-- When the numbers of jobs are refused, in this order.
abbrev pub jobs_checks : Jobs → List (Bool × ℕ)
jobs_checks (Left k) = every_checks k.job k.period
jobs_checks (Right k) = heavy_checks k.job k.heavy k.among k.period

-- When what stands behind the word that names a kind is refused, in this order.
abbrev pub behind_word_checks : List (List ℕ) → Word → List (Bool × Blame)
behind_word_checks fs word =
    number_checks fs 17 (length fs - 16) ++ blames_by_number (jobs_checks (jobs_in fs word))

-- When the kind of an entry is refused, in this order.
abbrev pub kind_checks : Entry → List (Bool × ℕ)
kind_checks e = jobs_checks e.jobs ++ delayed_checks e.delay (jobs_demand e.jobs)

-- a row with the meaning of its kind: its jobs, each late by up to the delay, all slowed by the clock's factor
abbrev pub claim_of : Factor → Entry → Claim
claim_of clock e = record {
  row = e.row;
  demand = slowed_by clock.numerator clock.denominator (delayed_by e.delay (jobs_demand e.jobs));
}

-- what a value of the code means: the kind of a row of a plan file
abbrev pub row_demand : Slowed (Delayed Jobs) → Demand
row_demand = slowed_demand (delayed_demand jobs_demand)

-- What reading answers: the value where no check applies, else a fault that says what the first says that applies.
abbrev pub Reads : {A : Type 0} → List (Bool × Blame) → A → Result A LineFault → Type 0
Reads checks x (Ok y) = (first_blame checks ≡ nothing) × (y ≡ x)
Reads checks x (Err f) = first_blame checks ≡ line_blame f

-- When what stands behind the first word of a row line is refused, before the row is held, in this order.
abbrev pub row_checks : List (List ℕ) → List (Bool × Blame)
row_checks fs = text_checks fs ++ blames_by_number (kind_checks (entry_of fs))

-- When a row line is refused before its row is held, in this order.
abbrev pub line_checks : List (List ℕ) → List (Bool × Blame)
line_checks fs = (not (is_row (word_of (field 1 fs))), by_field 17 1) ∷ row_checks fs

-- the row that a row line or a hold line gives, its kind slowed by the clock
abbrev pub task_of : Factor → List (List ℕ) → Task (Slowed (Delayed Jobs))
task_of clock fs = record {
  row = row_of fs;
  kind = record {
    kind = record { kind = (entry_of fs).jobs; delay = (entry_of fs).delay };
    factor = clock;
  };
}
