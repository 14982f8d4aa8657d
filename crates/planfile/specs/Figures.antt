-- Figures worked out by hand: of the kinds, of a plan file of three rows, and of calls for its rows; and the limits as numbers. Assumes nothing.
-- How to read it: the file comes first, and all that is said of its rows is said of rows that its bytes give. Each field of `WorkedFigures` at the
-- end is one claim.
use Rattle.std.specs.Prelude.{◌≡◌, ℕ, List, [], ◌∷◌, ◌++◌, map, Ok, Err, codes, slice_index}
use Rattle.analysis.specs.declared.Answer.{Answer}
use Rattle.analysis.specs.declared.TheConstants.{LOCKS, MOST_ROWS}
use Rattle.analysis.specs.Judge.{InTime}
use Rattle.analysis.specs.Plans.{Bounds, Fixed}
use Rattle.analysis.specs.Ranks.{Claim, Load, ranking, loads, system_of}
use Rattle.demand.specs.declared.factor.Factor.{Factor}
use Rattle.demand.specs.Figures.{KindFigures}
use Rattle.either.specs.declared.Either.TheVariants.{Left}
use Rattle.table.specs.declared.TheConstants.{LARGEST_NUMBER, LARGEST_PRIORITY, LONGEST_SUSPENSION, MOST_SUSPENSIONS}
use Rattle.table.specs.declared.hold.Hold.{Hold}
use Rattle.table.specs.declared.refusals.HoldRefusal.TheVariants.{Late}
use Rattle.table.specs.Account.{Account, Holds, Withdraws, BoundsAnswered, with_row, with_withdrawn}
use Rattle.planfile.specs.declared.TheConstants.{LONGEST_FILE, LONGEST_LINE, REPORT_MEMORY}
use Rattle.planfile.specs.declared.fault.Blame.{Blame}
use Rattle.planfile.specs.Checks.{Entry, clock_checks, line_checks}
use Rattle.planfile.specs.Fault.{nothing, by_number, by_field, first_blame}
use Rattle.planfile.specs.Laws.{factor_of, row_fields, rows_before, plan_text, SoundPlan}
use Rattle.planfile.specs.Reading.{account_with, claim_in, FileRead}
use Rattle.planfile.specs.Report.{report, refusal_line}
use Rattle.planfile.specs.Text.{lines, fields, value}

-- the line of row 1, the meters, with these digits for its deadline
abbrev pub meters_line : List ℕ → List ℕ
meters_line deadline = codes "row\t1\t30\t3\t1\t" ++ (deadline ++ codes "\t0\t1\t0\t0\t0\t0\t0\t0\t0\tevery\t2\t10\n")

-- the line of row 2, the card reader
abbrev pub reader_line : List ℕ
reader_line = codes "row\t2\t20\t0\t0\t15\t0\t0\t0\t0\t0\t0\t0\t0\t0\tevery\t3\t16\n"

-- the line of row 3, the car, with these digits for its deadline
abbrev pub car_line : List ℕ → List ℕ
car_line deadline = codes "row\t3\t10\t0\t0\t" ++ (deadline ++ codes "\t0\t2\t0\t0\t0\t0\t0\t0\t0\tevery\t5\t40\n")

-- the file of the three rows, with these digits for the deadlines of the meters and of the car; its clock slows nothing
abbrev pub file_with : List ℕ → List ℕ → List ℕ
file_with meters car = codes "clock\t1\t1\n" ++ (meters_line meters ++ (reader_line ++ car_line car))

-- the worked garage
abbrev pub garage_file : List ℕ
garage_file = file_with (codes "10") (codes "40")

-- the same with a deadline of 13 for the car
abbrev pub car_13 : List ℕ
car_13 = file_with (codes "10") (codes "13")

-- with 14 for the car
abbrev pub car_14 : List ℕ
car_14 = file_with (codes "10") (codes "14")

-- with 8 for the meters
abbrev pub meters_8 : List ℕ
meters_8 = file_with (codes "8") (codes "40")

-- with 9 for the meters
abbrev pub meters_9 : List ℕ
meters_9 = file_with (codes "9") (codes "40")

-- the rows of such a file, the last first
abbrev pub rows_in : List ℕ → List Claim
rows_in text = rows_before text 3

-- the rows of the worked garage
abbrev pub file_rows : List Claim
file_rows = rows_in garage_file

-- the same rows, highest first, with their blocking
abbrev pub file_loads : List Load
file_loads = loads (ranking file_rows)

-- the account that keeps the meters and the card reader of such a file
abbrev pub before_car : List ℕ → Account
before_car text = account_with (rows_before text 2)

-- the car of such a file
abbrev pub car_in : List ℕ → Claim
car_in text = claim_in (factor_of text) (row_fields text 2)

-- its hold
abbrev pub car_hold : Hold
car_hold = record { table = 0; row = 3 }

-- where the others of such a file are kept, a call that is to hold its car is accepted
abbrev pub CarHeld : List ℕ → Type 0
CarHeld text = Holds (before_car text) (car_in text) (Ok car_hold) (with_row (before_car text) (car_in text))

-- it is refused by 11, since row n would be late
abbrev pub CarLate : List ℕ → ℕ → Type 0
CarLate text n = Holds (before_car text) (car_in text) (Err (Late n)) (before_car text)

-- the account that keeps the three rows of the worked garage
abbrev pub all_kept : Account
all_kept = account_with file_rows

-- and the one without the car
abbrev pub car_gone : Account
car_gone = with_withdrawn all_kept 3

-- a clock that slows nothing
abbrev pub even_clock : Factor
even_clock = record { numerator = 1; denominator = 1 }

-- a row that uses at most lock 0, whose jobs each take c, are t apart and come on time
abbrev pub entry_with : ℕ → ℕ → ℕ → ℕ → ℕ → ℕ → ℕ → ℕ → Entry
entry_with number priority suspension suspensions deadline lock c t = record {
  row = record {
    number = number;
    priority = priority;
    suspension = suspension;
    suspensions = suspensions;
    deadline = deadline;
    sections = lock ∷ 0 ∷ 0 ∷ 0 ∷ 0 ∷ 0 ∷ 0 ∷ 0 ∷ [];
  };
  delay = 0;
  jobs = Left (record { job = c; period = t });
}

-- the three rows, as a plan file is written from them
abbrev pub garage_entries : List Entry
garage_entries =
    entry_with 1 30 3 1 10 1 2 10 ∷ entry_with 2 20 0 0 15 0 3 16 ∷ entry_with 3 10 0 0 40 2 5 40 ∷ []

-- the bounds of the three ranks, the meters first
abbrev pub garage_bounds : ℕ → ℕ
garage_bounds k = slice_index (9 ∷ 9 ∷ 14 ∷ []) k

-- and their vectors
abbrev pub garage_vectors : ℕ → ℕ
garage_vectors k = slice_index (0 ∷ 0 ∷ 2 ∷ []) k

-- what is answered for them
abbrev pub garage_answers : List Answer
garage_answers =
    record { number = 1; bound = 9; vector = 0; blocking = 4 }
    ∷ record { number = 2; bound = 9; vector = 0; blocking = 2 }
    ∷ record { number = 3; bound = 14; vector = 2; blocking = 0 }
    ∷ []

-- the text of their report
abbrev pub garage_report : List ℕ
garage_report = codes "row\t1\t9\t0\t4\nrow\t2\t9\t0\t2\nrow\t3\t14\t2\t0\n"

-- what is blamed where the car's line, which is line 4, is refused with row n late
abbrev pub car_refused : ℕ → Blame
car_refused n = record { number = 11; line = 4; field = 0; late = n }

-- what follows from the definitions for small texts and lines
pub record TextFigures : Type 0 where
  -- two lines, each ended by a newline
  pub two_lines : lines (codes "a\nb\n") ≡ codes "a" ∷ codes "b" ∷ []
  -- an empty file has no line
  pub no_line : lines [] ≡ []
  -- a field may be empty
  pub three_fields : fields (codes "a\t\tb") ≡ codes "a" ∷ [] ∷ codes "b" ∷ []
  -- leading zeros count for nothing
  pub zeros : value (codes "007") ≡ 7
  -- a clock line of another word
  pub other_word : first_blame (clock_checks (fields (codes "Clock\t1\t1"))) ≡ by_field 17 1
  -- of too few fields
  pub too_few : first_blame (clock_checks (fields (codes "clock\t1"))) ≡ by_number 15
  -- of a field with another byte than digits
  pub no_digit : first_blame (clock_checks (fields (codes "clock\t1\t-1"))) ≡ by_field 16 3
  -- of a factor below 1
  pub too_fast : first_blame (clock_checks (fields (codes "clock\t1\t2"))) ≡ by_number 4
  -- one that passes
  pub passes : first_blame (clock_checks (fields (codes "clock\t3\t2"))) ≡ nothing
  -- an empty line in place of a row line
  pub no_row : first_blame (line_checks (fields [])) ≡ by_field 17 1
  -- a row line of too few fields
  pub short_row : first_blame (line_checks (fields (codes "row\t1"))) ≡ by_number 15

-- the numbers that the limits of rows, tables, files, lines of logs and reports are
pub record LimitFigures : Type 0 where
  -- the most rows that are judged together, or stand in a table
  pub rows : MOST_ROWS ≡ 12
  -- how many locks there are
  pub locks : LOCKS ≡ 8
  -- the largest number of a row
  pub number : LARGEST_NUMBER ≡ 255
  -- its largest priority
  pub priority : LARGEST_PRIORITY ≡ 255
  -- its longest suspension
  pub suspension : LONGEST_SUSPENSION ≡ 1_000_000
  -- how often it suspends itself at most
  pub suspensions : MOST_SUSPENSIONS ≡ 63
  -- the most bytes of a plan file
  pub file : LONGEST_FILE ≡ 4_096
  -- of a line of a log
  pub line : LONGEST_LINE ≡ 4_096
  -- the bytes that a report is lent
  pub report : REPORT_MEMORY ≡ 512

-- the limits, and what follows from the definitions for the kinds, for small texts, for the file of the worked garage, and for calls with its rows
pub record WorkedFigures : Type 0 where
  -- what each kind comes to at small numbers
  pub kinds : KindFigures
  -- what small texts and lines say
  pub texts : TextFigures
  -- the limits
  pub limits : LimitFigures
  -- the three rows, written, are the file
  pub written : plan_text even_clock garage_entries ≡ garage_file
  -- they are rows that a plan file can have
  pub sound : SoundPlan even_clock garage_entries
  -- the file is read, with the least memory for its report, and gives its rows
  pub read : FileRead garage_file REPORT_MEMORY (Ok file_rows)
  -- highest first they are rows 1, 2 and 3
  pub ranks : map (λ l. l.claim.row.number) file_loads ≡ 1 ∷ 2 ∷ 3 ∷ []
  -- they are blocked for 4, 2 and 0
  pub blocking : map (λ l. l.blocked) file_loads ≡ 4 ∷ 2 ∷ 0 ∷ []
  -- their bounds are 9, 9 and 14, under the vectors 0, 0 and 2
  pub bounds : Bounds (system_of file_rows) 3 garage_bounds garage_vectors
  -- under vector 0 the least window of row 3 is 17
  pub under_0 : Fixed (system_of file_rows) garage_bounds 2 0 17
  -- under vector 1 too
  pub under_1 : Fixed (system_of file_rows) garage_bounds 2 1 17
  -- under vector 2 it is 14
  pub under_2 : Fixed (system_of file_rows) garage_bounds 2 2 14
  -- under vector 3 too
  pub under_3 : Fixed (system_of file_rows) garage_bounds 2 3 14
  -- so these are the answers for the rows of the file, and the vectors are the best plan
  pub answered : InTime file_rows garage_answers
  -- the text of the report of these answers
  pub reported : report garage_answers ≡ garage_report
  -- the text of a refusal: in line 4, with row 3 late
  pub refused : refusal_line (car_refused 3) ≡ codes "refused\t4\t0\t11\t3\n"
  -- with deadline 13 for the car the file is refused by 11 in line 4, since row 3 would be late
  pub car_13_refused : FileRead car_13 REPORT_MEMORY (Err (car_refused 3))
  -- with 14 it is read, and gives its rows
  pub car_14_read : FileRead car_14 REPORT_MEMORY (Ok (rows_in car_14))
  -- with deadline 8 for the meters it is refused by 11 in line 4, since row 1 would be late
  pub meters_8_refused : FileRead meters_8 REPORT_MEMORY (Err (car_refused 1))
  -- with 9 it is read, and gives its rows
  pub meters_9_read : FileRead meters_9 REPORT_MEMORY (Ok (rows_in meters_9))
  -- the same of calls: with deadline 13 the car is refused, and row 3 is named
  pub car_13_late : CarLate car_13 3
  -- with 14 it is accepted, and then held
  pub car_14_held : CarHeld car_14
  -- where the meters have deadline 8 the car is refused, and row 1 is named
  pub meters_8_late : CarLate meters_8 1
  -- where they have 9 it is accepted, and then held
  pub meters_9_held : CarHeld meters_9
  -- of the three rows of the file, all kept, the car is withdrawn
  pub withdrawn : Withdraws all_kept 3 (Ok tt) car_gone
  -- then row 1 has the bound 5, under vector 0
  pub then_one : BoundsAnswered car_gone 1 (Ok (5, 0))
  -- and row 2 too
  pub then_two : BoundsAnswered car_gone 2 (Ok (5, 0))
