-- How the files of the worked garage are read, computed. Assumes nothing.
use Rattle.std.proofs.Common.{◌≡◌, ℕ, T, nat_le, List, [], ◌∷◌, slice_index_or, Ok, Err, Result, refl, inl, inr}
use Rattle.analysis.specs.Ranks.{Claim}
use Rattle.demand.specs.Refusals.{first}
use Rattle.table.specs.declared.hold.Hold.{Hold as Token}
use Rattle.table.specs.declared.refusals.HoldRefusal.TheVariants.{Late}
use Rattle.table.specs.Account.{Accepted, Refused, hold_checks}
use Rattle.planfile.specs.declared.fault.Blame.{Blame}
use Rattle.planfile.specs.declared.fault.LineFault.TheVariants.{Hold}
use Rattle.planfile.specs.Checks.{clock_checks, line_checks}
use Rattle.planfile.specs.Fault.{nothing, first_blame, line_blame}
use Rattle.planfile.specs.Figures.{even_clock, car_hold, garage_file, car_13, car_14, meters_8, meters_9, rows_in, file_rows, car_refused}
use Rattle.planfile.specs.Laws.{factor_of, row_lines}
use Rattle.planfile.specs.Reading.{account_with, claim_in, first_fields, file_checks, RowTaken, RowsRead, FileRead}
use Rattle.planfile.specs.Text.{fields}
use Rattle.planfile.proofs.GarageCalls.{car_accepted, car_late, meters_late}
use Rattle.planfile.proofs.GarageRows.{row_1, row_2, row_3, one_row, two_rows}

-- a row line of a file
abbrev line_at : List ℕ → ℕ → List ℕ
line_at text i = slice_index_or (row_lines text) i []

-- the fields of the card reader's line, which is the same in all files
abbrev reader : List (List ℕ)
reader = fields (line_at garage_file 1)

-- What computes of a file: it passes its own checks, its clock is even, and it has three row lines, which pass and give the meters and the car
-- with these deadlines, and the card reader.
record Gives (text : List ℕ) (m c : ℕ) : Type 0 where
  whole : first_blame (file_checks text 512) ≡ nothing
  clock : first_blame (clock_checks (first_fields text)) ≡ nothing
  even : factor_of text ≡ even_clock
  three : row_lines text ≡ line_at text 0 ∷ line_at garage_file 1 ∷ line_at text 2 ∷ []
  meters_pass : first_blame (line_checks (fields (line_at text 0))) ≡ nothing
  meters : claim_in even_clock (fields (line_at text 0)) ≡ row_1 m
  meters_checks : first (hold_checks (account_with []) (row_1 m)) ≡ 0
  car_pass : first_blame (line_checks (fields (line_at text 2))) ≡ nothing
  car : claim_in even_clock (fields (line_at text 2)) ≡ row_3 c

-- a row line is taken whose own checks pass, where its row is accepted
row_taken : (rows : List Claim) (fs : List (List ℕ)) (c : Claim) (token : Token) → first_blame (line_checks fs) ≡ nothing → claim_in even_clock fs ≡ c → Accepted (account_with rows) c token → RowTaken even_clock rows fs
row_taken rows fs c token pass is accepted = record { passes = pass; token = token; accepted = rw is accepted }

-- the card reader is taken behind the meters
reader_taken : (m : ℕ) → T (nat_le 5 m) → RowTaken even_clock (row_1 m ∷ []) reader
reader_taken m h =
    row_taken (row_1 m ∷ []) reader row_2 (record { table = 0; row = 2 }) refl refl
    (record { passes = refl; in_time = record { R = λ _. 5; V = λ _. 0; bounds = two_rows m h }; table = refl; row = refl })

module _ (text : List ℕ) (m c : ℕ) (it : Gives text m c) (h : T (nat_le 5 m)) where
  meters_taken : RowTaken even_clock [] (fields (line_at text 0))
  meters_taken =
      row_taken [] (fields (line_at text 0)) (row_1 m) (record { table = 0; row = 1 }) it.meters_pass it.meters
      (record { passes = it.meters_checks; in_time = record { R = λ _. 5; V = λ _. 0; bounds = one_row m h }; table = refl; row = refl })

  -- the file gives what the line of the car does
  by_car : (r : Result (List Claim) Blame) → RowsRead even_clock 4 (row_2 ∷ row_1 m ∷ []) (line_at text 2 ∷ []) r → FileRead text 512 r
  by_car r last =
      let behind : RowsRead even_clock 3 (claim_in even_clock (fields (line_at text 0)) ∷ []) (line_at garage_file 1 ∷ line_at text 2 ∷ []) r = rw it.meters (inr (reader_taken m h, last)) in
      let all : RowsRead even_clock 2 [] (line_at text 0 ∷ line_at garage_file 1 ∷ line_at text 2 ∷ []) r = inr (meters_taken, behind) in
      inr (it.whole, inr (it.clock, rw (it.even, it.three) all))

  -- the car is accepted, and so the file is read
  is_read : Accepted (account_with (row_2 ∷ row_1 m ∷ [])) (row_3 c) car_hold → FileRead text 512 (Ok (row_3 c ∷ row_2 ∷ row_1 m ∷ []))
  is_read accepted =
      by_car _ (inr (row_taken (row_2 ∷ row_1 m ∷ []) (fields (line_at text 2)) (row_3 c) car_hold it.car_pass it.car accepted, rw it.car refl))

  -- it is refused with row n late, and so is the file
  is_refused : (n : ℕ) → Refused (account_with (row_2 ∷ row_1 m ∷ [])) (row_3 c) (Late n) → FileRead text 512 (Err (car_refused n))
  is_refused n refused =
      by_car _ (inl (line_blame (Hold (Late n)), inr (it.car_pass, (Late n, rw it.car refused, refl)), refl))

garage : Gives garage_file 10 40
garage = record { whole = refl; clock = refl; even = refl; three = refl; meters_pass = refl; meters = refl; meters_checks = refl; car_pass = refl; car = refl }

with_13 : Gives car_13 10 13
with_13 = record { whole = refl; clock = refl; even = refl; three = refl; meters_pass = refl; meters = refl; meters_checks = refl; car_pass = refl; car = refl }

with_14 : Gives car_14 10 14
with_14 = record { whole = refl; clock = refl; even = refl; three = refl; meters_pass = refl; meters = refl; meters_checks = refl; car_pass = refl; car = refl }

with_8 : Gives meters_8 8 40
with_8 = record { whole = refl; clock = refl; even = refl; three = refl; meters_pass = refl; meters = refl; meters_checks = refl; car_pass = refl; car = refl }

with_9 : Gives meters_9 9 40
with_9 = record { whole = refl; clock = refl; even = refl; three = refl; meters_pass = refl; meters = refl; meters_checks = refl; car_pass = refl; car = refl }

pub garage_read : FileRead garage_file 512 (Ok file_rows)
garage_read = is_read garage_file 10 40 garage tt (car_accepted 10 40 tt tt refl)

pub car_13_refused : FileRead car_13 512 (Err (car_refused 3))
car_13_refused = is_refused car_13 10 13 with_13 tt 3 car_late

pub car_14_read : FileRead car_14 512 (Ok (rows_in car_14))
car_14_read = is_read car_14 10 14 with_14 tt (car_accepted 10 14 tt tt refl)

pub meters_8_refused : FileRead meters_8 512 (Err (car_refused 1))
meters_8_refused = is_refused meters_8 8 40 with_8 tt 1 meters_late

pub meters_9_read : FileRead meters_9 512 (Ok (rows_in meters_9))
meters_9_read = is_read meters_9 9 40 with_9 tt (car_accepted 9 40 tt tt refl)
