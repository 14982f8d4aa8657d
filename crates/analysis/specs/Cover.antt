-- What the higher rows do in a window, under a vector. Assumes nothing.
-- How to read it: lists have the highest row first, v is a vector, t a window of the row below them. `interference` at the end is the sum.
use Rattle.std.specs.Prelude.{ℕ, ◌+◌, ◌-◌, ◌/◌, ◌%◌, ◌^◌, min, Bool, List, [], ◌∷◌, ◌==◌, if◌then◌else◌}
use Rattle.demand.specs.Demand.{window}

-- a sum as a u64 holds it: one beyond the largest number counts as that
abbrev pub sum_in_u64 : ℕ → ℕ
sum_in_u64 n = min n (2 ^ 64 - 1)

-- A row as a lower row meets it: its wait, its jitter and its work.
pub record Above : Type 0 where
  pub wait : ℕ
  pub jitter : ℕ
  pub work : ℕ → ℕ

-- A vector has a bit for each higher row, the lowest bit for the highest row, so this is the bit of the first of these rows.
abbrev pub lowest_bit : ℕ → Bool
lowest_bit v = v % 2 == 1

-- the waits of the rows with a 1, from the first of these down to the last
abbrev pub waits : List Above → ℕ → ℕ
waits [] v = 0
waits (a ∷ rest) v = (if lowest_bit v then a.wait else 0) + waits rest (v / 2)

-- The window in which the first of these rows works, at window t below: longer by the waits of the rows with a 1 from
-- this one down, and by its own jitter where it has a 0.
abbrev pub working_window : Above → List Above → ℕ → ℕ → ℕ
working_window a rest v t = window ((t + waits (a ∷ rest) v) + (if lowest_bit v then 0 else a.jitter))

-- the work of all these rows, highest first, in window t of the row below them
abbrev pub interference : List Above → ℕ → ℕ → ℕ
interference [] v t = 0
interference (a ∷ rest) v t = a.work (working_window a rest v t) + interference rest (v / 2) t
