-- Figures that show what the kinds mean. Assumes nothing.
-- How to read it: each line has the figures that the comment above it tells.
use Rattle.std.specs.Prelude.{◌≡◌}
use Rattle.demand.specs.declared.TheConstants.{CAP, FEWEST_AMONG, LARGEST_PART, LONGEST, MOST_AMONG}
use Rattle.demand.specs.Basic.{every, heavy}
use Rattle.demand.specs.Made.{delayed_by, slowed_by}

-- what each kind comes to at small numbers, and the numbers that the limits of kinds are
abbrev pub KindFigures : Type 0
KindFigures =
    -- jobs of 2, each 10 after the one before: one job in a window of 10, two in one of 11
    ((every 2 10).work 10 ≡ 2) × ((every 2 10).work 11 ≡ 4)
    -- one job of 5 among each 3, the others of 2: the most of one, three and four jobs
    × ((heavy 2 5 3 10).work 1 ≡ 5) × ((heavy 2 5 3 10).work 21 ≡ 9) × ((heavy 2 5 3 10).work 31 ≡ 14)
    -- jobs that come up to 4 late: the second job is in a window of 7
    × ((delayed_by 4 (every 2 10)).spacing ≡ 6) × ((delayed_by 4 (every 2 10)).work 6 ≡ 2) × ((delayed_by 4 (every 2 10)).work 7 ≡ 4)
    -- jobs of 3 at 3 / 2 of the time: at most 5, at least 4, and two of them 9
    × ((slowed_by 3 2 (every 3 10)).own ≡ 5) × ((slowed_by 3 2 (every 3 10)).least ≡ 4) × ((slowed_by 3 2 (every 3 10)).work 11 ≡ 9)
    -- no job and no work that is answered is above 2,000,000, and no job or spacing that is given above 1,000,000
    × (CAP ≡ 2_000_000) × (LONGEST ≡ 1_000_000)
    -- one heavy job is among 2 to 64, and the parts of a factor are at most 1,000
    × (FEWEST_AMONG ≡ 2) × (MOST_AMONG ≡ 64) × (LARGEST_PART ≡ 1_000)
