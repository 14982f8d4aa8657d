-- Locks: ceilings under the Stack Resource Policy, and how long a row can be blocked. Assumes nothing.
-- How to read it: from one section up to `blocking`, which is B of a row. A lock that no row uses has the ceiling `None`.
use Rattle.std.specs.Prelude.{ℕ, zero, suc, ◌+◌, ◌*◌, max, Bool, false, List, [], ◌∷◌, Some, None, Option, ◌==◌, nat_le, slice_index, slice_index_or, if◌then◌else◌}
use Rattle.analysis.specs.declared.TheConstants.{LOCKS}
use Rattle.analysis.specs.declared.Row.{Row}

-- the length of the row's section on a lock; 0 says that the row does not use it
abbrev pub section : Row → ℕ → ℕ
section r lock = slice_index r.sections lock

-- the greater of a priority and the greatest found so far, if any
abbrev pub greater_of : ℕ → Option ℕ → ℕ
greater_of p None = p
greater_of p (Some q) = max p q

-- A ceiling is the highest priority of any row with a section on the lock, and none where there is no such row.
abbrev pub ceiling : List Row → ℕ → Option ℕ
ceiling [] lock = None
ceiling (r ∷ rs) lock = if section r lock == 0 then ceiling rs lock else Some (greater_of r.priority (ceiling rs lock))

-- the ceiling of a lock in a list that has that of each lock, by its number
abbrev pub ceiling_at : List (Option ℕ) → ℕ → Option ℕ
ceiling_at ceilings lock = slice_index_or ceilings lock None

-- a ceiling is at least a priority
abbrev pub reaches : Option ℕ → ℕ → Bool
reaches None p = false
reaches (Some c) p = nat_le p c

-- The longest section of one row that can block priority p, on the first n locks: one on a lock whose ceiling is at least p.
abbrev pub longest_in_row : (ℕ → Option ℕ) → ℕ → Row → ℕ → ℕ
longest_in_row ceilings p r zero = 0
longest_in_row ceilings p r (suc n) = max (longest_in_row ceilings p r n) (if reaches (ceilings n) p then section r n else 0)

-- the longest section of these rows that can block priority p, on all locks
abbrev pub longest_in : (ℕ → Option ℕ) → ℕ → List Row → ℕ
longest_in ceilings p [] = 0
longest_in ceilings p (r ∷ rs) = max (longest_in_row ceilings p r LOCKS) (longest_in ceilings p rs)

-- The blocking of a row among all rows, given those below it: a job can be blocked when it starts and each time it
-- comes back from a suspension, each time by the longest section of a lower row on a lock whose ceiling reaches it.
abbrev pub blocking : List Row → Row → List Row → ℕ
blocking all r lower = (r.suspensions + 1) * longest_in (ceiling all) r.priority lower
