-- Ceilings and longest sections, with one row more. Assumes nothing.
use Rattle.std.specs.Prelude.{if◌then◌else◌, ◌==◌}
use Rattle.std.proofs.Common.{◌≡◌, ℕ, zero, suc, ◌+◌, ◌<◌, max, Bool, true, false, List, [], ◌∷◌, length, slice_index_or, take, Some, None, Option, refl, ap, ◌∙◌, not-suc-le-zero, add-one, arith}
use Rattle.analysis.specs.declared.Rank.{Rank}
use Rattle.analysis.specs.declared.TheConstants.{LOCKS}
use Rattle.analysis.specs.Locks.{section, greater_of, ceiling, longest_in_row, longest_in}
use Rattle.analysis.specs.Places.{ranked_rows, no_rank}

-- with a row more in front and one more behind
both_ends : (a b : Bool) (p q : ℕ) (o : Option ℕ) → (if a then if b then o else Some (greater_of q o) else Some (greater_of p (if b then o else Some (greater_of q o)))) ≡ (if b then if a then o else Some (greater_of p o) else Some (greater_of q (if a then o else Some (greater_of p o))))
both_ends true b p q o = refl
both_ends false true p q o = refl
both_ends false false p q None = ap Some (omega arith)
both_ends false false p q (Some n) = ap Some (omega arith)

ceiling_next : (rs : List Rank) (i lock : ℕ) → i < length rs → ceiling (ranked_rows (take (suc i) rs)) lock ≡ (if section (slice_index_or rs i no_rank).row lock == 0 then ceiling (ranked_rows (take i rs)) lock else Some (greater_of (slice_index_or rs i no_rank).row.priority (ceiling (ranked_rows (take i rs)) lock)))
ceiling_next [] i lock h = absurd (not-suc-le-zero h)
ceiling_next (r ∷ rs) zero lock h = refl
ceiling_next (r ∷ rs) (suc i) lock h =
    ap (λ o. if section r.row lock == 0 then o else Some (greater_of r.row.priority o)) (ceiling_next rs i lock (omega arith))
    ∙ both_ends (section r.row lock == 0) (section (slice_index_or rs i no_rank).row lock == 0) r.row.priority (slice_index_or rs i no_rank).row.priority (ceiling (ranked_rows (take i rs)) lock)

-- the ceiling by the first i rows and the next one
pub ceiling_more : (rs : List Rank) (i lock : ℕ) → i < length rs → ceiling (ranked_rows (take (i + 1) rs)) lock ≡ (if section (slice_index_or rs i no_rank).row lock == 0 then ceiling (ranked_rows (take i rs)) lock else Some (greater_of (slice_index_or rs i no_rank).row.priority (ceiling (ranked_rows (take i rs)) lock)))
ceiling_more rs i lock h = ap (λ n. ceiling (ranked_rows (take n rs)) lock) (add-one i) ∙ ceiling_next rs i lock h

longest_next : (ceilings : ℕ → Option ℕ) (p : ℕ) (rs : List Rank) (i : ℕ) → i < length rs → longest_in ceilings p (ranked_rows (take (suc i) rs)) ≡ max (longest_in ceilings p (ranked_rows (take i rs))) (longest_in_row ceilings p (slice_index_or rs i no_rank).row LOCKS)
longest_next ceilings p [] i h = absurd (not-suc-le-zero h)
longest_next ceilings p (r ∷ rs) zero h = omega arith
longest_next ceilings p (r ∷ rs) (suc i) h = let e = longest_next ceilings p rs i (omega arith) in omega arith

-- the longest section of the first i rows and the next one
pub longest_more : (ceilings : ℕ → Option ℕ) (p : ℕ) (rs : List Rank) (i : ℕ) → i < length rs → longest_in ceilings p (ranked_rows (take (i + 1) rs)) ≡ max (longest_in ceilings p (ranked_rows (take i rs))) (longest_in_row ceilings p (slice_index_or rs i no_rank).row LOCKS)
longest_more ceilings p rs i h = ap (λ n. longest_in ceilings p (ranked_rows (take n rs))) (add-one i) ∙ longest_next ceilings p rs i h
