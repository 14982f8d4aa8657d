-- The rows and holds of an account are those that the run says. Assumes nothing.
use Rattle.std.proofs.Common.{ℕ, List, [], ◌∷◌, Ok, Err, sym, not-suc-le-zero, arith}
use Rattle.std.specs.Prelude.{Contains}
use Rattle.analysis.specs.Ranks.{Claim}
use Rattle.table.specs.Account.{Account, Bears, number_of, fresh_account, has_unspent}
use Rattle.table.specs.Agreement.{Sound}
use Rattle.table.specs.Runs.{Event, holding, keeping, releasing, withdrawing, bounding, Step, after_all, Run, Stands, Unspent}
use Rattle.table.proofs.Checks.{is_unspent}
use Rattle.table.proofs.Parts.{first_or_later, is_first, is_later, was_there, stays_there, was_unspent, stays_unspent, unspent_own}
use Rattle.table.proofs.Kept.{sound}

-- c is one of these rows exactly when it stands
abbrev pub Standing : Claim → List Claim → List Event → Type 0
Standing c cs es = (Contains cs c → Stands c es) × (Stands c es → Contains cs c)

standing_step : (c : Claim) (a b : Account) (es : List Event) (e : Event) → Step a e b → Standing c a.rows es → Standing c b.rows (e ∷ es)
standing_step c a b es (holding d (Ok h)) step s = rw step.1.1 (grind (arith, first_or_later {x = c} d a.rows, is_first {x = c} {y = d} a.rows, is_later {x = c} d a.rows, s.0, s.1))
standing_step c a b es (holding d (Err e)) step s = rw step.1.1 (grind (arith, s.0, s.1))
standing_step c a b es (keeping h (Ok u)) step s = rw step.1 (grind (arith, s.0, s.1))
standing_step c a b es (keeping h (Err e)) step s = rw step.2 (grind (arith, s.0, s.1))
standing_step c a b es (releasing h (Ok u)) step s = rw step.1 (grind (arith, was_there c h.row a.rows, stays_there c h.row a.rows, s.0, s.1))
standing_step c a b es (releasing h (Err e)) step s = rw step.2 (grind (arith, s.0, s.1))
standing_step c a b es (withdrawing n (Ok u)) step s = rw step.1 (grind (arith, was_there c n a.rows, stays_there c n a.rows, s.0, s.1))
standing_step c a b es (withdrawing n (Err e)) step s = rw step.1 (grind (arith, s.0, s.1))
standing_step c a b es (bounding n r) step s = rw step.1 (grind (arith, s.0, s.1))

pub standing : (number room : ℕ) (c : Claim) (es : List Event) → Run (fresh_account number room) es → Standing c (after_all (fresh_account number room) es).rows es
standing number room c [] run = (λ m. absurd (not-suc-le-zero m.1), λ x. absurd x)
standing number room c (e ∷ es) run =
    standing_step c (after_all (fresh_account number room) es) (after_all (fresh_account number room) (e ∷ es)) es e run.1 (standing number room c es run.0)

-- the hold on the row n that the table's number goes with
abbrev pub it : Account → ℕ → Bears
it a n = record { table = a.number; row = n }

-- a hold on the row n is one of these exactly when it was given and not since spent
abbrev pub HeldNow : ℕ → Account → List Event → Type 0
HeldNow n a es = (Contains a.holds (it a n) → Unspent n es) × (Unspent n es → Contains a.holds (it a n))

held_step : (n : ℕ) (a b : Account) (es : List Event) (e : Event) → Sound a → Step a e b → HeldNow n a es → HeldNow n b (e ∷ es)
held_step n a b es (holding d (Ok h)) s step p = rw step.1.1 (grind (arith, first_or_later {x = it a n} (it a (number_of d)) a.holds, is_first {x = it a n} {y = it a (number_of d)} a.holds, is_later {x = it a n} (it a (number_of d)) a.holds, p.0, p.1))
held_step n a b es (holding d (Err e)) s step p = rw step.1.1 (grind (arith, p.0, p.1))
held_step n a b es (keeping h (Ok u)) s step p = rw step.1 (let own = unspent_own a.number a.rows h.table h.row a.holds s.holds (is_unspent (has_unspent h.table h.row a.holds) step.0) in grind (arith, was_unspent (it a n) h.table h.row a.holds (sym own), stays_unspent (it a n) h.table h.row a.holds, p.0, p.1))
held_step n a b es (keeping h (Err e)) s step p = rw step.2 (grind (arith, p.0, p.1))
held_step n a b es (releasing h (Ok u)) s step p = rw step.1 (let own = unspent_own a.number a.rows h.table h.row a.holds s.holds (is_unspent (has_unspent h.table h.row a.holds) step.0) in grind (arith, was_unspent (it a n) h.table h.row a.holds (sym own), stays_unspent (it a n) h.table h.row a.holds, p.0, p.1))
held_step n a b es (releasing h (Err e)) s step p = rw step.2 (grind (arith, p.0, p.1))
held_step n a b es (withdrawing m (Ok u)) s step p = rw step.1 (grind (arith, p.0, p.1))
held_step n a b es (withdrawing m (Err e)) s step p = rw step.1 (grind (arith, p.0, p.1))
held_step n a b es (bounding m r) s step p = rw step.1 (grind (arith, p.0, p.1))

pub held_unspent : (number room n : ℕ) (es : List Event) → Run (fresh_account number room) es → HeldNow n (after_all (fresh_account number room) es) es
held_unspent number room n [] run = (λ m. absurd (not-suc-le-zero m.1), λ x. absurd x)
held_unspent number room n (e ∷ es) run =
    held_step n (after_all (fresh_account number room) es) (after_all (fresh_account number room) (e ∷ es)) es e (sound number room es run.0) run.1 (held_unspent number room n es run.0)
