-- Whether a row is held, by the account. Assumes nothing.
use Rattle.std.proofs.Common.{◌≡◌, ℕ, true, false, List, ◌==◌, subst, sym, refl}
use Rattle.std.proofs.lemmas.List.Folds.{Any-from_list_any}
use Rattle.std.proofs.lemmas.Bool.{eqb-true, false_from_ne_true}
use Rattle.analysis.specs.Ranks.{Claim}
use Rattle.table.specs.declared.state.State.{State}
use Rattle.table.specs.declared.state.State.TheVariants.{Free, Held, Kept}
use Rattle.table.specs.Account.{Account, Bears, has_number, has_hold_on}
use Rattle.table.specs.Agreement.{OwnHolds, Sound, StateOf}

-- a hold is on a row that is there
held_row : (table n : ℕ) (cs : List Claim) (hs : List Bears) → OwnHolds table cs hs → has_hold_on n hs ≡ true → has_number n cs ≡ true
held_row table n cs hs own e =
    let found = Any-from_list_any (λ (h : Bears). h.row == n) hs e in
    let there = subst (λ (h : Bears). has_number h.row cs ≡ true) found.3 (own found.0 found.1 found.2).1 in
    subst (λ (m : ℕ). has_number m cs ≡ true) (eqb-true found.1.row n found.4) there

-- a row that does not stand as held has no unspent hold, and neither has one that is not there
pub not_held : (a : Account) (n : ℕ) (s : State) → Sound a → StateOf a n s → ((m : ℕ) → s ≡ Held m → ⊥) → false ≡ has_hold_on n a.holds
not_held a n Free sound is other = sym (false_from_ne_true (has_hold_on n a.holds) (λ e. let there = held_row a.number n a.rows a.holds sound.holds e in cc))
not_held a n (Held m) sound is other = absurd (other m refl)
not_held a n (Kept m) sound is other = sym is.2
