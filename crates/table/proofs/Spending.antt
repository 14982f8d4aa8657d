-- Holds that are spent and holds that are not, by where they stand in the table. Assumes nothing.
use Rattle.std.proofs.Common.{◌≢◌, ◌≡◌, ℕ, ◌<◌, Bool, true, false, not, slice_index_or, List, [], ◌∷◌, Some, None, Option, Err, Result, sym, refl, ap, ◌∙◌, subst, arith}
use Rattle.std.proofs.lemmas.List.{length-take}
use Rattle.std.proofs.lemmas.List.Elements.{All-head, All-tail, filter_passes}
use Rattle.std.proofs.lemmas.List.Folds.{list_any_none}
use Rattle.std.proofs.lemmas.List.Recursion.{or_from_places}
use Rattle.std.proofs.lemmas.Bool.Decides.{nat_tests}
use Rattle.std.proofs.lemmas.Bool.{both_ways, eq-eqb, false_from_ne_true, not-true}
use Rattle.demand.specs.Demand.{Demand}
use Rattle.analysis.specs.declared.Task.{Task}
use Rattle.analysis.specs.Candidates.{claims_of}
use Rattle.analysis.specs.Ranks.{Claim}
use Rattle.table.specs.declared.hold.Hold.{Hold}
use Rattle.table.specs.declared.refusals.SpendRefusal.{SpendRefusal}
use Rattle.table.specs.declared.refusals.SpendRefusal.TheVariants.{NotHeld}
use Rattle.table.specs.declared.refusals.WithdrawRefusal.{WithdrawRefusal}
use Rattle.table.specs.declared.refusals.WithdrawRefusal.TheVariants.{NoSuchRow, NotKept}
use Rattle.table.specs.declared.state.State.{State}
use Rattle.table.specs.declared.state.State.TheVariants.{Free, Held, Kept}
use Rattle.table.specs.declared.Table.{Table}
use Rattle.demand.specs.Refusals.{first}
use Rattle.table.specs.Account.{Account, Bears, bears, has_number, has_unspent, has_hold_on, without_hold, spend_checks, withdraw_checks, withdraw_number, Spends}
use Rattle.table.specs.Agreement.{AgreesWith, StandsAt, StateOf, OwnHolds}
use Rattle.table.specs.Places.{names, At, HeldHere, NoneKept, StateHere}
use Rattle.table.proofs.Lookups.{tasks, task_at, state_at, AtLow, named, named_more, number_found}
use Rattle.table.proofs.Checks.{held_applies, no_row_applies, spent_applies, unspent_passes, withdraw_passes}
use Rattle.table.proofs.Parts.{unspent_own, unspent_row}
use Rattle.table.proofs.Shared.{number_permuted}

-- all holds are of one table, so its number need not be looked at
same_held : (table n : ℕ) (cs : List Claim) (hs : List Bears) → OwnHolds table cs hs → has_hold_on n hs ≡ has_unspent table n hs
same_held table n cs [] own = refl
same_held table n cs (h ∷ hs) own = grind (arith, nat_tests, (All-head (λ g. (g.table ≡ table) × (has_number g.row cs ≡ true)) h hs own).0, same_held table n cs hs (All-tail (λ g. (g.table ≡ table) × (has_number g.row cs ≡ true)) h hs own))

-- after a hold is spent none bears its numbers
pub spent_gone : (table n : ℕ) (hs : List Bears) → has_unspent table n (without_hold table n hs) ≡ false
spent_gone table n hs = list_any_none (bears table n) (without_hold table n hs) (λ k d l. not-true (bears table n (slice_index_or (without_hold table n hs) k d)) (filter_passes (λ h. not (bears table n h)) hs k d l))

module _ {K : Type 0} (a : Account) (n : ℕ) where
  -- where the hold of a task's row is unspent, the row is held
  pub is_held_there : (s : State) (o : Option (Task K)) → StandsAt a s o → named n o ≡ true → has_unspent a.number n a.holds ≡ true → s ≡ Held n
  is_held_there s o h e u = grind (arith, nat_tests)

-- the task of a row that is held, or kept: its hold is unspent, or it is not
pub record TaskAt {K : Type 0} (a : Account) (o : Option (Task K)) (n : ℕ) (b : Bool) : Type 0 where
  pub task : Task K
  pub stands : o ≡ Some task
  pub number : n ≡ task.row.number
  pub unspent_is : has_unspent a.number n a.holds ≡ b

at_held : {K : Type 0} (a : Account) (n : ℕ) (o : Option (Task K)) → StandsAt a (Held n) o → TaskAt a o n true
at_held a n None s = absurd s
at_held a n (Some u) s = record { task = u; stands = refl; number = s.0; unspent_is = s.1 }

at_kept : {K : Type 0} (a : Account) (n : ℕ) (o : Option (Task K)) → StandsAt a (Kept n) o → TaskAt a o n false
at_kept a n None s = absurd s
at_kept a n (Some u) s = record { task = u; stands = refl; number = s.0; unspent_is = s.1 }

module _ {K : Type 0} {demand : K → Demand} {a : Account} (t : Table K) (agrees : AgreesWith demand a t) where
  -- what stands at a place of this state
  pub stands : (s : State) (p : ℕ) → AtLow t (λ x. x ≡ s) p → StandsAt a s (task_at t p)
  stands s p at = subst (λ x. StandsAt a x (task_at t p)) at.1 (agrees.at_each p at.0)

  pub held_at : (n p : ℕ) → AtLow t (λ s. s ≡ Held n) p → TaskAt a (task_at t p) n true
  held_at n p at = at_held a n (task_at t p) (stands (Held n) p at)

  pub kept_at : (n p : ℕ) → AtLow t (λ s. s ≡ Kept n) p → TaskAt a (task_at t p) n false
  kept_at n p at = at_kept a n (task_at t p) (stands (Kept n) p at)

  pub is_held : (n p : ℕ) → AtLow t (λ s. s ≡ Held n) p → has_hold_on n a.holds ≡ true
  is_held n p at = same_held a.number n a.rows a.holds agrees.sound.holds ∙ (held_at n p at).unspent_is

  -- a kept row has no unspent hold
  pub is_spent : (n p : ℕ) → AtLow t (λ s. s ≡ Kept n) p → (has_unspent t.number n a.holds ≡ false) × (has_hold_on n a.holds ≡ false)
  is_spent n p at =
      let there = kept_at n p at in
      (rw (← agrees.number_is) there.unspent_is, same_held a.number n a.rows a.holds agrees.sound.holds ∙ there.unspent_is)

  pub has_row : (n p : ℕ) → AtLow t (λ s. names s n ≡ true) p → has_number n a.rows ≡ true
  has_row n p at = sym (number_found t agrees n (Some p) at)

  names_it : (s : State) (n p : ℕ) → names s n ≡ true → AtLow t (λ x. x ≡ s) p → AtLow t (λ x. names x n ≡ true) p
  names_it s n p named at = (at.0, subst (λ x. names x n ≡ true) (sym at.1) named)

  -- what the account says of a row is the state at its place
  pub state_is : (n : ℕ) (s : State) → StateHere t n s → StateOf a n s
  state_is n Free none = sym (number_found t agrees n None none)
  state_is n (Held m) (same, there) =
      let at : AtLow t (λ s. s ≡ Held n) there.0 = (there.1.0.0, there.1.1 ∙ ap Held same) in
      (same, has_row n there.0 (names_it (Held n) n there.0 (eq-eqb n n refl) at), is_held n there.0 at)
  state_is n (Kept m) (same, there) =
      let at : AtLow t (λ s. s ≡ Kept n) there.0 = (there.1.0.0, there.1.1 ∙ ap Kept same) in
      (same, has_row n there.0 (names_it (Kept n) n there.0 (eq-eqb n n refl) at), (is_spent n there.0 at).1)

  -- a kept row may be withdrawn
  pub may_withdraw : (n p : ℕ) → AtLow t (λ s. s ≡ Kept n) p → first (withdraw_checks a n) ≡ 0
  may_withdraw n p at = withdraw_passes (has_number n a.rows) (has_hold_on n a.holds) (has_row n p (names_it (Kept n) n p (eq-eqb n n refl) at)) (is_spent n p at).1

  -- and one that is not kept may not
  pub not_withdrawn : (n : ℕ) (e : WithdrawRefusal) → NoneKept t n e → first (withdraw_checks a n) ≡ withdraw_number e
  not_withdrawn n NoSuchRow none = no_row_applies (has_number n a.rows) (has_hold_on n a.holds) (sym (number_found t agrees n None none))
  not_withdrawn n NotKept there =
      let at : AtLow t (λ s. s ≡ Held n) there.0 = (there.1.0.0, there.1.1) in
      held_applies (has_number n a.rows) (has_hold_on n a.holds) (has_row n there.0 (names_it (Held n) n there.0 (eq-eqb n n refl) at)) (is_held n there.0 at)

  -- a hold is unspent exactly where its row is held here
  pub still_ours : (h : Hold) (p : ℕ) → HeldHere t h p → has_unspent h.table h.row a.holds ≡ true
  still_ours h p here = rw (here.0, ← agrees.number_is) (held_at h.row p (here.1.0.0, here.1.1)).unspent_is

  -- so it may be spent
  pub may_spend : (h : Hold) (p : ℕ) → HeldHere t h p → first (spend_checks a h) ≡ 0
  may_spend h p here = unspent_passes (has_unspent h.table h.row a.holds) (still_ours h p here)

  -- an unspent hold is of this table, and of one of its rows
  ours : (h : Hold) → has_unspent h.table h.row a.holds ≡ true → h.table ≡ a.number
  ours h e = unspent_own a.number a.rows h.table h.row a.holds agrees.sound.holds e

  pub not_ours : (h : Hold) → h.table ≢ t.number → has_unspent h.table h.row a.holds ≡ false
  not_ours h other = false_from_ne_true (has_unspent h.table h.row a.holds) (λ e. other (ours h e ∙ agrees.number_is))

  pub no_row : (n : ℕ) → ((p : ℕ) → At t (λ s. names s n ≡ true) p → ⊥) → has_unspent t.number n a.holds ≡ false
  no_row n none =
      let absent : false ≡ has_number n a.rows = number_found t agrees n None none in
      false_from_ne_true (has_unspent t.number n a.holds)
      (λ e. both_ways (has_number n a.rows) (sym absent) (unspent_row a.number a.rows a.number n a.holds agrees.sound.holds (rw agrees.number_is e)))

  pub not_unspent : (h : Hold) → ((p : ℕ) → HeldHere t h p → ⊥) → has_unspent h.table h.row a.holds ≡ false
  not_unspent h away = false_from_ne_true (has_unspent h.table h.row a.holds) (λ e. both_ways (has_number h.row (claims_of demand (tasks t))) (gone e) (there e))
    where
      by_row : has_unspent h.table h.row a.holds ≡ true → has_unspent a.number h.row a.holds ≡ true
      by_row e = subst (λ (m : ℕ). has_unspent m h.row a.holds ≡ true) (ours h e) e

      there : has_unspent h.table h.row a.holds ≡ true → has_number h.row (claims_of demand (tasks t)) ≡ true
      there e =
          number_permuted h.row agrees.rows_are
          ∙ unspent_row a.number a.rows a.number h.row a.holds agrees.sound.holds (by_row e)

      gone : has_unspent h.table h.row a.holds ≡ true → has_number h.row (claims_of demand (tasks t)) ≡ false
      gone e =
          or_from_places (λ os. has_number h.row (claims_of demand os)) (named h.row) refl (named_more demand h.row) (tasks t) None
          (λ i l.
          let all = length-take 12 t.places.now in
          let low : i < 12 = omega arith in
          false_from_ne_true (named h.row (task_at t i))
          (λ q. away i (ours h e ∙ agrees.number_is, ((low, omega arith), is_held_there a h.row (state_at t i) (task_at t i) (agrees.at_each i low) q (by_row e)))))

  -- a hold whose row is not held here comes back, and the account is as it was
  pub comes_back : (h : Hold) (after : Account) (r : Result (Unit {0}) SpendRefusal) → r ≡ Err (NotHeld h) → ((p : ℕ) → HeldHere t h p → ⊥) → (b : Account) × Spends a h after r b × AgreesWith demand b t
  comes_back h after r is away = (a, rw is (spent_applies (has_unspent h.table h.row a.holds) (not_unspent h away), refl, refl), agrees)
