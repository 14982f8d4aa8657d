-- Which rows stand as held after a call. Assumes nothing.
use Rattle.std.proofs.Common.{◌≡◌, ℕ, Bool, true, false, ◌==◌, not, ◌&&◌, ◌||◌, MatchResult, Ok, Err, Result, sym, ap, ◌∙◌, subst, inl, inr, arith, eqb-true}
use Rattle.std.proofs.Math.Logic.{∥∥₁_elim}
use Rattle.std.specs.Coded.{Coded-set, coded_bool, coded_ℕ}
use Rattle.std.proofs.lemmas.Bool.Decides.{nat_tests}
use Rattle.std.proofs.lemmas.Bool.{cases_Bool, both_ways, false_from_ne_true}
use Rattle.demand.specs.Demand.{Demand}
use Rattle.demand.specs.Refusals.{first}
use Rattle.analysis.specs.Ranks.{Claim}
use Rattle.table.specs.declared.hold.Hold.{Hold}
use Rattle.table.specs.declared.refusals.HoldRefusal.{HoldRefusal}
use Rattle.table.specs.declared.refusals.SpendRefusal.{SpendRefusal}
use Rattle.table.specs.declared.refusals.SpendRefusal.TheVariants.{NotHeld}
use Rattle.table.specs.declared.refusals.WithdrawRefusal.{WithdrawRefusal}
use Rattle.table.specs.declared.Table.{Table}
use Rattle.table.specs.Account.{Account, Holds, Spends, Withdraws, hold_of, number_of, spend_checks, without_hold, has_unspent}
use Rattle.table.specs.Agreement.{AgreesWith}
use Rattle.table.specs.Places.{has_held}
use Rattle.table.proofs.Checks.{is_not_unspent, is_unspent}
use Rattle.table.proofs.InHand.{IsAccounted, Turns, has_held_is, none_has, same_hold, same_holds}
use Rattle.table.proofs.Parts.{others_stay, unspent_own, unspent_row}
use Rattle.table.proofs.Shared.{passed}
use Rattle.table.proofs.Spending.{spent_gone}
use Rattle.runs.proofs.Frame.{same_number}
use Rattle.runs.specs.Holds.{frame_of, GivesHoldOn, HandsBack, SameHeld, SpendsHoldOn}

module _ {K : Type 0} (demand : K → Demand) (t u : Table K) (known : IsAccounted demand t) where
  -- what follows about numbers and tests from any account of the table before follows
  pub number_from : (m n : ℕ) → ((a : Account) → AgreesWith demand a t → m ≡ n) → m ≡ n
  number_from m n f = ∥∥₁_elim known (Coded-set coded_ℕ _ _) (λ k. f k.account k.agrees)

  test_from : (x y : Bool) → ((a : Account) → AgreesWith demand a t → x ≡ y) → x ≡ y
  test_from x y f = ∥∥₁_elim known (Coded-set coded_bool _ _) (λ k. f k.account k.agrees)

  -- the same holds are unspent
  same_held : (R : Account → Account → Type 0) → Turns demand t u R → frame_of u ≡ frame_of t → ((a b : Account) → R a b → b.holds ≡ a.holds) → SameHeld t u
  same_held R turns frame same = record {
    frame = frame;
    held = λ n. test_from (has_held u n) (has_held t n) (λ a agrees.
        let p = turns a agrees in
        has_held_is u p.2 n
        ∙ ap (has_unspent u.number n) (same a p.0 p.1)
        ∙ ap (λ m. has_unspent m n a.holds) (same_number t u frame)
        ∙ sym (has_held_is t agrees n));
  }

  pub gives : (c : Claim) (r : Result Hold HoldRefusal) → Turns demand t u (λ a b. Holds a c r b) → frame_of u ≡ frame_of t → MatchResult r (GivesHoldOn t u (number_of c)) (λ e. SameHeld t u)
  gives c (Ok h) turns frame =
      let number = same_number t u frame in
      record {
        frame = frame;
        table = number_from h.table t.number (λ a agrees. (turns a agrees).1.0.table ∙ agrees.number_is);
        row = number_from h.row (number_of c) (λ a agrees. (turns a agrees).1.0.row);
        was = test_from (has_held t (number_of c)) false (λ a agrees.
            let passes = (turns a agrees).1.0.passes in
            has_held_is t agrees (number_of c)
            ∙ false_from_ne_true (has_unspent t.number (number_of c) a.holds) (λ e.
            none_has (number_of c) a.rows (passed a c passes).number (unspent_row a.number a.rows t.number (number_of c) a.holds agrees.sound.holds e)));
        held = λ m. test_from (has_held u m) ((number_of c == m) || has_held t m) (λ a agrees.
            let p = turns a agrees in
            has_held_is u p.2 m
            ∙ ap (λ (x : Account). has_unspent u.number m x.holds) p.1.1
            ∙ more a.number u.number m (has_unspent u.number m a.holds) (agrees.number_is ∙ sym number)
            ∙ ap (λ b. (number_of c == m) || b) (ap (λ n. has_unspent n m a.holds) number ∙ sym (has_held_is t agrees m)));
      }
    where
      more : (x y m : ℕ) (b : Bool) → x ≡ y → (((x == y) && (number_of c == m)) || b) ≡ ((number_of c == m) || b)
      more x y m b e = grind (arith, nat_tests)
  gives c (Err e) turns frame = same_held (λ a b. Holds a c (Err e) b) turns frame (λ a b s. ap (λ (x : Account). x.holds) s.1)

  -- keep and release, where `after` is the account with the hold spent
  pub spends : (h : Hold) (after : Account → Account) → ((a : Account) → (after a).holds ≡ without_hold h.table h.row a.holds) → (r : Result (Unit {0}) SpendRefusal) → Turns demand t u (λ a b. Spends a h (after a) r b) → frame_of u ≡ frame_of t → MatchResult r (λ _. SpendsHoldOn t u h) (HandsBack t u h)
  spends h after holds_after (Ok x) turns frame =
      let number = same_number t u frame in
      record {
        frame = frame;
        table = number_from h.table t.number (λ a agrees. owned a agrees (turns a agrees).1.0 ∙ agrees.number_is);
        was = test_from (has_held t h.row) true (λ a agrees.
            let passes = (turns a agrees).1.0 in
            has_held_is t agrees h.row
            ∙ ap (λ n. has_unspent n h.row a.holds) (sym (owned a agrees passes ∙ agrees.number_is))
            ∙ is_unspent (has_unspent h.table h.row a.holds) passes);
        held = λ m. test_from (has_held u m) (not (h.row == m) && has_held t m) (λ a agrees.
            let p = turns a agrees in
            let own : h.table ≡ a.number = owned a agrees p.1.0 in
            has_held_is u p.2 m
            ∙ ap (has_unspent u.number m) (ap (λ (y : Account). y.holds) p.1.1 ∙ holds_after a)
            ∙ left a m (own ∙ agrees.number_is ∙ sym number)
            ∙ ap (λ b. not (h.row == m) && b) (ap (λ n. has_unspent n m a.holds) number ∙ sym (has_held_is t agrees m)));
      }
    where
      owned : (a : Account) → AgreesWith demand a t → first (spend_checks a h) ≡ 0 → h.table ≡ a.number
      owned a agrees passes = unspent_own a.number a.rows h.table h.row a.holds agrees.sound.holds (is_unspent (has_unspent h.table h.row a.holds) passes)

      left : (a : Account) (m : ℕ) → h.table ≡ u.number → has_unspent u.number m (without_hold h.table h.row a.holds) ≡ (not (h.row == m) && has_unspent u.number m a.holds)
      left a m own = elim (cases_Bool (h.row == m)) [
        | inl e ↦
            rw e
            (subst (λ n. has_unspent u.number n (without_hold h.table h.row a.holds) ≡ false) (eqb-true h.row m e)
            (subst (λ n. has_unspent n h.row (without_hold h.table h.row a.holds) ≡ false) own (spent_gone h.table h.row a.holds)))
        | inr e ↦ rw e (others_stay h.table h.row u.number m a.holds (λ q. both_ways (h.row == m) e (grind (arith, nat_tests))))
      ]
  spends h after holds_after (Err (NotHeld back)) turns frame = record {
    same = ap hold_of (same_hold demand t u h after (Err (NotHeld back)) turns known);
    why = λ ours. test_from (has_held t h.row) false (λ a agrees.
        has_held_is t agrees h.row
        ∙ ap (λ n. has_unspent n h.row a.holds) (sym ours)
        ∙ is_not_unspent (has_unspent h.table h.row a.holds) (turns a agrees).1.0);
    held = same_held (λ a b. Spends a h (after a) (Err (NotHeld back)) b) turns frame (λ a b s. ap (λ (x : Account). x.holds) s.2);
  }

  pub withdraws : (n : ℕ) (r : Result (Unit {0}) WithdrawRefusal) → Turns demand t u (λ a b. Withdraws a n r b) → frame_of u ≡ frame_of t → SameHeld t u
  withdraws n r turns frame = same_held (λ a b. Withdraws a n r b) turns frame (λ a b w. same_holds a b n r w)
