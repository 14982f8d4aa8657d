-- A hold in hand is spent without refusal, and some account agrees after each call. Assumes nothing.
use Rattle.std.specs.List.{list_any}
use Rattle.std.proofs.Common.{◌≡◌, ℕ, zero, suc, ◌<◌, inl, inr, slice_index_or, length, true, false, ◌==◌, List, [], ◌∷◌, IfErr, IfOk, IsOk, Ok, Err, Result, ap, ◌∙◌, sym, subst, refl, arith}
use Rattle.std.proofs.Math.Logic.{∥∥₁_elim, ∥∥₁_map}
use Rattle.std.proofs.lemmas.Bool.{cases_Bool, and_from, both_ways, eq-eqb, or_left, eqb-true, or_right}
use Rattle.std.specs.Coded.{Coded-set, coded_bool, coded_ℕ}
use Rattle.analysis.specs.declared.judgement.JudgeRefusal.{JudgeRefusal}
use Rattle.analysis.specs.declared.answers.Answers.{Answers}
use Rattle.analysis.specs.Judge.{Answered, answers_of}
use Rattle.analysis.specs.Ranks.{Claim, loads, ranking}
use Rattle.demand.specs.Demand.{Demand}
use Rattle.table.specs.declared.hold.Hold.{Hold}
use Rattle.table.specs.declared.refusals.HoldRefusal.{HoldRefusal}
use Rattle.table.specs.declared.refusals.SpendRefusal.{SpendRefusal}
use Rattle.table.specs.declared.refusals.SpendRefusal.TheVariants.{NotHeld}
use Rattle.table.specs.declared.Table.{Table}
use Rattle.table.specs.declared.refusals.WithdrawRefusal.{WithdrawRefusal}
use Rattle.table.specs.Account.{Accepted, Account, Bears, Holds, Spends, Withdraws, bears, has_number, number_of, has_unspent, with_row}
use Rattle.table.specs.Agreement.{AgreesWith}
use Rattle.table.specs.History.{Continues, HasSomeHistory, account_of}
use Rattle.table.specs.Places.{has_held, is_held, HeldHere}
use Rattle.table.specs.Runs.{keeping, releasing}
use Rattle.table.specs.declared.state.State.{State}
use Rattle.table.specs.declared.state.State.TheVariants.{Free, Held, Kept}
use Rattle.table.proofs.Checks.{is_not_unspent, spent_applies}
use Rattle.table.proofs.Histories.{continues}
use Rattle.table.proofs.Lookups.{within}
use Rattle.table.proofs.Spending.{held_at, not_unspent, still_ours}

module _ {K : Type 0} (demand : K → Demand) (t : Table K) where
  -- some account agrees with the table
  pub record Accounted : Type 0 where
    pub account : Account
    pub agrees : AgreesWith demand account t

  -- some account agrees with the table and has the hold among its unspent ones
  pub record Holding (h : Hold) : Type 0 where
    pub account : Account
    pub agrees : AgreesWith demand account t
    pub unspent_yet : has_unspent h.table h.row account.holds ≡ true

  -- that some account agrees, and nothing of which one
  abbrev pub IsAccounted : Type 0
  IsAccounted = ∥ Accounted ∥₁

  -- that the hold is an unspent one of the table, and nothing of which account says so
  abbrev pub IsHolding : Hold → Type 0
  IsHolding h = ∥ Holding h ∥₁

-- a table that has been through some calls has such an account
pub accounted_of : {K : Type 0} (demand : K → Demand) (t : Table K) → HasSomeHistory demand t → IsAccounted demand t
accounted_of demand t known = ∥∥₁_map known (λ k. record { account = account_of k.0 t; agrees = k.1.agrees })

abbrev hold_of : ℕ → ℕ → Hold
hold_of table row = record { table = table; row = row }

abbrev bears_of : Hold → Bears
bears_of h = record { table = h.table; row = h.row }

pub same_numbers : (g h : Hold) → g.table ≡ h.table → g.row ≡ h.row → g ≡ h
same_numbers g h table row = ap (λ n. hold_of n g.row) table ∙ ap (hold_of h.table) row

pub none_has : (n : ℕ) (cs : List Claim) → has_number n cs ≡ false → has_number n cs ≡ true → ⊥
none_has n cs none e = both_ways (has_number n cs) none e

-- a hold that was accepted bears the two numbers that the account has of it
pub given_bears : (a : Account) (c : Claim) (h : Hold) → Accepted a c h → bears h.table h.row (record { table = a.number; row = number_of c }) ≡ true
given_bears a c h accepted =
    and_from (a.number == h.table) (number_of c == h.row)
    (eq-eqb a.number h.table (sym accepted.table))
    (eq-eqb (number_of c) h.row (sym accepted.row))

given : (a : Account) (c : Claim) (h : Hold) → Accepted a c h → has_unspent h.table h.row (with_row a c).holds ≡ true
given a c h accepted =
    or_left (bears h.table h.row (record { table = a.number; row = number_of c })) (has_unspent h.table h.row a.holds) (given_bears a c h accepted)

pub same_holds : (a b : Account) (n : ℕ) (r : Result (Unit {0}) WithdrawRefusal) → Withdraws a n r b → b.holds ≡ a.holds
same_holds a b n (Ok u) w = ap (λ (x : Account). x.holds) w.1
same_holds a b n (Err e) w = ap (λ (x : Account). x.holds) w.1

-- a state of a held row is at a place, if any has it
held_place : (states : List State) (n : ℕ) → list_any (is_held n) states ≡ true → (p : ℕ) × (p < length states) × (slice_index_or states p Free ≡ Held n)
held_place [] n e = cc
held_place (s ∷ states) n e = elim (cases_Bool (is_held n s)) [
  | inl here ↦ (0, omega arith, state_is s here)
  | inr other ↦
      let f = held_place states n (rw other at e) in
      (suc f.0, let l = f.1 in omega arith, f.2)
]
  where
    state_is : (s : State) → is_held n s ≡ true → s ≡ Held n
    state_is Free e = cc
    state_is (Held m) e = ap Held (eqb-true m n e)
    state_is (Kept m) e = cc

held_at_place : (states : List State) (n p : ℕ) → slice_index_or states p Free ≡ Held n → list_any (is_held n) states ≡ true
held_at_place [] n p e = cc
held_at_place (s ∷ states) n zero e = rw e (or_left (n == n) (list_any (is_held n) states) (eq-eqb n n refl))
held_at_place (s ∷ states) n (suc p) e = or_right (is_held n s) (list_any (is_held n) states) (held_at_place states n p e)

-- a call that makes the table t the table u
module _ {K : Type 0} (demand : K → Demand) (t u : Table K) where
  -- it turns each account of t into one of u, by the relation R
  abbrev pub Turns : (Account → Account → Type 0) → Type 0
  Turns R = (a : Account) → AgreesWith demand a t → (b : Account) × R a b × AgreesWith demand b u

  pub still_accounted : (R : Account → Account → Type 0) → Turns R → IsAccounted demand t → IsAccounted demand u
  still_accounted R f known = ∥∥₁_map known (λ k.
      let p = f k.account k.agrees in
      record { account = p.0; agrees = p.2 })

  module _ (c : Claim) where
    pub taken : (r : Result Hold HoldRefusal) → Turns (λ a b. Holds a c r b) → IsAccounted demand t → IfOk r (λ h. IsHolding demand u h)
    taken (Ok h) f known = ∥∥₁_map known (λ k.
        let p = f k.account k.agrees in
        record {
          account = p.0;
          agrees = p.2;
          unspent_yet = ap (λ (x : Account). has_unspent h.table h.row x.holds) p.1.1 ∙ given k.account c h p.1.0;
        })
    taken (Err e) f known = tt

  -- a call of keep or release, where `after` is the account with the hold spent
  module _ (h : Hold) (after : Account → Account) where
    -- a hold in hand is not refused
    pub not_refused : (r : Result (Unit {0}) SpendRefusal) → Turns (λ a b. Spends a h (after a) r b) → IsHolding demand t h → IsOk r
    not_refused (Ok x) f known = refl
    not_refused (Err (NotHeld back)) f known =
        ∥∥₁_elim known (Coded-set coded_bool _ _) (λ k. absurd (both_ways _ (is_not_unspent (has_unspent h.table h.row k.account.holds) (f k.account k.agrees).1.0) k.unspent_yet))

    -- what a refusal hands back is the hold that was passed
    pub same_hold : (r : Result (Unit {0}) SpendRefusal) → Turns (λ a b. Spends a h (after a) r b) → IsAccounted demand t → IfErr r (λ e. e ≡ NotHeld h)
    same_hold (Ok x) f known = tt
    same_hold (Err (NotHeld back)) f known =
        ap NotHeld (
        same_numbers back h
        (∥∥₁_elim known (Coded-set coded_ℕ _ _) (λ k. ap (λ (x : Hold). x.table) (f k.account k.agrees).1.1))
        (∥∥₁_elim known (Coded-set coded_ℕ _ _) (λ k. ap (λ (x : Hold). x.row) (f k.account k.agrees).1.1)))

-- what is answered for all rows is never an error
pub answers_all : {K : Type 0} (demand : K → Demand) (t : Table K) (r : Result Answers JudgeRefusal) → ((a : Account) → AgreesWith demand a t → (all : Answers) × (r ≡ Ok all) × Answered (loads (ranking a.rows)) (answers_of all)) → IsAccounted demand t → IsOk r
answers_all demand t r f known =
    ∥∥₁_elim known (Coded-set coded_bool _ _) (λ k. subst (λ x. IsOk x) (sym (f k.account k.agrees).1) refl)

module _ {K : Type 0} {demand : K → Demand} {a : Account} (t : Table K) (agrees : AgreesWith demand a t) where
  -- a row stands as held exactly where its hold is unspent
  pub has_held_is : (n : ℕ) → has_held t n ≡ has_unspent t.number n a.holds
  has_held_is n = elim (cases_Bool (has_held t n)) [
    | inl there ↦
        let at = held_place t.states n there in
        there ∙ sym (still_ours t agrees (hold_of t.number n) at.0 (held_here at.0 at.1 at.2))
    | inr none ↦ none ∙ sym (not_unspent t agrees (hold_of t.number n) (λ p here. both_ways (has_held t n) none (held_at_place t.states n p here.1.1)))
  ]
    where
      held_here : (p : ℕ) → p < length t.states → slice_index_or t.states p Free ≡ Held n → HeldHere t (hold_of t.number n) p
      held_here p l e =
          let low : p < 12 = let all = agrees.states_are in omega arith in
          let it = held_at t agrees n p (low, e) in
          (refl, ((low, within t p it.task it.stands), e))

-- a hold that no account has unspent is refused, and nothing changes
module _ {K : Type 0} (demand : K → Demand) (t : Table K) (h : Hold) (spent_yet : (a : Account) → AgreesWith demand a t → has_unspent h.table h.row a.holds ≡ false) where
  pub keep_refused : Continues demand (keeping h (Err (NotHeld h))) t t
  keep_refused = continues demand t t (keeping h (Err (NotHeld h))) (λ a agrees. (a, (spent_applies (has_unspent h.table h.row a.holds) (spent_yet a agrees), refl, refl), agrees))

  pub release_refused : Continues demand (releasing h (Err (NotHeld h))) t t
  release_refused = continues demand t t (releasing h (Err (NotHeld h))) (λ a agrees. (a, (spent_applies (has_unspent h.table h.row a.holds) (spent_yet a agrees), refl, refl), agrees))
