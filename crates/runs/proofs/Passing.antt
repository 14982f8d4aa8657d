-- A row that is held and at once kept, or at once given up. Assumes nothing.
use Rattle.std.proofs.Common.{◌≡◌, ℕ, true, false, List, [], ◌∷◌, IsOk, Ok, Err, Result, refl, ap, ◌∙◌, subst, arith}
use Rattle.std.proofs.Math.Path.{ap₂}
use Rattle.std.proofs.lemmas.Bool.Decides.{nat_tests}
use Rattle.std.proofs.lemmas.Bool.{eq-eqb, false_from_ne_true}
use Rattle.demand.specs.Demand.{Demand}
use Rattle.demand.specs.Refusals.{first}
use Rattle.analysis.specs.declared.answers.Answers.{Answers}
use Rattle.analysis.specs.Ranks.{Claim}
use Rattle.table.specs.declared.hold.Hold.{Hold}
use Rattle.table.specs.declared.refusals.HoldRefusal.{HoldRefusal}
use Rattle.table.specs.declared.refusals.SpendRefusal.{SpendRefusal}
use Rattle.table.specs.declared.Table.{Table}
use Rattle.table.specs.Account.{Account, Accepted, Bears, bears, HoldsAnswered, Spends, hold_checks, number_of, without_hold, has_unspent, with_kept, with_released, with_row, without_row}
use Rattle.table.specs.Agreement.{AgreesWith, Sound}
use Rattle.table.proofs.Changes.{without_none}
use Rattle.table.proofs.InHand.{IsAccounted, Turns, none_has, not_refused, same_numbers, taken}
use Rattle.table.proofs.Parts.{unspent_row}
use Rattle.table.proofs.Shared.{passed}
use Rattle.runs.specs.Calls.{on_row}
use Rattle.runs.proofs.Held.{number_from}
use Rattle.runs.specs.Passing.{GivesRowUp, KeepsRow, Passes, hold_on}
use Rattle.runs.specs.declared.call.Way.{Way}
use Rattle.runs.specs.declared.call.Way.TheVariants.{GiveUp, KeepRow}

-- a row that passes the checks has no hold yet
none_unspent : (a : Account) → Sound a → (c : Claim) → first (hold_checks a c) ≡ 0 → (table : ℕ) → has_unspent table (number_of c) a.holds ≡ false
none_unspent a s c passes table =
    false_from_ne_true (has_unspent table (number_of c) a.holds)
    (λ e. none_has (number_of c) a.rows (passed a c passes).number (unspent_row a.number a.rows table (number_of c) a.holds s.holds e))

spent_none : (table n : ℕ) (hs : List Bears) → has_unspent table n hs ≡ false → without_hold table n hs ≡ hs
spent_none table n [] e = refl
spent_none table n (h ∷ hs) e = grind (arith, nat_tests, spent_none table n hs)

-- a row that enters and goes out again leaves nothing behind
out_again : (a : Account) → Sound a → (c : Claim) → first (hold_checks a c) ≡ 0 → with_released (with_row a c) (hold_on a c) ≡ a
out_again a s c passes =
    ap₂ (λ (rows : List Claim) (holds : List Bears). with_these rows holds) (rows_again (number_of c) refl) (holds_again (number_of c) (none_unspent a s c passes a.number))
  where
    with_these : List Claim → List Bears → Account
    with_these rows holds = record { number = a.number; room = a.room; rows = rows; holds = holds }

    rows_again : (n : ℕ) → number_of c ≡ n → without_row n (c ∷ a.rows) ≡ a.rows
    rows_again n e = rw (eq-eqb (number_of c) n e) (without_none n a.rows (rw (← e) (passed a c passes).number))

    bears_both : (table n : ℕ) → bears table n (record { table = table; row = n }) ≡ true
    bears_both table n = grind (arith, nat_tests)

    holds_again : (n : ℕ) → has_unspent a.number n a.holds ≡ false → without_hold a.number n (record { table = a.number; row = n } ∷ a.holds) ≡ a.holds
    holds_again n none = rw (bears_both a.number n) (spent_none a.number n a.holds none)

-- the hold that was given bears the two numbers
given_is : (a : Account) (c : Claim) (h : Hold) → Accepted a c h → h ≡ hold_on a c
given_is a c h accepted = same_numbers h (hold_on a c) accepted.table accepted.row

accepted_so : (a : Account) (c : Claim) (h : Hold) → Accepted a c h → Accepted a c (hold_on a c)
accepted_so a c h accepted = record { passes = accepted.passes; in_time = accepted.in_time; table = refl; row = refl }

-- a call of hold makes t into u, and one of keep or release makes u into v
module _ {K : Type 0} (demand : K → Demand) (t u v : Table K) (c : Claim) (h : Hold) (all : Answers) (held : Turns demand t u (λ a b. HoldsAnswered a c (Ok (h, all)) b)) where
  module _ (after : Account → Account) (r : Result (Unit {0}) SpendRefusal) (spends : Turns demand u v (λ a b. Spends a h (after a) r b)) where
    -- the second is not refused
    pub spent_at_once : IsAccounted demand t → IsOk r
    spent_at_once known =
        not_refused demand u v h after r spends
        (taken demand t u c (Ok h) (λ a agrees. let p = held a agrees in (p.0, p.1.0, p.2)) known)

    both : r ≡ Ok tt → (a : Account) → AgreesWith demand a t → (b : Account) × (b ≡ after (with_row a c)) × AgreesWith demand b v
    both ok a agrees =
        let p = held a agrees in
        let q = spends p.0 p.2 in
        let done : Spends p.0 h (after p.0) (Ok tt) q.0 = subst (λ x. Spends p.0 h (after p.0) x q.0) ok q.1 in
        (q.0, done.1 ∙ ap after p.1.0.1, q.2)

  pub keeps_row : (r : Result (Unit {0}) SpendRefusal) → Turns demand u v (λ a b. Spends a h (with_kept a h) r b) → r ≡ Ok tt → (a : Account) → AgreesWith demand a t → (b : Account) × KeepsRow a c (Ok all) b × AgreesWith demand b v
  keeps_row r spends ok a agrees =
      let p = held a agrees in
      let q = both (λ x. with_kept x h) r spends ok a agrees in
      (q.0, ((accepted_so a c h p.1.0.0, p.1.1), q.1 ∙ ap (with_kept (with_row a c)) (given_is a c h p.1.0.0)), q.2)

  pub gives_row_up : (r : Result (Unit {0}) SpendRefusal) → Turns demand u v (λ a b. Spends a h (with_released a h) r b) → r ≡ Ok tt → (a : Account) → AgreesWith demand a t → (b : Account) × GivesRowUp a c (Ok all) b × AgreesWith demand b v
  gives_row_up r spends ok a agrees =
      let p = held a agrees in
      let q = both (λ x. with_released x h) r spends ok a agrees in
      (q.0, ((accepted_so a c h p.1.0.0, p.1.1), q.1 ∙ ap (with_released (with_row a c)) (given_is a c h p.1.0.0) ∙ out_again a agrees.sound c p.1.0.0.passes), q.2)

-- in both ways a refusal is that of the hold
pub refused_alike : (way : Way) (a : Account) (c : Claim) (e : HoldRefusal) (b : Account) → HoldsAnswered a c (Err e) b → Passes way a c (Err e) b
refused_alike KeepRow a c e b refused = refused
refused_alike GiveUp a c e b refused = refused

-- the hold that was given bears the table's number and the row's
pub given_here : {K : Type 0} (demand : K → Demand) (t u : Table K) (c : Claim) (h : Hold) (all : Answers) → Turns demand t u (λ a b. HoldsAnswered a c (Ok (h, all)) b) → IsAccounted demand t → h ≡ on_row t.number (number_of c)
given_here demand t u c h all held known =
    same_numbers h (on_row t.number (number_of c))
    (number_from demand t u known h.table t.number (λ a agrees. (held a agrees).1.0.0.table ∙ agrees.number_is))
    (number_from demand t u known h.row (number_of c) (λ a agrees. (held a agrees).1.0.0.row))
