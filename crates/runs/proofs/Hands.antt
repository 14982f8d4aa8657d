-- Holds that come to hand, stay and go. Assumes nothing.
use Rattle.std.proofs.Common.{◌≡◌, ◌≢◌, ℕ, zero, suc, ◌+◌, ◌<◌, Bool, true, false, ◌==◌, not, ◌&&◌, ◌||◌, List, [], ◌∷◌, ◌++◌, length, slice_index_or, take, drop, None, Some, Option, Ok, Err, IsErr, IsOk, MatchResult, Result, sym, refl, ap, ◌∙◌, subst, inl, inr, arith, eqb-true}
use Rattle.std.specs.List.{All, AllPairs, list_any, insert, position, position_from, remove}
use Rattle.std.proofs.lemmas.Iterator.Adapters.{position_from-zero}
use Rattle.std.proofs.lemmas.Bool.{and_from, and_parts, cases_Bool, both_ways, eq-eqb, ne_eqb, false_from_ne_true}
use Rattle.std.proofs.lemmas.List.Elements.{All-append, All-drop, All-push, All-take}
use Rattle.std.proofs.lemmas.List.Folds.{Any-from_list_any, list_any-append, list_any_at, list_any_none}
use Rattle.std.proofs.lemmas.List.Quantifiers.{all_pairs_push, all_pairs_remove, position-Some}
use Rattle.std.proofs.Math.Logic.{∥∥₁_elim}
use Rattle.std.specs.Coded.{Coded-set, coded_bool}
use Rattle.demand.specs.Demand.{Demand}
use Rattle.table.specs.History.{Continues, HasHistory}
use Rattle.table.proofs.InHand.{has_held_is, keep_refused, release_refused}
use Rattle.table.proofs.Spending.{not_ours}
use Rattle.table.specs.declared.refusals.SpendRefusal.{SpendRefusal}
use Rattle.table.specs.declared.refusals.SpendRefusal.TheVariants.{NotHeld}
use Rattle.table.specs.Account.{Account, hold_of, has_unspent}
use Rattle.table.specs.Agreement.{AgreesWith}
use Rattle.runs.specs.declared.call.Way.{Way}
use Rattle.runs.specs.declared.call.Way.TheVariants.{KeepRow, GiveUp}
use Rattle.runs.specs.Calls.{on_row, spending}
use Rattle.table.specs.declared.hold.Hold.{Hold}
use Rattle.table.specs.declared.Table.{Table}
use Rattle.table.specs.Places.{has_held}
use Rattle.runs.proofs.Frame.{same_number}
use Rattle.runs.specs.Holds.{GivesHoldOn, HandsBack, InHand, SameHeld, SpendsHoldOn, has_hold, is_on, is_token}

-- no hold is in hand at a table that was just made
pub none_in_hand : {K : Type 0} (demand : K → Demand) (t : Table K) → HasHistory demand [] t → InHand t []
none_in_hand demand t known = record {
  own = λ i d l. absurd (omega arith);
  apart = λ i j d below l. absurd (omega arith);
  exactly = λ n. ∥∥₁_elim known (Coded-set coded_bool _ _) (λ h. has_held_is t h.agrees n);
}

-- holds on rows apart
abbrev RowsApart : Hold → Hold → Type 0
RowsApart g h = g.row ≢ h.row

-- none of these is on the row n
none_on : (n : ℕ) (hs : List Hold) → has_hold n hs ≡ false → (i : ℕ) (d : Hold) → i < length hs → (slice_index_or hs i d).row ≢ n
none_on n hs none i d l e = both_ways (has_hold n hs) none (list_any_at (is_on n) hs i d l (eq-eqb (slice_index_or hs i d).row n e))

-- where no two are on one row, none of the rest is on the row of one that goes
gone : (hs : List Hold) (i : ℕ) (d : Hold) → i < length hs → AllPairs RowsApart hs → (m : ℕ) → has_hold m (remove hs i) ≡ (not ((slice_index_or hs i d).row == m) && has_hold m hs)
gone [] i d l apart m = absurd (omega arith)
gone (h ∷ hs) zero d l apart m = elim (cases_Bool (h.row == m)) [
  | inl e ↦ rw e (list_any_none (is_on m) hs (λ k x q. ne_eqb (slice_index_or hs k x).row m (λ f. apart 0 (suc k) x (omega arith) (omega arith) (eqb-true h.row m e ∙ sym f))))
  | inr e ↦ rw e refl
]
gone (h ∷ hs) (suc i) d l apart m =
    let rest = gone hs i d (omega arith) (λ j k x below q. apart (suc j) (suc k) x (omega arith) (omega arith)) m in
    elim (cases_Bool (h.row == m)) [
      | inl e ↦
          let other : ((slice_index_or hs i d).row == m) ≡ false = ne_eqb (slice_index_or hs i d).row m (λ f. apart 0 (suc i) d (omega arith) l (eqb-true h.row m e ∙ sym f)) in
          rw (e, other) refl
      | inr e ↦ rw e rest
    ]

-- what holds of all holds of those that are left when one goes
left : {A : Type 0} (P : A → Type 0) (xs : List A) (i : ℕ) → All P xs → All P (remove xs i)
left P xs i all = All-append P (take i xs) (drop (suc i) xs) (All-take P i xs all) (All-drop P (suc i) xs all)

flip : (x y : Bool) → (x || y) ≡ (y || (x || false))
flip x y = grind arith

module _ {K : Type 0} (t u : Table K) (hs : List Hold) (known : InHand t hs) where
  own_still : u.number ≡ t.number → All (λ h. h.table ≡ u.number) hs
  own_still e = λ i d l. known.own i d l ∙ sym e

  pub same_in_hand : SameHeld t u → InHand u hs
  same_in_hand same = record { own = own_still (same_number t u same.frame); apart = known.apart; exactly = λ n. same.held n ∙ known.exactly n }

  pub one_more : (n : ℕ) (h : Hold) → GivesHoldOn t u n h → InHand u (hs ++ h ∷ [])
  one_more n h given = record {
    own = All-push (λ x. x.table ≡ u.number) hs h (own_still (same_number t u given.frame)) (given.table ∙ sym (same_number t u given.frame));
    apart = all_pairs_push RowsApart hs h known.apart (λ k d l q. none_on n hs (sym (known.exactly n) ∙ given.was) k d l (q ∙ given.row));
    exactly = λ m.
        given.held m
        ∙ ap (λ b. (n == m) || b) (known.exactly m)
        ∙ flip (n == m) (has_hold m hs)
        ∙ ap (λ k. has_hold m hs || ((k == m) || false)) (sym given.row)
        ∙ sym (list_any-append (is_on m) hs (h ∷ []));
  }

  pub one_less : (i : ℕ) (h : Hold) → i < length hs → h ≡ slice_index_or hs i h → SpendsHoldOn t u h → InHand u (remove hs i)
  one_less i h l is spent = record {
    own = left (λ x. x.table ≡ u.number) hs i (own_still (same_number t u spent.frame));
    apart = all_pairs_remove RowsApart hs i l known.apart;
    exactly = λ m.
        spent.held m
        ∙ ap (λ b. not (h.row == m) && b) (known.exactly m)
        ∙ ap (λ (x : Hold). not (x.row == m) && has_hold m hs) is
        ∙ sym (gone hs i h l known.apart m);
  }

-- the last hold goes
last_gone : (hs : List Hold) (h : Hold) → remove (hs ++ h ∷ []) (length hs) ≡ hs
last_gone [] h = refl
last_gone (x ∷ hs) h = ap (λ ys. x ∷ ys) (last_gone hs h)

last_there : (hs : List Hold) (h : Hold) → (length hs < length (hs ++ h ∷ [])) × (h ≡ slice_index_or (hs ++ h ∷ []) (length hs) h)
last_there [] h = (omega arith, refl)
last_there (x ∷ hs) h = let rest = last_there hs h in (omega (arith, rest.0), rest.1)

-- what a search for the hold of two numbers found
module _ (table n : ℕ) where
  place_none : (i : ℕ) (hs : List Hold) → position_from (is_token table n) i hs ≡ None → list_any (is_token table n) hs ≡ false
  place_none i [] e = refl
  place_none i (h ∷ hs) e = elim (cases_Bool (is_token table n h)) [
    | inl here ↦ absurd (some_none i (rw here at e))
    | inr other ↦ rw other (place_none (i + 1) hs (rw other at e))
  ]
    where
      some_none : (k : ℕ) → Some k ≡ None → ⊥
      some_none k q = cc

  -- a slice xs of these holds was searched, with the answer r
  module _ (hs xs : List Hold) (r : Option ℕ) (same : xs ≡ hs) (searched : r ≡ position (is_token table n) xs) where
    found_is : position (is_token table n) hs ≡ r
    found_is = ap (position (is_token table n)) (sym same) ∙ sym searched

    -- where none bears them, none of that table is on the row
    pub none_found : All (λ h. h.table ≡ table) hs → r ≡ None → has_hold n hs ≡ false
    none_found own e = false_from_ne_true (has_hold n hs) (λ q.
        let some = Any-from_list_any (is_on n) hs q in
        let h : Hold = some.1 in
        both_ways (list_any (is_token table n) hs) (place_none 0 hs (sym (position_from-zero (is_token table n) hs) ∙ found_is ∙ e))
        (list_any_at (is_token table n) hs some.0 h some.2 (and_from ((slice_index_or hs some.0 h).table == table) ((slice_index_or hs some.0 h).row == n)
        (eq-eqb (slice_index_or hs some.0 h).table table (own some.0 h some.2))
        (rw some.3 some.4))))

    pub found_there : (i : ℕ) (h : Hold) → r ≡ Some i → h ≡ slice_index_or hs i h → (i < length hs) × (h.table ≡ table) × (h.row ≡ n)
    found_there i h e is =
        let there = position-Some (is_token table n) hs i h (found_is ∙ e) in
        let both = and_parts ((slice_index_or hs i h).table == table) ((slice_index_or hs i h).row == n) there.1 in
        (there.0, ap (λ (x : Hold). x.table) is ∙ eqb-true (slice_index_or hs i h).table table both.0, ap (λ (x : Hold). x.row) is ∙ eqb-true (slice_index_or hs i h).row n both.1)

module _ {K : Type 0} (demand : K → Demand) (t : Table K) (way : Way) where
  -- a hold on a row that does not stand as held, or of another table, is refused
  back_again : (h : Hold) → ((a : Account) → AgreesWith demand a t → has_unspent h.table h.row a.holds ≡ false) → Continues demand (spending way h (Err (NotHeld h))) t t
  back_again h spent_yet = elim way as (λ w. Continues demand (spending w h (Err (NotHeld h))) t t) [
    | KeepRow ↦ keep_refused demand t h spent_yet
    | GiveUp ↦ release_refused demand t h spent_yet
  ]

  pub not_held_here : (n : ℕ) → has_held t n ≡ false → Continues demand (spending way (on_row t.number n) (Err (NotHeld (on_row t.number n)))) t t
  not_held_here n none = back_again (on_row t.number n) (λ a agrees. sym (has_held_is t agrees n) ∙ none)

  pub of_another : (h : Hold) → h.table ≢ t.number → Continues demand (spending way h (Err (NotHeld h))) t t
  of_another h other = back_again h (λ a agrees. not_ours t agrees h other)

-- a hold of another table comes back
module _ {K : Type 0} (t u : Table K) (h : Hold) (other : h.table ≢ t.number) where
  pub handed_back_surely : (r : Result (Unit {0}) SpendRefusal) → MatchResult r (λ _. SpendsHoldOn t u h) (HandsBack t u h) → IsErr r
  handed_back_surely (Ok x) m = absurd (other m.table)
  handed_back_surely (Err e) m = refl

  pub same_then : (r : Result (Unit {0}) SpendRefusal) → MatchResult r (λ _. SpendsHoldOn t u h) (HandsBack t u h) → SameHeld t u
  same_then (Ok x) m = absurd (other m.table)
  same_then (Err e) m = m.held

-- what comes back is what was passed
pub back_is : (h : Hold) (e : SpendRefusal) → hold_of e ≡ h → e ≡ NotHeld h
back_is h (NotHeld back) same = ap NotHeld same

pub refused_with : {K : Type 0} (t u : Table K) (h : Hold) (r : Result (Unit {0}) SpendRefusal) (e : SpendRefusal) → MatchResult r (λ _. SpendsHoldOn t u h) (HandsBack t u h) → r ≡ Err e → r ≡ Err (NotHeld h)
refused_with t u h (Ok x) e m is = cc
refused_with t u h (Err d) e m is = ap Err (back_is h d m.same)

-- a hold that is put back where it was
pub put_back : {A : Type 0} (xs : List A) (i : ℕ) (x : A) → i < length xs → x ≡ slice_index_or xs i x → insert (remove xs i) i x ≡ xs
put_back [] i x l is = absurd (omega arith)
put_back (y ∷ xs) zero x l is = ap (λ z. z ∷ xs) is
put_back (y ∷ xs) (suc i) x l is = ap (λ zs. y ∷ zs) (put_back xs i x (omega arith) is)

-- a hold in hand is of this table, and its row is held
module _ {K : Type 0} (t : Table K) (hs : List Hold) (known : InHand t hs) (i : ℕ) (h : Hold) (within : i < length hs) (is : h ≡ slice_index_or hs i h) where
  pub own_number : h.table ≡ t.number
  own_number = ap (λ (x : Hold). x.table) is ∙ known.own i h within

  pub stands_held : has_held t h.row ≡ true
  stands_held = known.exactly h.row ∙ list_any_at (is_on h.row) hs i h within (eq-eqb (slice_index_or hs i h).row h.row (ap (λ (x : Hold). x.row) (sym is)))

-- such a hold is spent without refusal
module _ {K : Type 0} (t u : Table K) (h : Hold) (own : h.table ≡ t.number) (held : has_held t h.row ≡ true) where
  pub not_handed_back : (r : Result (Unit {0}) SpendRefusal) → MatchResult r (λ _. SpendsHoldOn t u h) (HandsBack t u h) → IsOk r
  not_handed_back (Ok x) m = refl
  not_handed_back (Err e) m = absurd (both_ways (has_held t h.row) (m.why own) held)

  pub spent_surely : (r : Result (Unit {0}) SpendRefusal) → MatchResult r (λ _. SpendsHoldOn t u h) (HandsBack t u h) → SpendsHoldOn t u h
  spent_surely (Ok x) m = m
  spent_surely (Err e) m = absurd (both_ways (has_held t h.row) (m.why own) held)

-- the last hold in hand
module _ {K : Type 0} (t : Table K) (hs : List Hold) (h : Hold) (known : InHand t (hs ++ h ∷ [])) where
  pub last_own : h.table ≡ t.number
  last_own = let there = last_there hs h in own_number t (hs ++ h ∷ []) known (length hs) h there.0 there.1

  pub last_held : has_held t h.row ≡ true
  last_held = let there = last_there hs h in stands_held t (hs ++ h ∷ []) known (length hs) h there.0 there.1

  pub without_last : (u : Table K) → SpendsHoldOn t u h → InHand u hs
  without_last u spent =
      let there = last_there hs h in
      subst (InHand u) (last_gone hs h) (one_less t u (hs ++ h ∷ []) known (length hs) h there.0 there.1 spent)
