-- How a hold is refused or accepted. Assumes nothing.
use Rattle.std.proofs.Common.{◌≡◌, ◌==◌, ℕ, ◌<◌, ◌≤◌, Bool, true, false, if◌then◌else◌, nat_le, List, [], ◌∷◌, ◌++◌, length, is_some, not, None, Some, Option, inl, inr, sym, refl, ap, ◌∙◌, arith, ne_eqb}
use Rattle.std.proofs.lemmas.Bool.{cond_both}
use Rattle.demand.specs.Demand.{Demand}
use Rattle.analysis.specs.declared.Task.{Task}
use Rattle.analysis.specs.Candidates.{claims}
use Rattle.demand.specs.Refusals.{first}
use Rattle.analysis.specs.Judge.{JudgementRefused}
use Rattle.analysis.specs.Ranks.{Claim}
use Rattle.table.specs.declared.refusals.HoldRefusal.{HoldRefusal}
use Rattle.table.specs.declared.refusals.HoldRefusal.TheVariants.{NoPlace}
use Rattle.table.specs.Account.{Account, row_checks, hold_checks, hold_number, hold_late, Refused}
use Rattle.table.specs.Agreement.{AgreesWith}
use Rattle.table.specs.declared.state.State.TheVariants.{Free}
use Rattle.table.specs.declared.Table.{Table}
use Rattle.table.specs.Places.{PlaceWhere}
use Rattle.table.proofs.Lookups.{tasks, place_free}
use Rattle.table.proofs.Judgements.{newcomer_late, never_too_many}
use Rattle.table.proofs.Shared.{Numbered, at_least_five}

first_at_most : (low high : ℕ) (cs : List (Bool × ℕ)) → Numbered low high cs → first cs ≤ high
first_at_most low high [] n = omega arith
first_at_most low high (c ∷ cs) n = cond_both c.0 c.1 (first cs) (λ m. m ≤ high) (λ _. n.0.1) (λ _. first_at_most low high cs n.1)

-- a check that applies comes before those behind it
first_front : (cs ds : List (Bool × ℕ)) → 0 < first cs → first (cs ++ ds) ≡ first cs
first_front [] ds pos = absurd (omega arith)
first_front (c ∷ cs) ds pos = grind (arith, first_front cs ds)

-- where none applies, those behind decide
first_behind : (low high : ℕ) (cs ds : List (Bool × ℕ)) → 1 ≤ low → Numbered low high cs → first cs ≡ 0 → first (cs ++ ds) ≡ first ds
first_behind low high [] ds h n z = refl
first_behind low high (c ∷ cs) ds h n z = grind (arith, n.0.0, first_behind low high cs ds h n.1)

row_numbered : (a : Account) (c : Claim) → Numbered 5 9 (row_checks a c)
row_numbered a c =
    ((omega arith, omega arith), ((omega arith, omega arith), ((omega arith, omega arith), ((omega arith, omega arith), ((omega arith, omega arith), tt)))))

module _ (a : Account) (c : Claim) where
  pub refused_early : (e : HoldRefusal) → hold_number e ≡ first (row_checks a c) → Refused a c e
  refused_early e is =
      let low = at_least_five e in
      let high = first_at_most 5 9 (row_checks a c) (row_numbered a c) in
      record {
        by_number =
            first_front (row_checks a c) ((nat_le a.room (length a.rows), 10) ∷ []) (omega arith)
            ∙ sym is
            ∙ sym (ap (λ (b : Bool). (if b then 0 else hold_number e)) (ne_eqb (hold_number e) 11 (λ q. omega arith)));
        late = λ q. absurd (omega arith);
      }

  behind : first (row_checks a c) ≡ 0 → (b : Bool) → nat_le a.room (length a.rows) ≡ b → first (hold_checks a c) ≡ (if b then 10 else 0)
  behind z b e =
      first_behind 5 9 (row_checks a c) ((nat_le a.room (length a.rows), 10) ∷ []) (omega arith) (row_numbered a c) z
      ∙ ap (λ (x : Bool). (if x then 10 else 0)) e

  -- a row whose numbers pass is refused where the account has no room
  pub no_place : first (row_checks a c) ≡ 0 → nat_le a.room (length a.rows) ≡ true → Refused a c NoPlace
  no_place z e = record { by_number = behind z true e; late = λ q. absurd (omega arith) }

  -- and passes all checks where it has
  pub passes : first (row_checks a c) ≡ 0 → nat_le a.room (length a.rows) ≡ false → first (hold_checks a c) ≡ 0
  passes z e = behind z false e

module _ {K : Type 0} {demand : K → Demand} {a : Account} (t : Table K) (agrees : AgreesWith demand a t) (c : Claim) (early : 0 ≡ first (row_checks a c)) (r : Option ℕ) (place : PlaceWhere t (λ s. s ≡ Free) r) where
  -- so it is refused where no place was found
  pub no_place_found : r ≡ None → Refused a c NoPlace
  no_place_found none = no_place a c (sym early) (place_free t agrees r place ∙ ap (λ o. not (is_some o)) none)

  -- and passes where one was
  pub place_found : (p : ℕ) → r ≡ Some p → first (hold_checks a c) ≡ 0
  place_found p some = passes a c (sym early) (place_free t agrees r place ∙ ap (λ o. not (is_some o)) some)

-- a refusal that says of a newcomer what its judgement says is the account's
pub refused_judged : {K : Type 0} {demand : K → Demand} {a : Account} (t : Table K) → AgreesWith demand a t → (u : Task K) → first (hold_checks a (record { row = u.row; demand = demand u.kind })) ≡ 0 → (e : HoldRefusal) → JudgementRefused (claims demand (tasks t) (Some u)) (hold_number e) (hold_late e) → Refused a (record { row = u.row; demand = demand u.kind }) e
refused_judged t agrees u z e (inl many) = absurd (never_too_many t agrees u z many.2)
refused_judged t agrees u z e (inr some) =
    record {
      by_number = z ∙ sym (ap (λ n. (if n == 11 then 0 else n)) some.0);
      late = λ _. newcomer_late t agrees u z (hold_late e) some.1;
    }
