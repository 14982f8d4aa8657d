-- What comes of a call, and of the rows, by what the table of an evening has been through. Assumes nothing.
use Rattle.std.proofs.Common.{◌≡◌, ℕ, ◌≤◌, min, List, [], ◌∷◌, length, take, Option, Some, None, sym, refl, ap, ◌∙◌, subst, arith}
use Rattle.std.proofs.lemmas.List.{length-take}
use Rattle.std.proofs.Math.Logic.{∥∥₁_map}
use Rattle.analysis.specs.declared.Answer.{Answer}
use Rattle.analysis.specs.Judge.{Answered}
use Rattle.analysis.specs.Ranks.{loads, ranking}
use Rattle.demand.specs.declared.delayed.Delayed.{Delayed}
use Rattle.demand.specs.declared.factor.Factor.{Factor}
use Rattle.demand.specs.declared.slowed.Slowed.{Slowed}
use Rattle.table.specs.declared.Table.{Table}
use Rattle.table.specs.Account.{Account, fresh_account}
use Rattle.table.specs.Agreement.{AgreesWith}
use Rattle.table.specs.History.{HasHistory, account_of, fresh_of}
use Rattle.table.specs.Runs.{Event, Step, after, after_all}
use Rattle.table.proofs.Promise.{same_number}
use Rattle.runs.specs.declared.call.Call.{Call as TableCall}
use Rattle.runs.specs.declared.call.Reply.{Reply}
use Rattle.runs.specs.Calls.{IsEvent, call_row}
use Rattle.planfile.specs.declared.request.Opening.{Opening}
use Rattle.planfile.specs.declared.request.Request.TheVariants.{Call, Rows}
use Rattle.planfile.specs.Checks.{Jobs, row_demand}
use Rattle.planfile.specs.Responses.{response_line, response_of}
use Rattle.call_log.specs.Logs.{evening, RequestSays, rows_text, says}
use Rattle.call_log.specs.Reading.{due_count}

-- the account of a table bears its number
number_after : (start : Account) (es : List Event) → start.number ≡ (after_all start es).number
number_after start [] = refl
number_after start (e ∷ es) = number_after start es ∙ sym (same_number (after_all start es) e).0

module _ (clock : Factor) (k : ℕ) (text : List ℕ) (es : List Event) (t u : Table (Slowed (Delayed Jobs))) where
  pub account_number : t.number ≡ (account_of es t).number
  account_number = number_after (fresh_of t) es

  -- a call was made
  pub call_says : (c : TableCall (Slowed (Delayed Jobs))) (r : Reply) (e : Event) → fresh_of u ≡ fresh_of t → IsEvent row_demand u.number c r e → HasHistory row_demand (e ∷ es) u → RequestSays clock (account_of es t) k text (Call c) (says (response_line (response_of k (call_row c) r)) (evening clock (account_of (e ∷ es) u)))
  call_says c r e frame is known =
      let same : account_of es u ≡ account_of es t = ap (λ s. after_all s es) frame in (
        r,
        e,
        subst (λ n. IsEvent row_demand n c r e) (ap (λ (s : Account). s.number) frame ∙ account_number) is,
        ∥∥₁_map known (λ h. subst (λ x. Step x e (after x e)) same h.answered.1),
        ap (λ x. says (response_line (response_of k (call_row c) r)) (evening clock (after x e))) same,
      )

  -- all rows were told
  pub rows_say : (said : List ℕ) → HasHistory row_demand es t → ((a : Account) → AgreesWith row_demand a t → (all : List Answer) × Answered (loads (ranking a.rows)) all × (said ≡ rows_text a all)) → RequestSays clock (account_of es t) k text Rows (says said (evening clock (account_of es t)))
  rows_say said known told =
      ∥∥₁_map known (λ h. let all = told (account_of es t) h.agrees in (all.0, all.1, ap (λ s. says s (evening clock (account_of es t))) all.2))

-- so many of twelve places are lent
pub few_places : {A : Type 0} (n : ℕ) (xs : List A) → length xs ≡ 12 → n ≤ 12 → min (length (take n xs)) 12 ≡ n
few_places n xs twelve few = omega (arith, length-take n xs, twelve, few)

-- an evening begins with no call
pub opened : (clock : Factor) (o : Opening) (t : Table (Slowed (Delayed Jobs))) (n : ℕ) → fresh_of t ≡ fresh_account o.number n → n ≡ o.places → evening clock (account_of [] t) ≡ evening clock (fresh_account o.number o.places)
opened clock o t n made few = ap (evening clock) made ∙ ap (λ k. evening clock (fresh_account o.number k)) few

pub one_due : (o : Option Opening) → due_count o ≤ 1
one_due None = omega arith
one_due (Some o) = omega arith
