-- The table and the account after a call that writes a place. Assumes nothing.
use Rattle.std.proofs.Common.{◌≡◌, ℕ, zero, suc, ◌<◌, min, true, false, not, ◌==◌, ◌≢◌, List, [], ◌∷◌, length, slice_index_or, take, set, Some, None, Option, sym, refl, ap, ◌∙◌, subst, subst₂, not-suc-le-zero, arith}
use mathlib.Core.Path.{subst₃}
use native.Mathlib.Decide.{ℕ_discrete}
use lib.Seq.{take-set-lt}
use Rattle.std.proofs.lemmas.List.{length-set, length-take, get_or-set_same, get_or-set_other, get_or-take, set-get_or}
use Rattle.std.proofs.lemmas.Bool.Decides.{nat_tests}
use Rattle.demand.specs.Demand.{Demand, Lawful}
use Rattle.demand.specs.Refusals.{first}
use Rattle.analysis.specs.declared.Task.{Task}
use Rattle.analysis.specs.Candidates.{claims_of}
use Rattle.analysis.specs.Ranks.{Claim}
use Rattle.analysis.proofs.Reordered.{pairs_head, swap_front}
use Rattle.std.specs.Prelude.{IsPermutation}
use Rattle.std.proofs.lemmas.List.Sorted.{IsPermutation-refl}
use Rattle.table.specs.declared.hold.Hold.{Hold}
use Rattle.table.specs.declared.state.State.{State}
use Rattle.table.specs.declared.state.State.TheVariants.{Free, Held, Kept}
use Rattle.table.specs.declared.Table.{Table}
use Rattle.table.specs.Account.{Account, Bears, has_number, number_of, hold_checks, has_unspent, without_hold, without_row, AllInTime, with_row, with_kept, with_released, with_withdrawn}
use Rattle.table.specs.Agreement.{Sound, StandsAt, Agrees, AgreesWith}
use Rattle.table.specs.Memory.{PutAt, StateAt}
use Rattle.table.specs.Places.{Uses, At}
use Rattle.table.proofs.Kept.{with_row_sound, with_kept_sound, released_sound, with_withdrawn_sound}
use Rattle.table.proofs.Lookups.{tasks, task_at, state_at, AtLow, within}
use Rattle.table.proofs.Parts.{no_number, others_stay}
use Rattle.table.proofs.Shared.{filter_permuted, permuted_back, permuted_next, permuted_through, number_permuted, numbers_permuted, passed, none_named_at, stands_still}
use Rattle.table.proofs.Spending.{stands, held_at, kept_at, is_spent, still_ours, spent_gone}

pub without_none : (n : ℕ) (cs : List Claim) → has_number n cs ≡ false → without_row n cs ≡ cs
without_none n [] h = refl
without_none n (c ∷ cs) h = grind (arith, nat_tests, without_none n cs)

unspent_new : (table n : ℕ) (hs : List Bears) → has_unspent table n (record { table = table; row = n } ∷ hs) ≡ true
unspent_new table n hs = grind (arith, nat_tests)

unspent_more : (table m n : ℕ) → m ≢ n → (hs : List Bears) → has_unspent table m (record { table = table; row = n } ∷ hs) ≡ has_unspent table m hs
unspent_more table m n ne hs = grind (arith, nat_tests)

module _ {K : Type 0} (demand : K → Demand) where
  abbrev pub claim : Task K → Claim
  claim u = record { row = u.row; demand = demand u.kind }

  -- a task that is put at a place
  put_in : (os : List (Option (Task K))) (p : ℕ) (u : Task K) → p < length os → IsPermutation (claims_of demand (set os p (Some u))) (claim u ∷ claims_of demand (set os p None))
  put_in [] p u l = absurd (not-suc-le-zero l)
  put_in (None ∷ os) zero u l = IsPermutation-refl _
  put_in (Some x ∷ os) zero u l = IsPermutation-refl _
  put_in (None ∷ os) (suc p) u l = put_in os p u (omega arith)
  put_in (Some x ∷ os) (suc p) u l = permuted_through (permuted_next (claim x) (put_in os p u (omega arith))) (swap_front (claim x) (claim u) (claims_of demand (set os p None)))

module _ {K : Type 0} {demand : K → Demand} {a : Account} (t : Table K) (agrees : AgreesWith demand a t) (p : ℕ) (used : Uses t p) where
  -- the rows of the other places
  abbrev rest : List Claim
  rest = claims_of demand (set (tasks t) p None)

  -- the place is written, where no other has a row of the number n
  written : (b : Account) (n : ℕ) → b.number ≡ a.number → b.room ≡ a.room → ((m : ℕ) → m ≢ n → has_unspent b.number m b.holds ≡ has_unspent a.number m a.holds) → has_number n rest ≡ false → (s : State) (o : Option (Task K)) → StandsAt b s o → IsPermutation (claims_of demand (set (tasks t) p o)) b.rows → Sound b → Agrees demand b t.number (set t.states p s) (set t.places.now p o)
  written b n number room still apart s o new rows sound = record {
    number_is = number ∙ agrees.number_is;
    states_are = length-set t.states p s ∙ agrees.states_are;
    room_is = room ∙ agrees.room_is ∙ ap (λ k. min k 12) (sym (length-set t.places.now p o));
    rows_are = rw (take-set-lt 12 t.places.now p o used.0) rows;
    at_each = each;
    sound = sound;
  }
    where
      each : (i : ℕ) → i < 12 → StandsAt b (slice_index_or (set t.states p s) i Free) (slice_index_or (take 12 (set t.places.now p o)) i None)
      each i l = elim (ℕ_discrete i p) [
        | yes e ↦
            subst (λ (j : ℕ). StandsAt b (slice_index_or (set t.states p s) j Free) (slice_index_or (take 12 (set t.places.now p o)) j None)) (sym e)
            (subst₂ (StandsAt b) (sym (get_or-set_same t.states p s Free (let all = agrees.states_are in let low = used.0 in omega arith)))
            (sym (get_or-take 12 (set t.places.now p o) p None used.0 ∙ get_or-set_same t.places.now p o None used.1)) new)
        | no ne ↦
            subst₂ (StandsAt b) (sym (get_or-set_other t.states p i s Free ne))
            (sym (ap (λ xs. slice_index_or xs i None) (take-set-lt 12 t.places.now p o used.0) ∙ get_or-set_other (tasks t) p i o None ne))
            (stands_still a b n still (state_at t i) (task_at t i) (λ u e. none_named_at demand n (set (tasks t) p None) i u apart (get_or-set_other (tasks t) p i None None ne ∙ e)) (agrees.at_each i l))
      ]

  -- a row of the number n at the place
  module _ (u : Task K) (at : task_at t p ≡ Some u) where
    there : set (tasks t) p (Some u) ≡ tasks t
    there = subst (λ o. set (tasks t) p o ≡ tasks t) at (set-get_or (tasks t) p None)

    split : IsPermutation a.rows (claim demand u ∷ rest)
    split = permuted_through (permuted_back agrees.rows_are) (subst (λ xs. IsPermutation (claims_of demand xs) (claim demand u ∷ rest)) there (put_in demand (tasks t) p u (let l = length-take 12 t.places.now in let w = used in omega arith)))

    alone : has_number u.row.number rest ≡ false
    alone = no_number u.row.number rest (pairs_head (λ c d. number_of c ≢ number_of d) (claim demand u) rest (numbers_permuted split agrees.sound.numbers))

    -- it goes out, and leaves these holds
    row_out : (n : ℕ) → n ≡ u.row.number → (hs : List Bears) → ((m : ℕ) → m ≢ n → has_unspent a.number m hs ≡ has_unspent a.number m a.holds) → Sound (record { number = a.number; room = a.room; rows = without_row n a.rows; holds = hs }) → Agrees demand (record { number = a.number; room = a.room; rows = without_row n a.rows; holds = hs }) t.number (set t.states p Free) (set t.places.now p None)
    row_out n is hs still sound =
        let apart : has_number n rest ≡ false = rw is alone in
        written (record { number = a.number; room = a.room; rows = without_row n a.rows; holds = hs }) n refl refl still apart Free None tt
        (permuted_back (subst (IsPermutation (without_row n a.rows)) (let out : without_row n (claim demand u ∷ rest) ≡ without_row n rest = grind (arith, nat_tests) in out ∙ without_none n rest apart) (filter_permuted (λ c. not (number_of c == n)) split))) sound

-- a table after a place was written, by what was written
put_agrees : {K : Type 0} {demand : K → Demand} {b : Account} {t u : Table K} {p : ℕ} {s : State} {o : Option (Task K)} → PutAt t u p s o → Agrees demand b t.number (set t.states p s) (set t.places.now p o) → AgreesWith demand b u
put_agrees {demand = demand} {b = b} put agrees = subst₃ (Agrees demand b) (sym put.number) (sym put.states) (sym put.places) agrees

-- and after its state was written
state_agrees : {K : Type 0} {demand : K → Demand} {b : Account} {t u : Table K} {p : ℕ} {s : State} → StateAt t u p s → Agrees demand b t.number (set t.states p s) t.places.now → AgreesWith demand b u
state_agrees {demand = demand} {b = b} marked agrees = subst₃ (Agrees demand b) (sym marked.number) (sym marked.states) (sym marked.places) agrees

nothing_stands : {K : Type 0} (a : Account) (o : Option (Task K)) → StandsAt a Free o → o ≡ None
nothing_stands a o s = grind arith

module _ {K : Type 0} {demand : K → Demand} {a : Account} (t : Table K) (agrees : AgreesWith demand a t) where
  -- a row comes in at a free place
  pub row_in : (u : Table K) (p : ℕ) → At t (λ s. s ≡ Free) p → (task : Task K) → PutAt t u p (Held task.row.number) (Some task) → Lawful (demand task.kind) → first (hold_checks a (claim demand task)) ≡ 0 → AllInTime (claim demand task ∷ a.rows) → AgreesWith demand (with_row a (claim demand task)) u
  row_in u p at task put lawful passes in_time =
      let n : ℕ = task.row.number in
      let empty : set (tasks t) p None ≡ tasks t = subst (λ o. set (tasks t) p o ≡ tasks t) (nothing_stands a (task_at t p) (stands t agrees Free p (at.0.0, at.1))) (set-get_or (tasks t) p None) in
      let rows : IsPermutation (claims_of demand (set (tasks t) p None)) a.rows = subst (λ xs. IsPermutation (claims_of demand xs) a.rows) (sym empty) agrees.rows_are in
      put_agrees put
      (written t agrees p at.0 (with_row a (claim demand task)) n refl refl (λ m ne. unspent_more a.number m n ne a.holds)
      (number_permuted n rows ∙ (passed a (claim demand task) passes).number) (Held n) (Some task) (refl, unspent_new a.number n a.holds)
      (permuted_through (put_in demand (tasks t) p task (let l = length-take 12 t.places.now in let w = at.0 in omega arith)) (permuted_next (claim demand task) rows))
      (with_row_sound a agrees.sound (claim demand task) lawful passes in_time))

  -- the hold of a row that is held here is spent, and the row stays
  pub row_kept : (u : Table K) (h : Hold) (p : ℕ) → h.table ≡ t.number → AtLow t (λ s. s ≡ Held h.row) p → StateAt t u p (Kept h.row) → AgreesWith demand (with_kept a h) u
  row_kept u h p ours at marked =
      let it = held_at t agrees h.row p at in
      let used : Uses t p = (at.0, within t p it.task it.stands) in
      let is : slice_index_or t.places.now p None ≡ Some it.task = sym (get_or-take 12 t.places.now p None at.0) ∙ it.stands in
      let same_places : set t.places.now p (Some it.task) ≡ t.places.now = subst (λ o. set t.places.now p o ≡ t.places.now) is (set-get_or t.places.now p None) in
      let table : h.table ≡ a.number = ours ∙ sym agrees.number_is in
      state_agrees marked
      (subst (Agrees demand (with_kept a h) t.number (set t.states p (Kept h.row))) same_places
      (written t agrees p used (with_kept a h) h.row refl refl (λ m ne. others_stay h.table h.row a.number m a.holds ne)
      (rw it.number (alone t agrees p used it.task it.stands)) (Kept h.row) (Some it.task)
      (it.number, subst (λ m. has_unspent m h.row (without_hold h.table h.row a.holds) ≡ false) table (spent_gone h.table h.row a.holds))
      (subst (λ xs. IsPermutation (claims_of demand xs) a.rows) (sym (there t agrees p used it.task it.stands)) agrees.rows_are) (with_kept_sound a agrees.sound h)))

  -- the hold of a row that is held here is spent, and the row goes out
  pub row_released : (u : Table K) (h : Hold) (p : ℕ) → h.table ≡ t.number → AtLow t (λ s. s ≡ Held h.row) p → PutAt t u p Free None → AgreesWith demand (with_released a h) u
  row_released u h p ours at put =
      let it = held_at t agrees h.row p at in
      let used : Uses t p = (at.0, within t p it.task it.stands) in
      put_agrees put
      (row_out t agrees p used it.task it.stands h.row it.number (without_hold h.table h.row a.holds) (λ m ne. others_stay h.table h.row a.number m a.holds ne)
      (released_sound a agrees.sound h.table h.row (still_ours t agrees h p (ours, (used, at.1)))))

  -- a kept row goes out
  pub row_withdrawn : (u : Table K) (n p : ℕ) → AtLow t (λ s. s ≡ Kept n) p → PutAt t u p Free None → AgreesWith demand (with_withdrawn a n) u
  row_withdrawn u n p at put =
      let it = kept_at t agrees n p at in
      put_agrees put
      (row_out t agrees p (at.0, within t p it.task it.stands) it.task it.stands n it.number a.holds (λ m ne. refl)
      (with_withdrawn_sound a agrees.sound n (is_spent t agrees n p at).1))
