-- A table over places that were just emptied. Assumes nothing.
use Rattle.std.proofs.Common.{◌≡◌, ℕ, zero, suc, ◌<◌, min, List, [], ◌∷◌, ◌++◌, length, slice_index_or, take, drop, Some, None, Option, sym, refl, ◌∙◌, subst, subst₂, arith}
use native.Mathlib.Decide.{dec_lt}
use Rattle.std.specs.Prelude.{All}
use Rattle.std.proofs.lemmas.List.{length-append, length-drop, get_or_append_left, get_or_past, get_or-take, get_or-replicate}
use Rattle.std.proofs.lemmas.Slice.{drop-append-drop}
use Rattle.demand.specs.Demand.{Demand}
use Rattle.analysis.specs.declared.Task.{Task}
use Rattle.analysis.specs.Candidates.{claims_of}
use Rattle.std.proofs.lemmas.List.Sorted.{IsPermutation-refl}
use Rattle.table.specs.declared.state.State.{State}
use Rattle.table.specs.declared.state.State.TheVariants.{Free}
use Rattle.table.specs.Account.{fresh_account}
use Rattle.table.specs.Agreement.{StandsAt, Agrees}
use Rattle.table.specs.Memory.{Emptied}
use Rattle.table.proofs.Kept.{fresh_sound}

module _ {K : Type 0} (places filled : List (Option (Task K))) (limit : ℕ) (used : limit ≡ min (length places) 12) (long : length filled ≡ limit) (empty : All (λ place. place ≡ None) filled) where
  pub emptied : Emptied places (filled ++ drop limit places)
  emptied = record {
    count = omega (arith, length-append filled (drop limit places), length-drop limit places);
    empty = at;
    behind = drop-append-drop limit places filled 12 (omega arith) long;
  }
    where
      at : (i : ℕ) → i < 12 → slice_index_or (filled ++ drop limit places) i None ≡ None
      at i l = elim (dec_lt i (length filled)) [
        | yes h ↦ get_or_append_left filled (drop limit places) None i h ∙ empty i None h
        | no h ↦ get_or_past (filled ++ drop limit places) i None (omega (arith, length-append filled (drop limit places), length-drop limit places))
      ]

no_claims : {K : Type 0} (demand : K → Demand) (n : ℕ) (os : List (Option (Task K))) → ((i : ℕ) → i < n → slice_index_or os i None ≡ None) → claims_of demand (take n os) ≡ []
no_claims demand zero os empty = refl
no_claims demand (suc n) [] empty = refl
no_claims demand (suc n) (None ∷ os) empty = no_claims demand n os (λ i l. empty (suc i) (omega arith))
no_claims demand (suc n) (Some u ∷ os) empty = let e = empty 0 (omega arith) in cc

-- twelve places without a row
abbrev pub twelve_free : List State
twelve_free = Free ∷ Free ∷ Free ∷ Free ∷ Free ∷ Free ∷ Free ∷ Free ∷ Free ∷ Free ∷ Free ∷ Free ∷ []

-- an empty table agrees with a fresh account
pub fresh_agrees : {K : Type 0} (demand : K → Demand) (number : ℕ) (states : List State) (places : List (Option (Task K))) → length states ≡ 12 → ((i : ℕ) → i < 12 → slice_index_or states i Free ≡ Free) → ((i : ℕ) → i < 12 → slice_index_or places i None ≡ None) → Agrees demand (fresh_account number (min (length places) 12)) number states places
fresh_agrees demand number states places long free empty = record {
  number_is = refl;
  states_are = long;
  room_is = refl;
  rows_are = rw (no_claims demand 12 places empty) (IsPermutation-refl []);
  at_each = λ i l. subst₂ (StandsAt (fresh_account number (min (length places) 12))) (sym (free i l)) (sym (get_or-take 12 places i None l ∙ empty i l)) tt;
  sound = fresh_sound number (min (length places) 12);
}

-- so a table over places that were emptied does, and its room is that of the places as they were
pub emptied_agrees : {K : Type 0} (demand : K → Demand) (number : ℕ) (before after : List (Option (Task K))) → Emptied before after → Agrees demand (fresh_account number (min (length before) 12)) number twelve_free after
emptied_agrees demand number before after emptied = subst (λ n. Agrees demand (fresh_account number (min n 12)) number twelve_free after) emptied.count (fresh_agrees demand number twelve_free after refl (λ i l. get_or-replicate 12 i Free Free l) emptied.empty)
