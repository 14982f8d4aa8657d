-- The first check of a list that applies, over lists in a row. Assumes nothing.
use Rattle.std.proofs.Common.{◌≡◌, Bool, true, false, ◌≢◌, List, [], ◌∷◌, ◌++◌, map, sym, refl}
use Rattle.std.specs.List.{AllByRecursion}
use Rattle.demand.specs.Refusals.{first_of}

-- checks that say f of what others say are first where those are
pub first_of-map : {A B : Type 0} (f : A → B) (none : A) (checks : List (Bool × A)) → first_of (f none) (map (λ check. (check.0, f check.1)) checks) ≡ f (first_of none checks)
first_of-map f none [] = refl
first_of-map f none ((true, x) ∷ checks) = refl
first_of-map f none ((false, x) ∷ checks) = first_of-map f none checks

module _ {A : Type 0} (none : A) where
  -- each check says something
  abbrev pub EachSays : List (Bool × A) → Type 0
  EachSays = AllByRecursion (λ check. check.1 ≢ none)

  -- where one of the first applies, the others do not matter
  pub first_of-front : (xs ys : List (Bool × A)) (x : A) → x ≢ none → first_of none xs ≡ x → first_of none (xs ++ ys) ≡ x
  first_of-front [] ys x some e = absurd (some (sym e))
  first_of-front ((true, a) ∷ xs) ys x some e = e
  first_of-front ((false, a) ∷ xs) ys x some e = first_of-front xs ys x some e

  -- where none of the first applies, the others decide
  pub first_of-behind : (xs ys : List (Bool × A)) → EachSays xs → first_of none xs ≡ none → first_of none (xs ++ ys) ≡ first_of none ys
  first_of-behind [] ys all e = refl
  first_of-behind ((true, a) ∷ xs) ys all e = absurd (all.0 e)
  first_of-behind ((false, a) ∷ xs) ys all e = first_of-behind xs ys all.1 e
