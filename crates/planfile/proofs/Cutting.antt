-- What a byte does to the cut of a line.
use Rattle.std.proofs.Common.{◌≡◌, ℕ, zero, suc, ◌+◌, ◌<◌, ◌≤◌, ◌≢◌, List, [], ◌∷◌, ◌++◌, map, length, slice_index_or, take, drop, Bor, sym, refl, ap, ◌∙◌, subst, arith}
use native.Mathlib.Nat.{sub_self}
use Rattle.std.specs.List.{between}
use Rattle.std.proofs.lemmas.List.Edits.{between_more}
use Rattle.std.proofs.lemmas.List.{get_or-take, get_or-map, length-map, length-take, length_push, take_more, take_all, take-append-drop, drop_more}
use Rattle.planfile.specs.declared.reader.State.{State}
use Rattle.planfile.specs.declared.reader.State.TheVariants.{Field}
use Rattle.planfile.specs.Steps.{IsInField, IsBehindLine, IsBeforeByte}
use Rattle.planfile.specs.Text.{newline, tab, parted_by, lines}
use Rattle.planfile.proofs.Parted.{parted_at, parted_on, first_line}

-- the first n of a list with more behind it need only the first n of the list
take_front : (n : ℕ) (xs ys : List (List ℕ)) → take n (take n xs ++ ys) ≡ take n (xs ++ ys)
take_front zero xs ys = refl
take_front (suc n) [] ys = refl
take_front (suc n) (x ∷ xs) ys = ap (λ zs. x ∷ zs) (take_front n xs ys)

-- a line keeps its first twenty fields
module _ (kept : List (Bor (List ℕ))) (fs : List (List ℕ)) (first_kept : map (λ f. f.now) kept ≡ take 20 fs) (k : ℕ) (few : k < 20) (within : k < length fs) where
  pub is_kept : k < length kept
  is_kept = omega (arith, length-map kept (λ (f : Bor (List ℕ)). f.now), ap length first_kept, length-take 20 fs)

  pub field_is : (d : Bor (List ℕ)) → (slice_index_or kept k d).now ≡ slice_index_or fs k []
  field_is d = sym (get_or-map (λ f. f.now) kept k d [] is_kept) ∙ (ap (λ xs. slice_index_or xs k []) first_kept ∙ get_or-take 20 fs k [] few)

-- what is said of a reader in a field, at that field
pub in_field : (text : List ℕ) (at : ℕ) (kept : List (List ℕ)) (state : State) (i start : ℕ) → state ≡ Field i start → IsBeforeByte text at kept state → IsInField text at kept i start
in_field text at kept state i start e t = subst (IsBeforeByte text at kept) e t

module _ (text : List ℕ) (at : ℕ) (kept : List (List ℕ)) (i start : ℕ) (f : IsInField text at kept i start) where
  -- a text whose bytes are all taken, with no newline among them, has no line
  pub no_line : length text ≤ at → lines text ≡ []
  no_line end =
      let one : parted_by newline text ≡ text ∷ [] = subst (λ t. parted_by newline t ≡ t ∷ []) (take_all at text end) f.one_line in
      rw one

  module _ (inside : at < length text) where
    -- the line goes on
    line_on : slice_index_or text at 0 ≢ newline → parted_by newline (take (at + 1) text) ≡ take (at + 1) text ∷ []
    line_on other = rw (take_more text at 0 inside) (parted_on newline (slice_index_or text at 0) (take at text) [] (take at text) other f.one_line)

    -- the field that ends here is behind those that ended before
    one_more : length (f.before ++ between start at text ∷ []) ≡ i + 1
    one_more = length_push f.before (between start at text) ∙ ap (λ n. n + 1) f.size

    kept_more : (now : List (List ℕ)) → now ≡ take 20 (kept ++ between start at text ∷ []) → now ≡ take 20 (f.before ++ between start at text ∷ [])
    kept_more now e =
        e ∙ (ap (λ k. take 20 (k ++ between start at text ∷ [])) f.first_kept ∙ take_front 20 f.before (between start at text ∷ []))

    -- a byte of the field
    pub on_other : slice_index_or text at 0 ≢ tab → slice_index_or text at 0 ≢ newline → IsInField text (at + 1) kept i start
    on_other no_tab no_newline =
        let begun = f.begun in
        record {
          begun = omega arith;
          low = f.low;
          one_line = line_on no_newline;
          before = f.before;
          cut =
              rw (take_more text at 0 inside, between_more text start at 0 f.begun inside)
              (parted_on tab (slice_index_or text at 0) (take at text) f.before (between start at text) no_tab f.cut);
          size = f.size;
          first_kept = f.first_kept;
        }

    -- a tab ends the field
    pub on_tab : (now : List (List ℕ)) → now ≡ take 20 (kept ++ between start at text ∷ []) → slice_index_or text at 0 ≡ tab → IsInField text (at + 1) now (i + 1) (at + 1)
    on_tab now e is_tab =
        let begun = f.begun in
        let low = f.low in
        record {
          begun = omega arith;
          low = omega arith;
          one_line = line_on (λ h. omega arith);
          before = f.before ++ between start at text ∷ [];
          cut = rw (take_more text at 0 inside, is_tab, sub_self (at + 1)) (parted_at tab (take at text) [] f.before (between start at text) f.cut);
          size = one_more;
          first_kept = kept_more now e;
        }

    -- a newline ends the line
    pub on_newline : (now : List (List ℕ)) → now ≡ take 20 (kept ++ between start at text ∷ []) → slice_index_or text at 0 ≡ newline → IsBehindLine text at now (i + 1)
    on_newline now e is_newline =
        let split : text ≡ take at text ++ newline ∷ drop (at + 1) text = sym (take-append-drop at text) ∙ (ap (λ t. take at text ++ t) (drop_more text at 0 inside) ∙ ap (λ b. take at text ++ b ∷ drop (at + 1) text) is_newline) in
        record {
          first = ap lines split ∙ first_line (take at text) (drop (at + 1) text) f.one_line;
          size = sym (ap length f.cut ∙ one_more);
          first_kept = kept_more now e ∙ ap (λ fs. take 20 fs) (sym f.cut);
        }
