-- Texts that are made of parts, each before, between or behind what parts them. Assumes nothing.
use Rattle.std.proofs.Common.{◌≡◌, ℕ, ◌+◌, ◌-◌, ◌*◌, ◌≤◌, true, false, ◌==◌, List, [], ◌∷◌, ◌++◌, length, take, sym, refl, ap, ◌∙◌, arith}
use Rattle.std.proofs.lemmas.List.{append-nil, append_assoc, length-append, length_push, take_at}
use Rattle.std.proofs.lemmas.Bool.{eq-eqb}
use Rattle.std.specs.List.{AllByRecursion, flat_map}
use Rattle.std.proofs.lemmas.Grind.{flat_map-append}
use Rattle.std.proofs.lemmas.List.Elements.{All-from_recursion}
use Rattle.std.proofs.lemmas.Slice.Eq.{ends_is}
use Rattle.std.proofs.lemmas.Bool.Decides.{Decides-eqb}
use Rattle.std.proofs.lemmas.List.Splits.{slice_split_none, slice_split_at}
use Rattle.planfile.specs.Text.{tab, newline, parted_by, lines, fields, ends_with_newline}

-- no byte is this one
abbrev pub Lacks : ℕ → List ℕ → Type 0
Lacks separator = AllByRecursion (λ b. (b == separator) ≡ false)

pub lacks_append : (separator : ℕ) (p q : List ℕ) → Lacks separator p → Lacks separator q → Lacks separator (p ++ q)
lacks_append separator [] q h k = k
lacks_append separator (b ∷ p) q h k = (h.0, lacks_append separator p q h.1 k)

-- a text with nothing that parts it is one part
parted_end : (separator : ℕ) (p : List ℕ) → Lacks separator p → parted_by separator p ≡ p ∷ []
parted_end separator p h = slice_split_none (λ b. b == separator) p (All-from_recursion (λ b. (b == separator) ≡ false) p h)

-- the first part, and those behind it
parted_front : (separator : ℕ) (p rest : List ℕ) → Lacks separator p → parted_by separator (p ++ separator ∷ rest) ≡ p ∷ parted_by separator rest
parted_front separator p rest h =
    slice_split_at (λ b. b == separator) p separator rest (All-from_recursion (λ b. (b == separator) ≡ false) p h) (eq-eqb separator separator refl)

-- fields, each behind a tab
abbrev pub tabbed : List (List ℕ) → List ℕ
tabbed = flat_map (λ p. tab ∷ p)

pub tabbed_append : (ps qs : List (List ℕ)) → tabbed (ps ++ qs) ≡ tabbed ps ++ tabbed qs
tabbed_append = flat_map-append (λ p. tab ∷ p)

-- what stands in a field that is written: neither a tab nor a newline, and few bytes
pub record Part (p : List ℕ) : Type 0 where
  pub no_tab : Lacks tab p
  pub no_newline : Lacks newline p
  pub short : length p ≤ 10

abbrev pub Parts : List (List ℕ) → Type 0
Parts = AllByRecursion Part

pub parts_append : (ps qs : List (List ℕ)) → Parts ps → Parts qs → Parts (ps ++ qs)
parts_append [] qs h k = k
parts_append (p ∷ ps) qs h k = (h.0, parts_append ps qs h.1 k)

pub fields_are : (p : List ℕ) (ps : List (List ℕ)) → Part p → Parts ps → fields (p ++ tabbed ps) ≡ p ∷ ps
fields_are p [] h k = ap fields (append-nil p) ∙ parted_end tab p h.no_tab
fields_are p (q ∷ ps) h k = parted_front tab p (q ++ tabbed ps) h.no_tab ∙ ap (λ (fs : List (List ℕ)). p ∷ fs) (fields_are q ps k.0 k.1)

tabbed_lacks : (ps : List (List ℕ)) → Parts ps → Lacks newline (tabbed ps)
tabbed_lacks [] h = tt
tabbed_lacks (p ∷ ps) h = (refl, lacks_append newline p (tabbed ps) h.0.no_newline (tabbed_lacks ps h.1))

-- a written line has no newline
pub line_lacks : (p : List ℕ) (ps : List (List ℕ)) → Part p → Parts ps → Lacks newline (p ++ tabbed ps)
line_lacks p ps h k = lacks_append newline p (tabbed ps) h.no_newline (tabbed_lacks ps k)

-- eleven bytes to a field are enough
tabbed_short : (ps : List (List ℕ)) → Parts ps → length (tabbed ps) ≤ 11 * length ps
tabbed_short [] h = omega arith
tabbed_short (p ∷ ps) h =
    let here = h.0.short in
    let rest = tabbed_short ps h.1 in
    omega (arith, length-append p (tabbed ps))

pub line_short : (p : List ℕ) (ps : List (List ℕ)) → Part p → Parts ps → length (p ++ tabbed ps) ≤ 10 + 11 * length ps
line_short p ps h k =
    let here = h.short in
    let rest = tabbed_short ps k in
    omega (arith, length-append p (tabbed ps))

-- lines, each with its newline
abbrev pub with_newlines : List (List ℕ) → List ℕ
with_newlines [] = []
with_newlines (l ∷ ls) = l ++ newline ∷ with_newlines ls

abbrev pub WholeLines : List (List ℕ) → Type 0
WholeLines = AllByRecursion (Lacks newline)

parted_lines : (ls : List (List ℕ)) → WholeLines ls → parted_by newline (with_newlines ls) ≡ ls ++ [] ∷ []
parted_lines [] h = refl
parted_lines (l ∷ ls) h = parted_front newline l (with_newlines ls) h.0 ∙ ap (λ (ps : List (List ℕ)). l ∷ ps) (parted_lines ls h.1)

pub lines_are : (ls : List (List ℕ)) → WholeLines ls → lines (with_newlines ls) ≡ ls
lines_are ls h =
    ap (λ (ps : List (List ℕ)). take (length ps - 1) ps) (parted_lines ls h)
    ∙ take_at ls ([] ∷ []) (length (ls ++ [] ∷ []) - 1) (let n = length_push ls [] in omega arith)

-- what stands before the last newline
before_last : List ℕ → List (List ℕ) → List ℕ
before_last l [] = l
before_last l (m ∷ ms) = l ++ newline ∷ before_last m ms

last_newline : (l : List ℕ) (ls : List (List ℕ)) → with_newlines (l ∷ ls) ≡ before_last l ls ++ newline ∷ []
unfolding before_last
last_newline l [] = refl
last_newline l (m ∷ ms) = ap (λ (t : List ℕ). l ++ newline ∷ t) (last_newline m ms) ∙ sym (append_assoc l (newline ∷ before_last m ms) (newline ∷ []))

ended_push : (t : List ℕ) → ends_with_newline (t ++ newline ∷ []) ≡ true
ended_push t = (ends_is Decides-eqb (t ++ newline ∷ []) (newline ∷ []) _ refl).1 t refl

pub lines_ended : (l : List ℕ) (ls : List (List ℕ)) → ends_with_newline (with_newlines (l ∷ ls)) ≡ true
lines_ended l ls = ap ends_with_newline (last_newline l ls) ∙ ended_push (before_last l ls)
