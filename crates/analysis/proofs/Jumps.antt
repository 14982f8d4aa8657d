-- Windows that need not be tried. Assumes nothing.
use Rattle.std.proofs.Common.{ℕ, ◌<◌, ◌≤◌, le_trans, arith}
use native.Mathlib.Decide.{dec_le}
use Rattle.analysis.specs.Plans.{Covers, LeastCover, NoCover}

-- no window below this one covers
abbrev pub NoneBefore : (ℕ → ℕ → ℕ) → ℕ → ℕ → Type 0
NoneBefore need vectors window = (v t : ℕ) → v < vectors → 1 ≤ t → t < window → need v t ≤ t → ⊥

-- none of the first n vectors covers at the window, and each needs at least `next` by it
abbrev pub NoneAmong : (ℕ → ℕ → ℕ) → ℕ → ℕ → ℕ → Type 0
NoneAmong need n window next = (v : ℕ) → v < n → (window < need v window) × (next ≤ need v window)

-- what is needed never falls as the window grows
abbrev pub Rises : (ℕ → ℕ → ℕ) → Type 0
Rises need = (v q t : ℕ) → q ≤ t → need v q ≤ need v t

module _ (need : ℕ → ℕ → ℕ) where
  -- no window up to the next one covers
  pub jump : (vectors window next : ℕ) → Rises need → NoneBefore need vectors window → NoneAmong need vectors window next → NoneBefore need vectors next
  jump vectors window next rises before among v t h one l c = elim (dec_le window t) [
    | yes w ↦ let more = rises v window t w in let least = (among v h).1 in omega arith
    | no w ↦ before v t h one (omega arith) c
  ]

  pub covered : (deadline vectors window v next : ℕ) → 1 ≤ window → window ≤ deadline → v < vectors → NoneBefore need vectors window → NoneAmong need v window next → need v window ≤ window → LeastCover need deadline vectors window v
  covered deadline vectors window v next one within h before among c =
      record {
        covers = record { from_one = one; to_deadline = within; vector = h; covered = c };
        least = λ u w x. elim (dec_le window u) [
          | yes l ↦ l
          | no l ↦ absurd (before w u x.vector x.from_one (omega arith) x.covered)
        ];
        smallest = λ w x. elim (dec_le v w) [
          | yes l ↦ l
          | no l ↦ let more = (among w (omega arith)).0 in let less = x.covered in absurd (omega arith)
        ];
      }

  pub uncovered : (deadline vectors window : ℕ) → deadline < window → NoneBefore need vectors window → NoCover need deadline vectors
  uncovered deadline vectors window past before v t x = before v t x.vector x.from_one (let l = x.to_deadline in omega arith) x.covered

-- a need that is no larger than another, and the same where that other is found covered
module _ (n m : ℕ → ℕ → ℕ) (deadline vectors : ℕ) (no_larger : (v t : ℕ) → n v t ≤ m v t) where
  covers_less : (v t : ℕ) → Covers m deadline vectors v t → Covers n deadline vectors v t
  covers_less v t c =
      record {
        from_one = c.from_one;
        to_deadline = c.to_deadline;
        vector = c.vector;
        covered = le_trans (no_larger v t) c.covered;
      }

  pub least_cover_same : (t v : ℕ) → (n v t ≤ t → m v t ≤ t) → LeastCover n deadline vectors t v → LeastCover m deadline vectors t v
  least_cover_same t v here l =
      record {
        covers =
            record {
              from_one = l.covers.from_one;
              to_deadline = l.covers.to_deadline;
              vector = l.covers.vector;
              covered = here l.covers.covered;
            };
        least = λ u w c. l.least u w (covers_less w u c);
        smallest = λ w c. l.smallest w (covers_less w t c);
      }

  pub no_cover_same : NoCover n deadline vectors → NoCover m deadline vectors
  no_cover_same none v t c = none v t (covers_less v t c)
