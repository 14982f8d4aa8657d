-- The covering sum, added up from the row just above to the highest. Assumes nothing.
use Rattle.std.specs.Prelude.{if◌then◌else◌}
use Rattle.std.proofs.Common.{◌≡◌, ℕ, ◌+◌, ◌/◌, ◌^◌, List, [], ◌∷◌, ◌++◌, map, length, sym, ap, ◌∙◌, subst, append_assoc, arith}
use Rattle.std.proofs.lemmas.List.{length-append}
use Rattle.std.proofs.lemmas.Nat.{shr-shr}
use Rattle.demand.specs.Demand.{window}
use Rattle.analysis.specs.Cover.{sum_in_u64, Above, lowest_bit, waits, working_window, interference}

-- the sums over these rows
pub record Summed (rest : List Above) (v t alone w n : ℕ) : Type 0 where
  pub waited : w ≡ sum_in_u64 (waits rest v)
  pub needed : n ≡ sum_in_u64 (alone + interference rest v t)

-- with the next higher row
pub summed_more : (a : Above) (rest : List Above) (v t alone w n x m : ℕ) → Summed rest (v / 2) t alone w n → x ≡ sum_in_u64 (w + (if lowest_bit v then a.wait else 0)) → m ≡ sum_in_u64 (n + a.work (window ((t + x) + (if lowest_bit v then 0 else a.jitter)))) → Summed (a ∷ rest) v t alone x m
summed_more a rest v t alone w n x m s e f =
    let waited = s.waited in
    let needed = s.needed in
    let same : window ((t + x) + (if lowest_bit v then 0 else a.jitter)) ≡ working_window a rest v t = omega arith in
    let work = ap a.work same in
    record { waited = omega arith; needed = omega arith }

module _ {H : Type 0} (above : H → Above) (higher : List H) (v t alone : ℕ) where
  -- of the higher rows these are left, and the sums are over those behind them
  pub record Behind (left : List H) (w n : ℕ) : Type 0 where
    pub taken : List H
    pub parts : higher ≡ left ++ taken
    pub sums : Summed (map above taken) (v / 2 ^ length left) t alone w n

  -- the last of those that are left is taken, the row of this index
  pub behind_more : (left fewer : List H) (x : H) (i w n y m : ℕ) → left ≡ fewer ++ x ∷ [] → i ≡ length fewer → Behind left w n → y ≡ sum_in_u64 (w + (if lowest_bit (v / 2 ^ i) then (above x).wait else 0)) → m ≡ sum_in_u64 (n + (above x).work (window ((t + y) + (if lowest_bit (v / 2 ^ i) then 0 else (above x).jitter)))) → Behind fewer y m
  behind_more left fewer x i w n y m e at b f g =
      let one_less : length left ≡ i + 1 = omega (arith, ap length e ∙ length-append fewer (x ∷ [])) in
      let halved : v / 2 ^ length left ≡ v / 2 ^ i / 2 = ap (λ (k : ℕ). v / 2 ^ k) one_less ∙ sym (shr-shr v i 1) in
      record {
        taken = x ∷ b.taken;
        parts = b.parts ∙ ap (λ (xs : List H). xs ++ b.taken) e ∙ append_assoc fewer (x ∷ []) b.taken;
        sums =
            subst (λ (k : ℕ). Summed (map above (x ∷ b.taken)) (v / 2 ^ k) t alone y m) at
            (summed_more (above x) (map above b.taken) (v / 2 ^ i) t alone w n y m (subst (λ (u : ℕ). Summed (map above b.taken) u t alone w n) halved b.sums) f g);
      }
