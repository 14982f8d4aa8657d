-- The least number with a property that can be decided. Assumes nothing.
use Rattle.std.proofs.Common.{ℕ, zero, suc, ◌<◌, ◌≤◌, ◌⊎◌, subst, inl, inr, arith}
use native.Mathlib.Decide.{dec_le, dec_lt, ℕ_discrete}

-- the least number with the property P
pub record Least (P : ℕ → Type 0) : Type 0 where
  pub value : ℕ
  pub holds : P value
  pub least : (m : ℕ) → P m → value ≤ m

-- no number below n has it
abbrev pub NoneBelow : (ℕ → Type 0) → ℕ → Type 0
NoneBelow P n = (m : ℕ) → m < n → P m → ⊥

module _ (P : ℕ → Type 0) (dec : (n : ℕ) → Dec (P n)) where
  step : (n : ℕ) → NoneBelow P n → Dec (P n) → Least P ⊎ NoneBelow P (suc n)
  step n none (yes p) = inl (record { value = n; holds = p; least = λ m q. elim (dec_le n m) [ yes h ↦ h | no h ↦ absurd (none m (omega arith) q) ] })
  step n none (no np) = inr (λ m h q. elim (ℕ_discrete m n) [ yes e ↦ np (subst P e q) | no e ↦ none m (omega arith) q ])

  go : (n : ℕ) → Least P ⊎ NoneBelow P n → Least P ⊎ NoneBelow P (suc n)
  go n (inl l) = inl l
  go n (inr none) = step n none (dec n)

  pub search_below : (n : ℕ) → Least P ⊎ NoneBelow P n
  search_below zero = inr (λ m h q. omega arith)
  search_below (suc n) = go n (search_below n)

  found : (n : ℕ) → P n → Least P ⊎ NoneBelow P (suc n) → Least P
  found n p (inl l) = l
  found n p (inr none) = absurd (none n (omega arith) p)

  pub least_of : (n : ℕ) → P n → Least P
  least_of n p = found n p (search_below (suc n))

  -- whether some number below n has it
  decide : (n : ℕ) → Least P ⊎ NoneBelow P n → Dec ((m : ℕ) × (m < n) × P m)
  decide n (inr none) = no (λ t. none t.0 t.1 t.2)
  decide n (inl l) =
      elim (dec_lt l.value n) [
        | yes h ↦ yes (l.value, h, l.holds)
        | no h ↦ no (λ t. let e : l.value ≤ t.0 = l.least t.0 t.2 in omega arith)
      ]

  pub decide_below : (n : ℕ) → Dec ((m : ℕ) × (m < n) × P m)
  decide_below n = decide n (search_below n)
