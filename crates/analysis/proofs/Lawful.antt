-- What rows of lawful kinds need never falls when the bounds above grow. Assumes nothing.
use Rattle.std.proofs.Common.{ℕ, zero, suc, ◌<◌, ◌≤◌, List, [], ◌∷◌, take, refl, arith}
use Rattle.std.specs.List.{All}
use Rattle.std.proofs.lemmas.List.Elements.{All-nil, All-cons, All-head, All-tail}
use Rattle.demand.specs.Demand.{Lawful}
use Rattle.analysis.specs.Cover.{interference}
use Rattle.analysis.specs.Ranks.{Claim, Load, aboves, loads_of, system}
use Rattle.analysis.specs.declared.Row.{Row}
use Rattle.analysis.proofs.Easier.{Easier, none, keep, interference_easier}
use Rattle.analysis.proofs.Best.{Grows}

-- each of these rows has a lawful kind
abbrev pub AllLawful : List Claim → Type 0
AllLawful = All (λ c. Lawful c.demand)

abbrev pub LawfulLoads : List Load → Type 0
LawfulLoads = All (λ l. Lawful l.claim.demand)

pub lawful_loads : (all : List Row) (cs : List Claim) → AllLawful cs → LawfulLoads (loads_of all cs)
lawful_loads all [] h = All-nil (λ (l : Load). Lawful l.claim.demand)
lawful_loads all (c ∷ cs) h =
    All-cons (λ (l : Load). Lawful l.claim.demand) _ (loads_of all cs) (All-head (λ (d : Claim). Lawful d.demand) c cs h)
    (lawful_loads all cs (All-tail (λ (d : Claim). Lawful d.demand) c cs h))

-- the first of these, and the others
pub first_lawful : (l : Load) (ls : List Load) → LawfulLoads (l ∷ ls) → Lawful l.claim.demand
first_lawful = All-head (λ l. Lawful l.claim.demand)

pub others_lawful : (l : Load) (ls : List Load) → LawfulLoads (l ∷ ls) → LawfulLoads ls
others_lawful = All-tail (λ l. Lawful l.claim.demand)

-- the same rows under smaller bounds
pub same_rows : (ls : List Load) → LawfulLoads ls → (k : ℕ) (R Q : ℕ → ℕ) → ((i : ℕ) → i < k → R i ≤ Q i) → (v : ℕ) → Easier (take k (aboves ls R)) v (take k (aboves ls Q)) v
same_rows ls h zero R Q le v = none
same_rows [] h (suc k) R Q le v = none
same_rows (l ∷ ls) h (suc k) R Q le v =
    let first : R 0 ≤ Q 0 = le 0 (omega arith) in
    keep (record { wait = omega arith; jitter = omega arith; work = (first_lawful l ls h).work_never_falls }) refl
    (same_rows ls (others_lawful l ls h) k (λ i. R (suc i)) (λ i. Q (suc i)) (λ i m. le (suc i) (omega arith)) _)

pub grows : (ls : List Load) → LawfulLoads ls → Grows (system ls)
grows ls h k R Q v t le =
    let more : interference (take k (aboves ls R)) v t ≤ interference (take k (aboves ls Q)) v t = interference_easier t t (omega arith) (same_rows ls h k R Q le v) in
    omega arith
