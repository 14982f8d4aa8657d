-- What a row needs never falls as the window grows, whatever lawful kinds stand above it. Assumes nothing.
use Rattle.std.proofs.Common.{Bor, ℕ, ◌≤◌, List, [], ◌∷◌, map, Some, None, Option, refl, arith}
use Rattle.demand.specs.Demand.{Demand, Lawful, widest}
use Rattle.analysis.specs.declared.higher.Higher.{Higher}
use Rattle.analysis.specs.Candidates.{kind_demand, above_of, need_with}
use Rattle.analysis.specs.Cover.{interference}
use Rattle.analysis.proofs.Easier.{Easier, none, keep, interference_easier}
use Rattle.analysis.proofs.Jumps.{Rises}

module _ {K : Type 0} (demand : K → Demand) (lawful : (k : K) → Lawful (demand k)) where
  work_rises : (o : Option (Bor K)) (v w : ℕ) → v ≤ w → w ≤ widest → (kind_demand demand o).work v ≤ (kind_demand demand o).work w
  work_rises None v w h l = omega arith
  work_rises (Some k) v w h l = (lawful k.now).work_never_falls v w h l

  no_harder : (hs : List (Higher K)) (v : ℕ) → Easier (map (above_of demand) hs) v (map (above_of demand) hs) v
  no_harder [] v = none
  no_harder (h ∷ hs) v =
      keep (record { wait = omega arith; jitter = omega arith; work = work_rises h.kind }) refl (no_harder hs _)

  pub need_rises : (hs : List (Higher K)) (alone : ℕ) → Rises (need_with demand hs alone)
  need_rises hs alone v q t le =
      let more : interference (map (above_of demand) hs) v q ≤ interference (map (above_of demand) hs) v t = interference_easier q t le (no_harder hs v) in
      omega arith
