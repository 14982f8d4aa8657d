-- Fewer rows above, with less waits, jitter and work, do less. Assumes nothing.
use Rattle.std.specs.Prelude.{if◌then◌else◌}
use Rattle.std.proofs.Common.{◌≡◌, ℕ, ◌/◌, ◌%◌, ◌≤◌, Bool, true, false, List, [], ◌∷◌, arith}
use Rattle.demand.specs.Demand.{widest}
use Rattle.analysis.specs.Cover.{Above, lowest_bit, waits, working_window, interference}

-- x does no more than y
pub record Milder (x y : Above) : Type 0 where
  pub wait : x.wait ≤ y.wait
  pub jitter : x.jitter ≤ y.jitter
  pub work : (v w : ℕ) → v ≤ w → w ≤ widest → x.work v ≤ y.work w

-- the rows xs under vector u are some of the rows ys under vector v, none of them harder
pub data Easier : List Above → ℕ → List Above → ℕ → Type 0 where
  none : {u v : ℕ} → Easier [] u [] v
  keep : {x y : Above} {xs ys : List Above} {u v : ℕ} → Milder x y → u % 2 ≡ v % 2 → Easier xs (u / 2) ys (v / 2) → Easier (x ∷ xs) u (y ∷ ys) v
  leave : {y : Above} {xs ys : List Above} {u v : ℕ} → Easier xs u ys (v / 2) → Easier xs u (y ∷ ys) v

cond_mono : (b c : Bool) → b ≡ c → (p q r t : ℕ) → p ≤ q → r ≤ t → (if b then p else r) ≤ (if c then q else t)
cond_mono b c e p q r t h k = rw e (go c)
  where
    go : (d : Bool) → (if d then p else r) ≤ (if d then q else t)
    go true = h
    go false = k

same_choice : (u v : ℕ) → u % 2 ≡ v % 2 → lowest_bit u ≡ lowest_bit v
same_choice u v e = rw e

pub waits_easier : {xs ys : List Above} {u v : ℕ} → Easier xs u ys v → waits xs u ≤ waits ys v
waits_easier none = omega arith
waits_easier (keep {x = x} {y = y} {xs = xs} {ys = ys} {u = u} {v = v} m e r) =
    let first : (if lowest_bit u then x.wait else 0) ≤ (if lowest_bit v then y.wait else 0) = cond_mono (lowest_bit u) (lowest_bit v) (same_choice u v e) _ _ 0 0 m.wait (omega arith) in
    let others : waits xs (u / 2) ≤ waits ys (v / 2) = waits_easier r in
    omega arith
waits_easier (leave {y = y} {xs = xs} {ys = ys} {u = u} {v = v} r) =
    let others : waits xs u ≤ waits ys (v / 2) = waits_easier r in
    omega arith

-- and they do so in a window that is no longer
pub interference_easier : {xs ys : List Above} {u v : ℕ} (q t : ℕ) → q ≤ t → Easier xs u ys v → interference xs u q ≤ interference ys v t
interference_easier q t h none = omega arith
interference_easier q t h (keep {x = x} {y = y} {xs = xs} {ys = ys} {u = u} {v = v} m e r) =
    let whole : waits (x ∷ xs) u ≤ waits (y ∷ ys) v = waits_easier (keep m e r) in
    let extra : (if lowest_bit u then 0 else x.jitter) ≤ (if lowest_bit v then 0 else y.jitter) = cond_mono (lowest_bit u) (lowest_bit v) (same_choice u v e) 0 0 _ _ (omega arith) m.jitter in
    let first : x.work (working_window x xs u q) ≤ y.work (working_window y ys v t) =
    m.work (working_window x xs u q) (working_window y ys v t) (omega arith) (omega arith)
    in
    let others : interference xs (u / 2) q ≤ interference ys (v / 2) t = interference_easier q t h r in
    omega arith
interference_easier q t h (leave {y = y} {xs = xs} {ys = ys} {u = u} {v = v} r) =
    let others : interference xs u q ≤ interference ys (v / 2) t = interference_easier q t h r in
    omega arith
