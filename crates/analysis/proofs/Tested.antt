-- Bounds at small numbers, by tests that antt computes. Assumes nothing.
use Rattle.std.proofs.Common.{ℕ, zero, suc, ◌<◌, Bool, true, false, T, ltb, leb, sym, subst, zero-le, not-suc-le-zero, arith, ltb→lt, leb→le}
use native.Mathlib.Decide.{ℕ_discrete, dec_le}
use Rattle.analysis.specs.Plans.{System, Bound, Fixed, NoCover}
use Rattle.analysis.proofs.Jumps.{NoneBefore, covered, uncovered}

abbrev both : Bool → Bool → Bool
both true b = b
both false b = false

left : (a b : Bool) → T (both a b) → T a
left true b t = tt
left false b t = t

right : (a b : Bool) → T (both a b) → T b
right true b t = t
right false b t = absurd t

-- none of the first n vectors covers at window t
abbrev uncovered_at : (ℕ → ℕ → ℕ) → ℕ → ℕ → Bool
uncovered_at need zero t = true
uncovered_at need (suc v) t = both (ltb t (need v t)) (uncovered_at need v t)

-- none covers at any window below t
abbrev uncovered_before : (ℕ → ℕ → ℕ) → ℕ → ℕ → Bool
uncovered_before need n zero = true
uncovered_before need n (suc t) = both (uncovered_at need n t) (uncovered_before need n t)

at_each : (need : ℕ → ℕ → ℕ) (n t : ℕ) → T (uncovered_at need n t) → (v : ℕ) → v < n → t < need v t
at_each need zero t h v l = absurd (not-suc-le-zero l)
at_each need (suc n) t h v l = elim (ℕ_discrete v n) [
  | yes e ↦ subst (λ (w : ℕ). t < need w t) (sym e) (ltb→lt t (need n t) (left (ltb t (need n t)) (uncovered_at need n t) h))
  | no ne ↦ at_each need n t (right (ltb t (need n t)) (uncovered_at need n t) h) v (omega arith)
]

before_each : (need : ℕ → ℕ → ℕ) (n t : ℕ) → T (uncovered_before need n t) → NoneBefore need n t
before_each need n zero h v u l one lt c = not-suc-le-zero lt
before_each need n (suc t) h v u l one lt c = elim (ℕ_discrete u t) [
  | yes e ↦
      let more : u < need v u = subst (λ (w : ℕ). w < need v w) (sym e) (at_each need n t (left (uncovered_at need n t) (uncovered_before need n t) h) v l) in
      omega arith
  | no ne ↦ before_each need n t (right (uncovered_at need n t) (uncovered_before need n t) h) v u l one (omega arith) c
]

-- a bound: the window and the vector are in range and cover, and neither a smaller window nor a smaller vector does
pub bound_by : (s : System) (R : ℕ → ℕ) (k t v : ℕ) → T (leb 1 t) → T (leb t (s.deadline k)) → T (ltb v (s.vectors k)) → T (uncovered_before (s.need k R) (s.vectors k) t) → T (uncovered_at (s.need k R) v t) → T (leb (s.need k R v t) t) → Bound s R k t v
bound_by s R k t v one limit small before among c =
    covered (s.need k R) (s.deadline k) (s.vectors k) t v 0 (leb→le 1 t one) (leb→le t (s.deadline k) limit) (ltb→lt v (s.vectors k) small)
    (before_each (s.need k R) (s.vectors k) t before) (λ w l. (at_each (s.need k R) v t among w l, zero-le)) (leb→le (s.need k R v t) t c)

-- the least window under one vector
pub fixed_by : (s : System) (R : ℕ → ℕ) (k v t : ℕ) → T (leb 1 t) → T (leb t (s.deadline k)) → T (ltb v (s.vectors k)) → T (uncovered_before (λ _ u. s.need k R v u) 1 t) → T (leb (s.need k R v t) t) → Fixed s R k v t
fixed_by s R k v t one limit small before c =
    record {
      covers =
          record {
            from_one = leb→le 1 t one;
            to_deadline = leb→le t (s.deadline k) limit;
            vector = ltb→lt v (s.vectors k) small;
            covered = leb→le (s.need k R v t) t c;
          };
      least = λ u w. elim (dec_le t u) [
        | yes h ↦ h
        | no h ↦ absurd (before_each (λ _ x. s.need k R v x) 1 t before 0 u (omega arith) w.from_one (omega arith) w.covered)
      ];
    }

-- no window covers a rank by its deadline
pub late_by : (s : System) (R : ℕ → ℕ) (k : ℕ) → T (uncovered_before (s.need k R) (s.vectors k) (suc (s.deadline k))) → NoCover (s.need k R) (s.deadline k) (s.vectors k)
late_by s R k before =
    uncovered (s.need k R) (s.deadline k) (s.vectors k) (suc (s.deadline k)) (omega arith) (before_each (s.need k R) (s.vectors k) (suc (s.deadline k)) before)
