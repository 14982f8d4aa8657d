-- Taking rows out of ranked rows that are in time leaves the rest in time. Assumes nothing.
use Rattle.std.proofs.Common.{◌≡◌, ℕ, zero, suc, ◌+◌, ◌-◌, ◌*◌, ◌/◌, ◌%◌, ◌^◌, ◌<◌, ◌≤◌, List, [], ◌∷◌, length, take, sym, refl, ap, ◌∙◌, subst, not-suc-le-zero, mul_comm, pow-suc, arith}
use Rattle.demand.specs.Demand.{Lawful}
use Rattle.analysis.specs.declared.Row.{Row}
use Rattle.analysis.specs.Cover.{interference}
use Rattle.analysis.specs.Plans.{Window, Bounds}
use Rattle.analysis.specs.Ranks.{Claim, Load, wait, aboves, load_at, rows, loads_of, loads, ranking, system, system_of}
use Rattle.analysis.specs.Removal.{SomeOf, none, keep, leave, rank_of, RemovalKeepsInTime}
use Rattle.analysis.proofs.Blocked.{Lighter, lighter, lighter_rank}
use Rattle.analysis.proofs.Easier as easier
use Rattle.analysis.proofs.Easier.{Easier, Milder, interference_easier}
use Rattle.analysis.proofs.Lawful.{AllLawful, LawfulLoads, first_lawful, others_lawful, lawful_loads, grows}
use Rattle.analysis.proofs.Ranked.{length_ranked}
use Rattle.analysis.proofs.SomeRanked.{all_kept, some_ranked}
use Rattle.analysis.proofs.Settled.{NoLargerBound, bound_exists, put, bounds_more, no_larger_more}

milder : (l m : Load) → Lighter l m → Lawful m.claim.demand → (q r : ℕ) → q ≤ r → Milder (record { wait = wait l; jitter = q - l.claim.demand.least; work = l.claim.demand.work }) (record { wait = wait m; jitter = r - m.claim.demand.least; work = m.claim.demand.work })
milder l m h lawful q r le =
    let suspension : l.claim.row.suspension ≡ m.claim.row.suspension = ap (λ (c : Claim). c.row.suspension) h.claim in
    let least : l.claim.demand.least ≡ m.claim.demand.least = ap (λ (c : Claim). c.demand.least) h.claim in
    let blocked = h.blocked in
    record {
      wait = omega arith;
      jitter = omega arith;
      work = λ v w a b. subst (λ (c : Claim). c.demand.work v ≤ m.claim.demand.work w) (sym h.claim) (lawful.work_never_falls v w a b);
    }

double : (k : ℕ) → 2 ^ suc k ≡ 2 * 2 ^ k
double k = pow-suc 2 k ∙ mul_comm (2 ^ k) 2

-- the rows above that are left do no more, under some vector
fewer_rows : {ls ms : List Load} (s : SomeOf Lighter ls ms) → LawfulLoads ms → (k : ℕ) → k < length ls → (Q R : ℕ → ℕ) → ((i : ℕ) → i < k → Q i ≤ R (rank_of s i)) → (v : ℕ) → (u : ℕ) × (u < 2 ^ k) × Easier (take k (aboves ls Q)) u (take (rank_of s k) (aboves ms R)) v
fewer_rows none lawful k h Q R le v = absurd (not-suc-le-zero h)
fewer_rows (keep e s) lawful zero h Q R le v = (0, omega arith, easier.none)
fewer_rows (keep {a = l} {b = m} {xs = ls} {ys = ms} e s) lawful (suc k) h Q R le v =
    let rest = fewer_rows s (others_lawful m ms lawful) k (omega arith) (λ i. Q (suc i)) (λ i. R (suc i)) (λ i j. le (suc i) (omega arith)) (v / 2) in
    let u : ℕ = rest.0 in
    let small : u < 2 ^ k = rest.1 in
    let half : (v % 2 + 2 * u) / 2 ≡ u = omega arith in
    let bit : (v % 2 + 2 * u) % 2 ≡ v % 2 = omega arith in (
      v % 2 + 2 * u,
      omega (arith, double k),
      easier.keep (milder l m e (first_lawful m ms lawful) (Q 0) (R 0) (le 0 (omega arith))) bit
          (subst (λ (n : ℕ). Easier (take k (aboves ls (λ i. Q (suc i)))) n (take (rank_of s k) (aboves ms (λ i. R (suc i)))) (v / 2)) (sym half) rest.2),
    )
fewer_rows (leave {b = m} {ys = ms} s) lawful k h Q R le v =
    let rest = fewer_rows s (others_lawful m ms lawful) k h Q (λ i. R (suc i)) le (v / 2) in
    (rest.0, rest.1, easier.leave rest.2)

at_rank : {ls ms : List Load} (s : SomeOf Lighter ls ms) (k : ℕ) → k < length ls → Lighter (load_at ls k) (load_at ms (rank_of s k)) × (rank_of s k < length ms)
at_rank none k h = absurd (not-suc-le-zero h)
at_rank (keep e s) zero h = (e, omega arith)
at_rank (keep e s) (suc k) h = let r = at_rank s k (omega arith) in (r.0, omega (arith, r.1))
at_rank (leave s) k h = let r = at_rank s k h in (r.0, omega (arith, r.1))

-- a window of a row among all rows is one among those that are left
window_left : {ls ms : List Load} (s : SomeOf Lighter ls ms) → LawfulLoads ms → (k : ℕ) → k < length ls → (Q R : ℕ → ℕ) → ((i : ℕ) → i < k → Q i ≤ R (rank_of s i)) → (v t : ℕ) → Window (system ms) R (rank_of s k) v t → (u : ℕ) × (u < 2 ^ k) × Window (system ls) Q k u t
window_left {ls} {ms} s lawful k h Q R le v t w =
    let rest = fewer_rows s lawful k h Q R le v in
    let here = (at_rank s k h).0 in
    let own : (load_at ls k).claim.demand.own ≡ (load_at ms (rank_of s k)).claim.demand.own = ap (λ (c : Claim). c.demand.own) here.claim in
    let suspension : (load_at ls k).claim.row.suspension ≡ (load_at ms (rank_of s k)).claim.row.suspension = ap (λ (c : Claim). c.row.suspension) here.claim in
    let deadline : (load_at ls k).claim.row.deadline ≡ (load_at ms (rank_of s k)).claim.row.deadline = ap (λ (c : Claim). c.row.deadline) here.claim in
    let blocked = here.blocked in
    let more : interference (take k (aboves ls Q)) rest.0 t ≤ interference (take (rank_of s k) (aboves ms R)) v t = interference_easier t t (omega arith) rest.2 in
    let limit = w.to_deadline in
    let covered = w.covered in (
      rest.0,
      rest.1,
      record {
        from_one = w.from_one;
        to_deadline = omega arith;
        vector = rest.1;
        covered = omega arith;
      },
    )

-- the bounds of the first n rows that are left
record SoFar {ls ms : List Load} (kept : SomeOf Lighter ls ms) (R : ℕ → ℕ) (n : ℕ) : Type 0 where
  Q : ℕ → ℕ
  W : ℕ → ℕ
  bounds : Bounds (system ls) n Q W
  no_larger : (k : ℕ) → k < n → Q k ≤ R (rank_of kept k)

module _ {ls ms : List Load} (kept : SomeOf Lighter ls ms) (fewer : LawfulLoads ls) (lawful : LawfulLoads ms) (R V : ℕ → ℕ) (bounds : Bounds (system ms) (length ms) R V) where
  extended : (n : ℕ) (o : SoFar kept R n) → NoLargerBound (system ls) o.Q n (R (rank_of kept n)) → SoFar kept R (suc n)
  extended n o found =
      record {
        Q = put o.Q n found.0;
        W = put o.W n found.1;
        bounds = bounds_more (system ls) (grows ls fewer) n o.Q o.W o.bounds found.0 found.1 found.3;
        no_larger = no_larger_more n o.Q (λ k. R (rank_of kept k)) o.no_larger found.0 found.2;
      }

  one_more : (n : ℕ) → n < length ls → SoFar kept R n → SoFar kept R (suc n)
  one_more n h o =
      extended n o
      (bound_exists (system ls) o.Q n (R (rank_of kept n))
      (window_left kept lawful n h o.Q R o.no_larger (V (rank_of kept n)) (R (rank_of kept n)) (bounds (rank_of kept n) (at_rank kept n h).1).covers))

  all_left : (n : ℕ) → n ≤ length ls → SoFar kept R n
  all_left zero h = record { Q = λ k. 0; W = λ k. 0; bounds = λ k l. absurd (not-suc-le-zero l); no_larger = λ k l. absurd (not-suc-le-zero l) }
  all_left (suc n) h = one_more n h (all_left n (omega arith))

length_loads : (all : List Row) (cs : List Claim) → length (loads_of all cs) ≡ length cs
length_loads all [] = refl
length_loads all (c ∷ cs) = ap suc (length_loads all cs)

-- the ranked rows xs, which are some of ys, are in time with bounds no larger
record RankedStill (xs ys : List Claim) (kept : SomeOf ◌≡◌ xs ys) (R : ℕ → ℕ) : Type 0 where
  Q : ℕ → ℕ
  W : ℕ → ℕ
  bounds : Bounds (system (loads xs)) (length xs) Q W
  no_larger : (k : ℕ) → k < length xs → Q k ≤ R (rank_of kept k)

ranked_still : (ys : List Claim) → AllLawful ys → (R V : ℕ → ℕ) → Bounds (system (loads ys)) (length ys) R V → (xs : List Claim) (kept : SomeOf ◌≡◌ xs ys) → RankedStill xs ys kept R
ranked_still ys lawful R V bounds xs kept =
    record {
      Q = left.Q;
      W = left.W;
      bounds = left.bounds;
      no_larger = λ k h. subst (λ (i : ℕ). left.Q k ≤ R i) (lighter_rank kept k) (left.no_larger k h);
    }
  where
    left : SoFar (lighter kept) R (length xs)
    left =
        all_left (lighter kept) (lawful_loads (rows xs) xs (all_kept (λ (c : Claim). Lawful c.demand) kept lawful)) (lawful_loads (rows ys) ys lawful) R V
        (subst (λ (n : ℕ). Bounds (system (loads ys)) n R V) (sym (length_loads (rows ys) ys)) bounds)
        (length xs) (let e = length_loads (rows xs) xs in omega arith)

pub removal_keeps_in_time : (all : List Claim) → AllLawful (ranking all) → RemovalKeepsInTime all
removal_keeps_in_time all lawful R V bounds distinct rest some =
    let kept : SomeOf ◌≡◌ (ranking rest) (ranking all) = some_ranked some distinct in
    let same : length (ranking all) ≡ length all = length_ranked all in
    let fewer : length (ranking rest) ≡ length rest = length_ranked rest in
    let left = ranked_still (ranking all) lawful R V (subst (λ (n : ℕ). Bounds (system_of all) n R V) (sym same) bounds) (ranking rest) kept in
    record {
      kept = kept;
      Q = left.Q;
      W = left.W;
      bounds = subst (λ (n : ℕ). Bounds (system_of rest) n left.Q left.W) fewer left.bounds;
      no_larger = λ k h. left.no_larger k (omega arith);
    }
