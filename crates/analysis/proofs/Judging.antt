-- Ranked rows judged from the top down. Assumes nothing.
use Rattle.std.specs.Prelude.{if◌then◌else◌}
use Rattle.std.proofs.Common.{◌≡◌, ℕ, zero, suc, ◌+◌, ◌-◌, ◌*◌, ◌^◌, ◌<◌, ◌≤◌, max, List, [], ◌∷◌, ◌++◌, map, length, slice_index_or, take, drop, None, Option, sym, refl, ap, ◌∙◌, subst, ap₂, subst₂, not-suc-le-zero, add-one, arith}
use mathlib.Core.Path.{subst₃}
use native.Mathlib.Decide.{ℕ_discrete}
use Rattle.std.proofs.lemmas.List.{get_or_append_left, get_or_push, length-append, map-append}
use Rattle.demand.specs.Demand.{Demand}
use Rattle.analysis.specs.declared.Answer.{Answer}
use Rattle.analysis.specs.declared.higher.Higher.{Higher}
use Rattle.analysis.specs.declared.Rank.{Rank}
use Rattle.analysis.specs.declared.Row.{Row}
use Rattle.analysis.specs.declared.Task.{Task}
use Rattle.analysis.specs.Candidates.{above_of, need_with, claim_of}
use Rattle.analysis.specs.Cover.{Above, interference}
use Rattle.analysis.specs.Judge.{RankAnswered, RowAnswered, Answered, no_answer, bounds_of, vectors_of}
use Rattle.analysis.specs.Locks.{ceiling, reaches, section, longest_in_row, longest_in, blocking}
use Rattle.analysis.specs.Places.{ranked_rows, no_rank}
use Rattle.analysis.specs.Plans.{LeastCover, NoCover, Bound, Bounds, FirstLate}
use Rattle.analysis.specs.Ranks.{Claim, Load, wait, rows, loads_of, loads, aboves, load_at, system}

-- ceilings that agree on the eight locks block alike
longest_of_same : (c d : ℕ → Option ℕ) (p : ℕ) (r : Row) (n : ℕ) → ((lock : ℕ) → lock < n → c lock ≡ d lock) → longest_in_row c p r n ≡ longest_in_row d p r n
longest_of_same c d p r zero e = refl
longest_of_same c d p r (suc n) e =
    ap₂ (λ (m : ℕ) (o : Option ℕ). max m (if reaches o p then section r n else 0)) (longest_of_same c d p r n (λ lock h. e lock (omega arith))) (e n (omega arith))

pub longest_same : (c d : ℕ → Option ℕ) → ((lock : ℕ) → lock < 8 → c lock ≡ d lock) → (p : ℕ) (rs : List Row) → longest_in c p rs ≡ longest_in d p rs
longest_same c d e p [] = refl
longest_same c d e p (r ∷ rs) = ap₂ max (longest_of_same c d p r 8 e) (longest_same c d e p rs)

-- the blocking by ceilings that were worked out beforehand
pub blocked_is : (rs lower : List Rank) (k : ℕ) (ceilings : List (Option ℕ)) → ((lock : ℕ) → lock < 8 → slice_index_or ceilings lock None ≡ ceiling (ranked_rows rs) lock) → lower ≡ drop (k + 1) rs → (n : ℕ) → n ≡ ((slice_index_or rs k no_rank).row.suspensions + 1) * longest_in (λ lock. slice_index_or ceilings lock None) (slice_index_or rs k no_rank).row.priority (ranked_rows lower) → n ≡ blocking (ranked_rows rs) (slice_index_or rs k no_rank).row (ranked_rows (drop (k + 1) rs))
blocked_is rs lower k ceilings each e n is =
    is
    ∙ ap (λ (m : ℕ). ((slice_index_or rs k no_rank).row.suspensions + 1) * m)
    (longest_same (λ lock. slice_index_or ceilings lock None) (ceiling (ranked_rows rs)) each (slice_index_or rs k no_rank).row.priority (ranked_rows lower)
    ∙ ap (λ (xs : List Rank). longest_in (ceiling (ranked_rows rs)) (slice_index_or rs k no_rank).row.priority (ranked_rows xs)) e)

abbrev needing : ℕ → List Above → ℕ → ℕ → ℕ
needing n xs v t = n + interference xs v t

-- what the rows below meet depends on the bounds above alone
aboves_same : (ls : List Load) (k : ℕ) (R Q : ℕ → ℕ) → ((i : ℕ) → i < k → R i ≡ Q i) → take k (aboves ls R) ≡ take k (aboves ls Q)
aboves_same ls zero R Q e = refl
aboves_same [] (suc k) R Q e = refl
aboves_same (l ∷ ls) (suc k) R Q e =
    ap₂ (λ (b : ℕ) (xs : List Above). record { wait = wait l; jitter = b - l.claim.demand.least; work = l.claim.demand.work } ∷ xs)
    (e 0 (omega arith)) (aboves_same ls k (λ i. R (suc i)) (λ i. Q (suc i)) (λ i h. e (suc i) (omega arith)))

abbrev to_above : ℕ → ℕ → (ℕ → ℕ) → Above
to_above w j p = record { wait = w; jitter = j; work = p }

same_above : {w x j i : ℕ} {p q : ℕ → ℕ} → w ≡ x → j ≡ i → p ≡ q → to_above w j p ≡ to_above x i q
same_above e f g = λ i. to_above (e i) (f i) (g i)

-- the row of a load under its bound
abbrev met : Load → ℕ → Above
met l b = record { wait = wait l; jitter = b - l.claim.demand.least; work = l.claim.demand.work }

aboves_more : (ls : List Load) (k : ℕ) (R : ℕ → ℕ) → k < length ls → take (suc k) (aboves ls R) ≡ take k (aboves ls R) ++ met (load_at ls k) (R k) ∷ []
aboves_more [] k R h = absurd (not-suc-le-zero h)
aboves_more (l ∷ ls) zero R h = refl
aboves_more (l ∷ ls) (suc k) R h = ap (λ xs. met l (R 0) ∷ xs) (aboves_more ls k (λ i. R (suc i)) (omega arith))

module _ {K : Type 0} (demand : K → Demand) (places : List (Option (Task K))) (newcomer : Option (Task K)) where
  abbrev pub claim : Rank → Claim
  claim = claim_of demand places newcomer

  abbrev pub above : Higher K → Above
  above = above_of demand

  pub rows_of_claims : (rs : List Rank) → rows (map claim rs) ≡ ranked_rows rs
  rows_of_claims [] = refl
  rows_of_claims (r ∷ rs) = ap (λ xs. r.row ∷ xs) (rows_of_claims rs)

  at_loads : (all : List Row) (rs : List Rank) (k : ℕ) → k < length rs → load_at (loads_of all (map claim rs)) k ≡ record { claim = claim (slice_index_or rs k no_rank); blocked = blocking all (slice_index_or rs k no_rank).row (ranked_rows (drop (suc k) rs)) }
  at_loads all [] k h = absurd (not-suc-le-zero h)
  at_loads all (r ∷ rs) zero h =
      ap (λ (below : List Row). record { claim = claim r; blocked = blocking all r.row below }) (rows_of_claims rs)
  at_loads all (r ∷ rs) (suc k) h = at_loads all rs k (omega arith)

  pub length_loads : (all : List Row) (rs : List Rank) → length (loads_of all (map claim rs)) ≡ length rs
  length_loads all [] = refl
  length_loads all (r ∷ rs) = ap suc (length_loads all rs)

  -- the first k rows are answered, and seen as the rows below meet them
  pub record SoFar (ls : List Load) (k : ℕ) (answers : List Answer) (higher : List (Higher K)) : Type 0 where
    pub count : length answers ≡ k
    pub above_count : length higher ≡ k
    pub seen : map above higher ≡ take k (aboves ls (bounds_of answers))
    pub rows : (j : ℕ) → j < k → RowAnswered (load_at ls j) (slice_index_or answers j no_answer)
    pub bounds : Bounds (system ls) k (bounds_of answers) (vectors_of answers)

  module _ (rs : List Rank) (k : ℕ) (within : k < length rs) (blocked : ℕ) (is_blocked : blocked ≡ blocking (ranked_rows rs) (slice_index_or rs k no_rank).row (ranked_rows (drop (k + 1) rs))) where
    abbrev all_loads : List Load
    all_loads = loads (map claim rs)

    here : load_at all_loads k ≡ record { claim = claim (slice_index_or rs k no_rank); blocked = blocked }
    here =
        at_loads (rows (map claim rs)) rs k within
        ∙ ap (λ (n : ℕ). record { claim = claim (slice_index_or rs k no_rank); blocked = n })
        (ap₂ (λ (all below : List Row). blocking all (slice_index_or rs k no_rank).row below) (rows_of_claims rs) (ap (λ (n : ℕ). ranked_rows (drop n rs)) (sym (add-one k)))
        ∙ sym is_blocked)

    module _ (answers : List Answer) (higher : List (Higher K)) (so_far : SoFar all_loads k answers higher) where
      -- what holds of the need that the code sees holds of the row's
      settled : (P : (ℕ → ℕ → ℕ) → ℕ → ℕ → Type 0) → P (need_with demand higher ((claim (slice_index_or rs k no_rank)).demand.own + ((slice_index_or rs k no_rank).row.suspension + blocked))) (slice_index_or rs k no_rank).row.deadline (2 ^ length higher) → P ((system all_loads).need k (bounds_of answers)) ((system all_loads).deadline k) ((system all_loads).vectors k)
      settled P p =
          let alone : (claim (slice_index_or rs k no_rank)).demand.own + ((slice_index_or rs k no_rank).row.suspension + blocked) ≡ (load_at all_loads k).claim.demand.own + wait (load_at all_loads k) = sym (ap (λ (l : Load). l.claim.demand.own + wait l) here) in
          let needs : need_with demand higher ((claim (slice_index_or rs k no_rank)).demand.own + ((slice_index_or rs k no_rank).row.suspension + blocked)) ≡ (system all_loads).need k (bounds_of answers) =
          ap₂ needing alone so_far.seen
          in
          subst₃ P needs (sym (ap (λ (l : Load). l.claim.row.deadline) here)) (ap (λ (n : ℕ). 2 ^ n) so_far.above_count) p

      pub first_late : NoCover (need_with demand higher ((claim (slice_index_or rs k no_rank)).demand.own + ((slice_index_or rs k no_rank).row.suspension + blocked))) (slice_index_or rs k no_rank).row.deadline (2 ^ length higher) → FirstLate (system all_loads) k
      first_late none =
          record {
            R = bounds_of answers;
            V = vectors_of answers;
            within = let e = length_loads (rows (map claim rs)) rs in omega arith;
            above = so_far.bounds;
            none = settled NoCover none;
          }

      pub late_number : (slice_index_or rs k no_rank).row.number ≡ (load_at all_loads k).claim.row.number
      late_number = sym (ap (λ (l : Load). l.claim.row.number) here)

      module _ (a : Answer) (h : Higher K) (answered : RankAnswered demand places newcomer higher (slice_index_or rs k no_rank) blocked a h) where
        abbrev more : List Answer
        more = answers ++ a ∷ []

        kept_answer : (i : ℕ) → i < k → slice_index_or more i no_answer ≡ slice_index_or answers i no_answer
        kept_answer i l = get_or_append_left answers (a ∷ []) no_answer i (let c = so_far.count in omega arith)

        new_answer : slice_index_or more k no_answer ≡ a
        new_answer = get_or_push answers a no_answer k so_far.count

        kept_bound : (i : ℕ) → i < k → bounds_of answers i ≡ bounds_of more i
        kept_bound i l = ap (λ (x : Answer). x.bound) (sym (kept_answer i l))

        kept_vector : (i : ℕ) → i < k → vectors_of answers i ≡ vectors_of more i
        kept_vector i l = ap (λ (x : Answer). x.vector) (sym (kept_answer i l))

        -- a bound stays one, since the bounds above it stay
        still_bound : (j t v : ℕ) → j ≤ k → Bound (system all_loads) (bounds_of answers) j t v → Bound (system all_loads) (bounds_of more) j t v
        still_bound j t v l b =
            subst (λ (xs : List Above). LeastCover (needing ((load_at all_loads j).claim.demand.own + wait (load_at all_loads j)) xs) ((system all_loads).deadline j) ((system all_loads).vectors j) t v)
            (aboves_same all_loads j (bounds_of answers) (bounds_of more) (λ i m. kept_bound i (omega arith))) b

        bounds_kept : (j : ℕ) → j < k → Bound (system all_loads) (bounds_of more) j (bounds_of more j) (vectors_of more j)
        bounds_kept j l =
            subst₂ (Bound (system all_loads) (bounds_of more) j) (kept_bound j l) (kept_vector j l)
            (still_bound j (bounds_of answers j) (vectors_of answers j) (omega arith) (so_far.bounds j l))

        bound_here : Bound (system all_loads) (bounds_of more) k (bounds_of more k) (vectors_of more k)
        bound_here =
            subst (λ (x : Answer). Bound (system all_loads) (bounds_of more) k x.bound x.vector) (sym new_answer)
            (still_bound k a.bound a.vector (omega arith) (settled (λ n d m. LeastCover n d m a.bound a.vector) answered.bound))

        row_here : RowAnswered (load_at all_loads k) (slice_index_or more k no_answer)
        row_here =
            subst (λ (x : Answer). RowAnswered (load_at all_loads k) x) (sym new_answer)
            (subst (λ (l : Load). RowAnswered l a) (sym here) (record { number = answered.number; blocking = answered.blocking }))

        met_here : above h ≡ met (load_at all_loads k) (bounds_of more k)
        met_here =
            same_above answered.wait answered.jitter (ap (λ (d : Demand). d.work) answered.kind)
            ∙ ap₂ met (sym here) (ap (λ (x : Answer). x.bound) (sym new_answer))

        seen_more : map above (higher ++ h ∷ []) ≡ take (k + 1) (aboves all_loads (bounds_of more))
        seen_more =
            let count = length_loads (rows (map claim rs)) rs in
            map-append above higher (h ∷ [])
            ∙ ap₂ (λ (xs : List Above) (x : Above). xs ++ x ∷ []) (so_far.seen ∙ aboves_same all_loads k (bounds_of answers) (bounds_of more) kept_bound) met_here
            ∙ sym (ap (λ (n : ℕ). take n (aboves all_loads (bounds_of more))) (add-one k) ∙ aboves_more all_loads k (bounds_of more) (omega arith))

        up_to : (P : ℕ → Type 0) → ((j : ℕ) → j < k → P j) → P k → (j : ℕ) → j < k + 1 → P j
        up_to P below at_k j l = elim (ℕ_discrete j k) [ yes e ↦ subst P (sym e) at_k | no ne ↦ below j (omega arith) ]

        pub judged_more : SoFar all_loads (k + 1) more (higher ++ h ∷ [])
        judged_more =
            record {
              count = let c = so_far.count in omega (arith, length-append answers (a ∷ []));
              above_count = let c = so_far.above_count in omega (arith, length-append higher (h ∷ []));
              seen = seen_more;
              rows =
                  up_to (λ j. RowAnswered (load_at all_loads j) (slice_index_or more j no_answer))
                  (λ j l. subst (λ (x : Answer). RowAnswered (load_at all_loads j) x) (sym (kept_answer j l)) (so_far.rows j l)) row_here;
              bounds = up_to (λ j. Bound (system all_loads) (bounds_of more) j (bounds_of more j) (vectors_of more j)) bounds_kept bound_here;
            }

  -- all rows are answered
  pub all_answered : (ls : List Load) (answers : List Answer) (higher : List (Higher K)) → SoFar ls (length ls) answers higher → Answered ls answers
  all_answered ls answers higher s = record { count = s.count; rows = s.rows; bounds = s.bounds }
