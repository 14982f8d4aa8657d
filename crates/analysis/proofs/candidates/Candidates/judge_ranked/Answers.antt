use Rattle.std.proofs.Common.{◌≡◌, ℕ, ◌+◌, List, map, length, slice_index_or, drop, None, Option, Some, subst, subst₂, sym, refl, inr, ap, ◌∙◌, arith}
use Rattle.std.proofs.lemmas.List.{take_rest}
use Rattle.std.proofs.lemmas.Result.{err_from_is_err_and}
use Rattle.analysis.specs.declared.Answer.{Answer}
use Rattle.analysis.specs.declared.higher.Higher.{Higher}
use Rattle.analysis.specs.declared.judgement.JudgeRefusal.TheVariants.{Late}
use Rattle.analysis.specs.declared.Rank.{Rank}
use Rattle.analysis.specs.Candidates.{claim_of}
use Rattle.analysis.specs.Judge.{RankJudged, answers_of}
use Rattle.analysis.specs.Locks.{blocking}
use Rattle.analysis.specs.Places.{no_rank, ranked_rows}
use Rattle.analysis.specs.Ranks.{loads, rows}
use Rattle.analysis.proofs.Judging.{blocked_is, length_loads, first_late, late_number, judged_more, all_answered, SoFar}
use Rattle.analysis.proofs.Verdicts.{in_time, some_late}
use Rattle.analysis.proofs.candidates.Candidates.judge_ranked.Goals as goal

pub returns-in_err-answer : goal.returns-in_err-answer
returns-in_err-answer g c =
    let self = c.args.self.now in
    let rs : List Rank = c.args.ranks.now in
    let k : ℕ = c.loop-k.k in
    let blocked : c.blocking_of-blocking.result ≡ blocking (ranked_rows rs) (slice_index_or rs k no_rank).row (ranked_rows (drop (k + 1) rs)) =
    blocked_is rs _ k c.ceilings_of-ceilings.result c.ceilings_of-ceilings.ensures.each (take_rest rs (k + 1)) _ c.blocking_of-blocking.ensures.value
    in
    let none : c.judge_rank.result ≡ None = grind arith in
    let why : c.in_err-answer.field-0.0 ≡ Late (slice_index_or rs k no_rank).row.number = grind arith in
    let judged = subst (λ (o : Option (Answer × Higher g.row.K.Denot)). RankJudged g.K.Kind.demand self.places.now self.newcomer.now c.loop-k.higher.items (slice_index_or rs k no_rank) c.blocking_of-blocking.result o) none c.judge_rank.ensures in
    let p = err_from_is_err_and c.from_residual.result c.from_residual.ensures.1 in
    rw (p.1, p.2, why) (inr (
      refl,
      some_late g.K.Kind.demand g.met.K.Kind.lawful self.places.now self.newcomer.now rs c.requires.ranked c.requires.few _ (
        k,
        first_late g.K.Kind.demand self.places.now self.newcomer.now rs k c.loop-k-test.true c.blocking_of-blocking.result blocked (answers_of c.loop-k.answers) c.loop-k.higher.items c.loop-k.invariant.1 judged,
        late_number g.K.Kind.demand self.places.now self.newcomer.now rs k c.loop-k-test.true c.blocking_of-blocking.result blocked (answers_of c.loop-k.answers) c.loop-k.higher.items c.loop-k.invariant.1,
      ),
    ))

pub loop-k-preserved : goal.loop-k-preserved
loop-k-preserved g c =
    let self = c.args.self.now in
    let rs : List Rank = c.args.ranks.now in
    let k : ℕ = c.loop-k.k in
    let blocked : c.blocking_of-blocking.result ≡ blocking (ranked_rows rs) (slice_index_or rs k no_rank).row (ranked_rows (drop (k + 1) rs)) =
    blocked_is rs _ k c.ceilings_of-ceilings.result c.ceilings_of-ceilings.ensures.each (take_rest rs (k + 1)) _ c.blocking_of-blocking.ensures.value
    in
    let some : c.judge_rank.result ≡ Some (c.in_ok-answer.answer, c.in_ok-answer.met) = grind arith in
    let answered = subst (λ (o : Option (Answer × Higher g.row.K.Denot)). RankJudged g.K.Kind.demand self.places.now self.newcomer.now c.loop-k.higher.items (slice_index_or rs k no_rank) c.blocking_of-blocking.result o) some c.judge_rank.ensures in
    let so_far = judged_more g.K.Kind.demand self.places.now self.newcomer.now rs k c.loop-k-test.true c.blocking_of-blocking.result blocked (answers_of c.loop-k.answers) c.loop-k.higher.items c.loop-k.invariant.1 c.in_ok-answer.answer c.in_ok-answer.met answered in (
      c.push.ensures.count ∙ ap (λ n. n + 1) c.loop-k.invariant.0,
      subst₂ (λ (answers : List Answer) (higher : List (Higher g.row.K.Denot)). SoFar g.K.Kind.demand self.places.now self.newcomer.now (loads (map (claim_of g.K.Kind.demand self.places.now self.newcomer.now) rs)) (k + 1) answers higher)
          (sym c.push.ensures.answers) (sym c.push-in-loop-k.ensures.items) so_far,
    )

pub returns : goal.returns
returns g c =
    let self = c.args.self.now in
    let rs : List Rank = c.args.ranks.now in
    let claim = claim_of g.K.Kind.demand self.places.now self.newcomer.now in
    let all : c.loop-k.k ≡ length (loads (map claim rs)) = omega (arith, length_loads g.K.Kind.demand self.places.now self.newcomer.now (rows (map claim rs)) rs) in
    in_time g.K.Kind.demand g.met.K.Kind.lawful self.places.now self.newcomer.now rs c.requires.ranked c.requires.few _
    (all_answered g.K.Kind.demand self.places.now self.newcomer.now (loads (map claim rs)) (answers_of c.loop-k.answers) c.loop-k.higher.items
    (subst (λ (n : ℕ). SoFar g.K.Kind.demand self.places.now self.newcomer.now (loads (map claim rs)) n (answers_of c.loop-k.answers) c.loop-k.higher.items) all c.loop-k.invariant.1))
