use Rattle.std.proofs.Common.{◌≡◌, map}
use Rattle.analysis.specs.Candidates.{claim_of}
use Rattle.analysis.specs.Judge.{answers_of}
use Rattle.analysis.specs.Ranks.{loads}
use Rattle.analysis.proofs.Judging.{SoFar}
use Rattle.analysis.proofs.candidates.Candidates.judge_ranked.Given as goal

abbrev pub invariant-loop-k : goal.invariant-loop-k
invariant-loop-k g l =
    (l.answers.count ≡ l.k)
    × SoFar g.K.Kind.demand l.self.places.now l.self.newcomer.now (loads (map (claim_of g.K.Kind.demand l.self.places.now l.self.newcomer.now) l.ranks)) l.k (answers_of l.answers) l.higher.items
