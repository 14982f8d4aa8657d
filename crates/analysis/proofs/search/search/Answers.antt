use Rattle.std.proofs.Common.{ap, ℕ, ◌^◌, length, arith}
use Rattle.std.proofs.lemmas.Nat.{one_shl}
use Rattle.analysis.specs.Candidates.{need_with}
use Rattle.analysis.proofs.Jumps.{NoneAmong, jump}
use Rattle.analysis.proofs.Rising.{need_rises}
use Rattle.analysis.proofs.search.search.Goals as goal

pub windows-preserved : goal.windows-preserved
windows-preserved g c =
    let needed : ℕ → ℕ → ℕ = need_with g.K.Kind.demand c.args.higher.now.items c.args.alone in
    let all = one_shl c.len.result 32 (omega arith) in
    let same = ap (λ (n : ℕ). 2 ^ n) c.len.ensures.value in
    let among : NoneAmong needed (2 ^ length c.args.higher.now.items) c.windows.window c.vectors.next = λ v h. c.vectors.invariant.1 v (omega arith) in (
      omega arith,
      jump needed (2 ^ length c.args.higher.now.items) c.windows.window c.vectors.next
          (need_rises g.K.Kind.demand g.met.K.Kind.lawful c.args.higher.now.items c.args.alone)
          c.windows.invariant.1 among,
    )
