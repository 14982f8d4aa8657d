use Rattle.std.proofs.Common.{sym, ◌∙◌}
use Rattle.table.proofs.InHand.{same_numbers}
use Rattle.runs.specs.Calls.{token}
use Rattle.runs.proofs.Hands.{found_there, handed_back_surely, of_another, refused_with, same_in_hand, same_then}
use Rattle.runs.proofs.desk.Desk.offer.Goals as goal

pub invariant_of-self : goal.invariant_of-self
invariant_of-self g c =
    let there = found_there c.args.id.table c.args.id.row c.args.foreign.now.items c.deref.result.now c.place_of.result c.deref.ensures.value c.place_of.ensures c.in-Some.place c.remove-hold.result c.in-Some.is c.remove-hold.ensures.value in
    record { in_hand = same_in_hand c.args.self.now.register.table c.spend.new.self.table c.args.self.now.holds.items c.args.self.now.in_hand (same_then c.args.self.now.register.table c.spend.new.self.table c.remove-hold.result (λ e. c.requires (sym there.1 ∙ e)) c.spend.result c.spend.ensures.held) }

pub unwrap_err-requires : goal.unwrap_err-requires
unwrap_err-requires g c =
    let there = found_there c.args.id.table c.args.id.row c.args.foreign.now.items c.deref.result.now c.place_of.result c.deref.ensures.value c.place_of.ensures c.in-Some.place c.remove-hold.result c.in-Some.is c.remove-hold.ensures.value in
    handed_back_surely c.args.self.now.register.table c.spend.new.self.table c.remove-hold.result (λ e. c.requires (sym there.1 ∙ e)) c.spend.result c.spend.ensures.held

pub returns-in-Some-clause-history : goal.returns-in-Some-clause-history
returns-in-Some-clause-history g c =
    let there = found_there c.args.id.table c.args.id.row c.args.foreign.now.items c.deref.result.now c.place_of.result c.deref.ensures.value c.place_of.ensures c.in-Some.place c.remove-hold.result c.in-Some.is c.remove-hold.ensures.value in
    let is = same_numbers c.remove-hold.result (token c.args.id) there.1 there.2 in
    rw (← is, ← refused_with c.args.self.now.register.table c.spend.new.self.table c.remove-hold.result c.spend.result c.unwrap_err.result c.spend.ensures.held c.unwrap_err.ensures) c.spend.ensures.history

pub returns-in_default-clause-history : goal.returns-in_default-clause-history
returns-in_default-clause-history g c = of_another g.K.Kind.demand c.args.self.now.register.table c.args.way (token c.args.id) c.requires
