use Rattle.runs.proofs.Hands.{not_handed_back, spent_surely}
use Rattle.runs.proofs.register.Register.spend_held.Goals as goal

pub unwrap-requires : goal.unwrap-requires
unwrap-requires g c = not_handed_back c.args.self.now.table c.spend.new.self.table c.args.hold c.requires.own c.requires.held c.spend.result c.spend.ensures.held

pub returns-clause-history : goal.returns-clause-history
returns-clause-history g c = rw (← c.unwrap.ensures) c.spend.ensures.history

pub returns-clause-held : goal.returns-clause-held
returns-clause-held g c = spent_surely c.args.self.now.table c.spend.new.self.table c.args.hold c.requires.own c.requires.held c.spend.result c.spend.ensures.held
