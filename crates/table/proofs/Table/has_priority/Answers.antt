use Rattle.std.proofs.Common.{◌==◌, take, ◌∙◌, rules}
use borrow.Author.Tests.{tests}
use Rattle.std.specs.Option.{option_to_list}
use Rattle.std.proofs.lemmas.Iterator.{YieldsList-from_slice}
use Rattle.std.proofs.lemmas.Iterator.Consumers.{YieldsList-at}
use Rattle.std.proofs.lemmas.Iterator.Adapters.{YieldsList-from_flatten}
use Rattle.std.proofs.lemmas.Iterator.Search.{any_from_yields_List}
use Rattle.analysis.specs.declared.Task.{Task}
use Rattle.table.proofs.Lookups.{given_at, priority_is, priority_found}
use Rattle.table.proofs.Table.has_priority.Goals as goal

pub returns : goal.returns
returns g c a agrees =
    any_from_yields_List {v = λ x. x.now} (λ (t : Task g.row.K.Denot). t.row.priority == c.args.priority) _ _ _ c.any.ensures.ran
    (YieldsList-from_flatten _ _ (λ x. x.now) option_to_list (λ x j b. given_at j x.now b.0 b.1) (YieldsList-at c.flatten.ensures.source (YieldsList-from_slice c.used_places.result.now cc)) c.flatten.ensures.front c.flatten.ensures.back c.flatten.ensures.done)
    (λ x b q k. search (rules, tests))
    ∙ rw c.used_places.ensures (priority_is g.K.Kind.demand c.args.priority (take 12 c.args.self.now.places.now) ∙ priority_found c.args.self.now agrees c.args.priority)
