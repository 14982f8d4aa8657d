use Rattle.std.proofs.Common.{sym, subst}
use Rattle.table.specs.Agreement.{AgreesWith}
use Rattle.planfile.specs.Checks.{row_demand}
use Rattle.call_log.proofs.Held.{not_held}
use Rattle.call_log.proofs.rows.is_held.Goals as goal

pub returns-in_default : goal.returns-in_default
returns-in_default c a agrees =
    not_held a c.args.number c.state_of.result agrees.sound (c.state_of.ensures a (subst (AgreesWith row_demand a) (sym c.table.ensures) agrees)) c.in_default.not-Held
