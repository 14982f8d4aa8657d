-- The holds that are left are those in hand; the others were given up.
use Rattle.std.proofs.Common.{◌≡◌, List, ◌++◌, map, length}
use Rattle.std.specs.Vec.{vec_items, vec_len}
use Rattle.table.specs.declared.hold.Hold.{Hold}
use Rattle.table.specs.History.{HasHistory}
use Rattle.table.specs.Runs.{Event}
use Rattle.runs.specs.Calls.{release_of}
use Rattle.runs.specs.Desk.{holds_of, table_of}
use Rattle.runs.specs.Holds.{InHand, frame_of}
use Rattle.runs.proofs.desk.Desk.close.Given as goal

abbrev pub invariant-loop-hold : goal.invariant-loop-hold
invariant-loop-hold g l =
    let demand = g.K.Kind.demand in
    record {
      count : length (vec_items l.holds) ≡ vec_len l.holds;
      in_hand : InHand l.register.table (vec_items l.holds);
      frame : frame_of l.register.table ≡ frame_of (table_of l.fn.self);
      history : (done : List Hold) × (holds_of l.fn.self ≡ vec_items l.holds ++ done) × ((es : List Event) → HasHistory demand es (table_of l.fn.self) → HasHistory demand (map release_of done ++ es) l.register.table);
    }

abbrev pub decreases-loop-hold : goal.decreases-loop-hold
decreases-loop-hold g l = goal.left-loop-hold g l
