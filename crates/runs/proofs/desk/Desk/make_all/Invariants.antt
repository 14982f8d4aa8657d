-- The calls so far came after those before, and what follows them completes the list.
use Rattle.std.proofs.Common.{◌≡◌, ◌+◌, ◌≤◌, List, ◌++◌, length}
use Rattle.std.specs.Vec.{vec_capacity, vec_items, vec_len}
use Rattle.std.specs.Vec.Iter.{into_iter_items, into_iter_len}
use Rattle.table.specs.History.{HasHistory}
use Rattle.table.specs.Runs.{Event}
use Rattle.runs.specs.declared.call.Reply.{Reply}
use Rattle.runs.specs.Calls.{Follow}
use Rattle.runs.specs.Desk.{table_of}
use Rattle.runs.specs.Holds.{frame_of}
use Rattle.runs.proofs.desk.Desk.make_all.Given as goal

abbrev pub invariant-loop-call : goal.invariant-loop-call
invariant-loop-call g l =
    let demand = g.K.Kind.demand in
    let number = (table_of l.self).number in
    record {
      count : length (into_iter_items l.left) ≡ into_iter_len l.left;
      frame : frame_of (table_of l.self) ≡ frame_of (table_of l.fn.self);
      room_for_replies : vec_len l.replies + into_iter_len l.left ≤ vec_capacity l.replies;
      room_for_holds : vec_len l.self.holds + into_iter_len l.left ≤ vec_capacity l.self.holds;
      same_foreign : vec_items l.foreign ≡ vec_items l.fn.foreign;
      history : (es : List Event) → HasHistory demand es (table_of l.fn.self) → (so_far : List Event) × HasHistory demand so_far (table_of l.self) × ((rs : List Reply) (all : List Event) → Follow demand number (into_iter_items l.left) rs so_far all → Follow demand number (vec_items l.fn.calls) (vec_items l.replies ++ rs) es all);
    }

abbrev pub decreases-loop-call : goal.decreases-loop-call
decreases-loop-call g l = into_iter_len l.left
