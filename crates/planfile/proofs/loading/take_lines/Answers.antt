-- The first line is the clock line, and each turn of the loop takes the next row line.
use Rattle.std.proofs.Common.{◌≡◌, ◌+◌, ◌<◌, [], ◌∷◌, map, length, slice_index_or, Ok, Err, sym, ap, ◌∙◌, subst, inl, arith, rules}
use Rattle.std.proofs.lemmas.Result.{err_from_is_err_and, MatchResult-at_ok, MatchResult-at_err}
use Rattle.std.proofs.lemmas.Iterator.Consumers.{YieldsList-turn, YieldsList-end}
use Rattle.std.proofs.lemmas.List.{length-map, length_push}
use Rattle.std.proofs.lemmas.List.FromFn.{length-enumerate_from}
use Rattle.planfile.specs.Cut.{lines_left}
use Rattle.planfile.specs.declared.fault.Fault.TheVariants.{Line}
use Rattle.planfile.specs.Fault.{blame, at_line, line_blame}
use Rattle.planfile.specs.Laws.{row_lines}
use Rattle.planfile.specs.Reading.{claim_in, account_with, LinesRead}
use Rattle.planfile.specs.Text.{lines, fields}
use Rattle.planfile.proofs.Parted.{ended_line}
use Rattle.planfile.proofs.LinesRead.{first_line, some_first, few_rows, row_road, row_count, line_at, clock_taken, row_refused, row_taken, no_lines, value_of_line, fault_of_line}
use Rattle.planfile.proofs.loading.take_lines.Goals as goal
use Rattle.planfile.proofs.loading.take_lines.Goals.{In-Some}

pub unwrap-first-requires : goal.unwrap-first-requires
unwrap-first-requires c =
    let lines_are = ap (λ text. map fields (lines text)) c.new-reader.ensures in
    some_first lines_left c.new-reader.result c.next.new.self c.next.result c.next.ensures.steps
    (omega (arith, ap length lines_are, length-map (lines c.args.file.now) fields, ended_line c.args.file.now c.requires.ended))

pub loop-index-init-derived : goal.loop-index-init-derived
loop-index-init-derived c =
    let from = c.enumerate-index-items.ensures in
    ((tt, tt, inl (row_count c.args.file.now c.new-reader.result c.next.new.self _ _ c.new-reader.ensures c.next.ensures.steps c.unwrap-first.ensures _ _ from.source from.count c.into_iter-index-iterator.ensures.into_iter_gives c.requires.short)), tt)

pub loop-index-init : goal.loop-index-init
loop-index-init c =
    let first = first_line c.args.file.now c.new-reader.result c.next.new.self _ _ c.new-reader.ensures c.next.ensures.steps c.unwrap-first.ensures in
    let read = rw (value_of_line c.read_clock.result c.map_err.result _ c.map_err.ensures.cases c.in_ok-clock.clock c.in_ok-clock.was, first.0) at c.read_clock.ensures in
    ([], record { agrees = c.requires.empty; answered = c.answers-answers.ensures.account (account_with []) c.requires.empty }, λ r more. clock_taken c.args.file.now c.in_ok-clock.clock r read.0 read.1 more)

-- the row line at hand
here : (c : In-Some) → (length c.loop-index.yielded < length (row_lines c.args.file.now)) × (c.in-Some.index ≡ length c.loop-index.yielded) × (c.in-Some.line ≡ fields (slice_index_or (row_lines c.args.file.now) (length c.loop-index.yielded) []))
here c =
    let from = c.enumerate-index-items.ensures in
    let road = row_road c.args.file.now c.new-reader.result c.next.new.self _ _ c.new-reader.ensures c.next.ensures.steps c.unwrap-first.ensures _ _ from.source from.count c.into_iter-index-iterator.ensures.into_iter_gives in
    line_at (row_lines c.args.file.now) (length c.loop-index.yielded) c.in-Some.index c.in-Some.line
    (YieldsList-turn road c.loop-index.yielded _ c.loop-index.yielded_by _ c.next-in-loop-index.new.self (c.in-Some.index, c.in-Some.line) c.in-Some.is c.next-in-loop-index.ensures.steps)

pub number_of_row-number-requires : goal.number_of_row-number-requires
number_of_row-number-requires c =
    let h = here (goal.at.number_of_row-number-requires c).In-Some in
    omega (arith, h.0, h.1, few_rows c.args.file.now)

pub loop-index-preserved : goal.loop-index-preserved
loop-index-preserved c =
    let h = here (goal.at.loop-index-preserved c).In-Some in
    let inv = c.loop-index.invariant in
    let k = length c.loop-index.yielded in
    let ok = value_of_line c.take_row.result c.map_err-in-loop-index.result _ c.map_err-in-loop-index.ensures.cases c.in_ok-answers.answers c.in_ok-answers.was in
    let taken = MatchResult-at_ok _ _ _ ok (c.take_row.ensures inv.0 inv.1.agrees) in
    let more = length_push c.loop-index.yielded (c.in-Some.index, c.in-Some.line) in (
      claim_in c.in_ok-clock.clock c.in-Some.line ∷ inv.0,
      taken.1,
      λ r rest. inv.2 r (row_taken c.in_ok-clock.clock (k + 2) inv.0 (row_lines c.args.file.now) k h.0 c.in-Some.line h.2 _ _ (omega (arith, more)) more taken.0 r rest),
    )

pub returns-in_err-answers : goal.returns-in_err-answers
returns-in_err-answers c =
    let p = err_from_is_err_and c.from_residual-in_err-answers.result c.from_residual-in_err-answers.ensures.1 in
    let h = here (goal.at.returns-in_err-answers c).In-Some in
    let inv = c.loop-index.invariant in
    let k = length c.loop-index.yielded in
    let fault = fault_of_line c.take_row.result c.map_err-in-loop-index.result _ c.map_err-in-loop-index.ensures.cases (Line c.number_of_row-number.result) (λ e d t. search rules) c.in_err-answers.field-0.0 c.in_err-answers.was in
    let refused = MatchResult-at_err _ _ fault.0 fault.1 (c.take_row.ensures inv.0 inv.1.agrees) in
    let said = ap blame fault.2 ∙ ap (λ n. at_line n (line_blame fault.0)) (c.number_of_row-number.ensures ∙ ap (λ n. n + 2) h.1) in
    rw (p.1, p.2)
    (subst (λ b. LinesRead c.args.file.now (Err b)) (sym said)
    (inv.2 (Err (at_line (k + 2) (line_blame fault.0)))
    (row_refused c.in_ok-clock.clock (k + 2) inv.0 (row_lines c.args.file.now) k h.0 c.in-Some.line h.2 (line_blame fault.0) refused)))

pub returns : goal.returns
returns c =
    let from = c.enumerate-index-items.ensures in
    let road = row_road c.args.file.now c.new-reader.result c.next.new.self _ _ c.new-reader.ensures c.next.ensures.steps c.unwrap-first.ensures _ _ from.source from.count c.into_iter-index-iterator.ensures.into_iter_gives in
    let end = YieldsList-end road c.loop-index.yielded _ c.loop-index.yielded_by _ c.next-in-loop-index.new.self c.in-None.is c.next-in-loop-index.ensures.steps in
    let inv = c.loop-index.invariant in
    let rows = row_lines c.args.file.now in
    (inv.0, inv.2 (Ok inv.0) (no_lines c.in_ok-clock.clock _ inv.0 rows (length c.loop-index.yielded) (omega (arith, end.1, length-enumerate_from 0 (map fields rows), length-map rows fields))), inv.1)
