-- The report of the answers fits. What is loaded then keeps all clauses.
use Rattle.std.proofs.Common.{length, Ok, Err, sym, subst, arith}
use Rattle.std.proofs.lemmas.Result.{err_from_is_err_and}
use Rattle.planfile.specs.declared.fault.Fault.{Fault}
use Rattle.planfile.specs.Fault.{blame}
use Rattle.planfile.specs.Reading.{LinesRead}
use Rattle.planfile.proofs.Blames.{long_enough}
use Rattle.planfile.proofs.FileOrder.{in_file_order}
use Rattle.planfile.proofs.LinesRead.{lines_name_line}
use Rattle.planfile.proofs.Loads.{by_lines, listed, by_report}
use Rattle.planfile.proofs.OneAnswer.{one_answer}
use Rattle.planfile.proofs.Reporting.{fits}
use Rattle.planfile.proofs.RoundTrip.{round_trip}
use Rattle.planfile.proofs.loading.load.Goals as goal

pub returns-in_err-answers-clause-one_answer : goal.returns-in_err-answers-clause-one_answer
returns-in_err-answers-clause-one_answer c =
    let p = err_from_is_err_and c.from_residual-in_err-answers.result c.from_residual-in_err-answers.ensures.1 in
    let text = c.args.file.now in
    let before = c.args.report.now in
    let read = subst (λ (f : Fault). LinesRead text (Err (blame f))) (sym p.2) c.in_err-answers.ensures in
    rw p.1 (one_answer text before (Err p.0) before (by_lines text before p.0 c.in_ok-check_file.ensures.read read))

pub returns-in_err-answers-clause-of_no_line : goal.returns-in_err-answers-clause-of_no_line
returns-in_err-answers-clause-of_no_line c =
    let p = err_from_is_err_and c.from_residual-in_err-answers.result c.from_residual-in_err-answers.ensures.1 in
    let text = c.args.file.now in
    let read = subst (λ (f : Fault). LinesRead text (Err (blame f))) (sym p.2) c.in_err-answers.ensures in
    let some = lines_name_line text (blame p.0) read in
    rw p.1 (λ none. absurd (omega (arith, some, none)))

pub write_report-requires : goal.write_report-requires
write_report-requires c =
    let text = c.args.file.now in
    let taken = c.in_ok-answers.ensures in
    record {
      fits = fits text taken.0 c.rows.result.now taken.1 (listed taken.0 c.in_ok-answers.answers c.rows.result.now taken.2.answered c.rows.ensures);
      room = long_enough text (length c.args.report.now) c.in_ok-check_file.ensures.read;
    }

pub returns : goal.returns
returns c =
    let text = c.args.file.now in
    let before = c.args.report.now in
    let after = c.write_report.new.out in
    let taken = c.in_ok-answers.ensures in
    let given = listed taken.0 c.in_ok-answers.answers c.rows.result.now taken.2.answered c.rows.ensures in
    let loaded = by_report text before taken.0 c.rows.result.now c.write_report.result after c.in_ok-check_file.ensures.read taken.1 taken.2.agrees.sound.lawful given c.write_report.ensures in
    let r = Ok c.write_report.result in
    record { loaded = loaded; of_no_line = tt; in_file_order = in_file_order text before r after loaded; one_answer = one_answer text before r after loaded; round_trip = round_trip text before r after loaded }
