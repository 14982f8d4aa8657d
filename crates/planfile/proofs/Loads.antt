-- What loading a file answers, by what its steps said. Assumes nothing.
use Rattle.std.proofs.Common.{◌≡◌, ℕ, ◌≢◌, List, length, Ok, Err, sym, refl, ap, ◌∙◌, subst, inl, inr, zero-add}
use Rattle.analysis.specs.declared.Answer.{Answer}
use Rattle.analysis.specs.declared.answers.Answers.{Answers}
use Rattle.analysis.specs.Judge.{Answered, answers_of}
use Rattle.analysis.specs.Ranks.{Claim, ranking, loads}
use Rattle.table.specs.Agreement.{LawfulRows}
use Rattle.planfile.specs.declared.fault.Blame.{Blame}
use Rattle.planfile.specs.declared.fault.Fault.{Fault}
use Rattle.planfile.specs.Fault.{nothing, first_blame, blame}
use Rattle.planfile.specs.Reading.{file_checks, LinesRead}
use Rattle.planfile.specs.Loading.{Loaded}
use Rattle.planfile.specs.Report.{report, Wrote}
use Rattle.planfile.proofs.Blames.{blame_numbered}
use Rattle.planfile.proofs.Reporting.{all_in_time}

-- the file itself is refused
pub by_file : (text before : List ℕ) (f : Fault) → first_blame (file_checks text (length before)) ≡ blame f → Loaded text before (Err f) before
by_file text before f e = (inl (subst (λ (b : Blame). b.number ≢ 0) (sym e) (blame_numbered f), ap Err (sym e)), refl)

-- a line is refused
pub by_lines : (text before : List ℕ) (f : Fault) → first_blame (file_checks text (length before)) ≡ nothing → LinesRead text (Err (blame f)) → Loaded text before (Err f) before
by_lines text before f pass read = (inr (pass, read), refl)

-- the answers that are shown are those of the rows
pub listed : (rows : List Claim) (all : Answers) (shown : List Answer) → Answered (loads (ranking rows)) (answers_of all) → shown ≡ answers_of all → Answered (loads (ranking rows)) shown
listed rows all shown p e = rw e p

-- all is in time, and the report is written
pub by_report : (text before : List ℕ) (rows : List Claim) (answers : List Answer) (n : ℕ) (after : List ℕ) → first_blame (file_checks text (length before)) ≡ nothing → LinesRead text (Ok rows) → LawfulRows rows → Answered (loads (ranking rows)) answers → Wrote before 0 (report answers) n after → Loaded text before (Ok n) after
by_report text before rows answers n after pass read lawful given wrote =
    record {
      rows = rows;
      answers = answers;
      read = inr (pass, read);
      in_time = all_in_time text rows answers read lawful given;
      size = wrote.next ∙ zero-add (length (report answers));
      written = wrote.memory;
    }
