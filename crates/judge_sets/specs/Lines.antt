-- The lines that are printed. Assumes nothing.
-- How to read it: a line is a list of bytes; `decimal` are the digits of a number.
use Rattle.std.specs.Prelude.{ℕ, List, ◌++◌, codes, decimal}
use Rattle.analysis.specs.declared.Answer.{Answer}

-- the line of an answer
abbrev pub answer_line : Answer → List ℕ
answer_line a =
    codes "row " ++ (decimal a.number
    ++ (codes " " ++ (decimal a.bound
    ++ (codes " " ++ (decimal a.vector
    ++ (codes " " ++ (decimal a.blocking ++ codes "\n")))))))
