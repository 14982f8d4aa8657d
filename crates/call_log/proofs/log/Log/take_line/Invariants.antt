-- The bytes so far have no newline, and the first of them are kept.
use Rattle.std.proofs.Common.{◌≡◌, ◌+◌, ◌≤◌, min, List, ◌++◌, ℕ, length, Some}
use Rattle.planfile.specs.declared.TheConstants.{LONGEST_LINE}
use Rattle.call_log.specs.Counting.{kept_of}
use Rattle.call_log.specs.Reading.{bytes_left_of, left_of, OnePiece, SameSoFar}
use Rattle.call_log.proofs.log.Log.take_line.Given as goal

abbrev pub invariant-loop-byte : goal.invariant-loop-byte
invariant-loop-byte g l =
    record {
      same : SameSoFar l.fn.self l.self;
      short : length l.self.line.items ≤ LONGEST_LINE + 1;
      fewer : min 1 (length l.self.line.items) + bytes_left_of l.self ≤ bytes_left_of l.fn.self;
      taken : (xs : List ℕ) → left_of l.fn.self ≡ Some xs → (front rest : List ℕ) × (left_of l.self ≡ Some rest) × (xs ≡ front ++ rest) × (l.self.line.items ≡ kept_of front) × OnePiece front;
    }

abbrev pub decreases-loop-byte : goal.decreases-loop-byte
decreases-loop-byte g l = bytes_left_of l.self
