-- Texts that are written into memory. Assumes nothing.
use Rattle.std.proofs.Common.{◌≡◌, ℕ, ◌+◌, ◌≤◌, List, [], ◌∷◌, ◌++◌, length, take, drop, decimal, sym, ap, ◌∙◌, append_assoc, arith}
use Rattle.std.proofs.lemmas.List.{length-append, length-take-le, take_at, drop_at, drop-drop}
use Rattle.planfile.specs.Report.{Wrote, line_of}

-- a text and then another behind it are written
pub wrote_both : {b m a : List ℕ} {at r s : ℕ} {t u : List ℕ} → at ≤ length b → Wrote b at t r m → Wrote m r u s a → Wrote b at (t ++ u) s a
wrote_both {b} {m} {a} {at} {r} {s} {t} {u} h v w =
    let size : length (take at b ++ t) ≡ r = omega (arith, length-append (take at b) t, length-take-le at b h) in
    let whole : m ≡ (take at b ++ t) ++ drop (at + length t) b = v.memory ∙ sym (append_assoc (take at b) t _) in
    let front : take r m ≡ take at b ++ t = ap (take r) whole ∙ take_at (take at b ++ t) _ r size in
    let rest : drop r m ≡ drop (at + length t) b = ap (drop r) whole ∙ drop_at (take at b ++ t) _ r size in
    let place : at + length t + length u ≡ at + length (t ++ u) = omega (arith, length-append t u) in
    let back : drop (r + length u) m ≡ drop (at + length (t ++ u)) b = sym (drop-drop (length u) r m) ∙ ap (drop (length u)) rest ∙ drop-drop (length u) (at + length t) b ∙ ap (λ k. drop k b) place in
    record {
      next = omega (arith, length-append t u);
      memory = w.memory ∙ simp (front, back, append_assoc);
    }

-- how long a line of a word and four numbers is
pub length_line : (word : List ℕ) (a b c d : ℕ) → length (line_of word (a ∷ b ∷ c ∷ d ∷ [])) ≡ length word + length (decimal a) + length (decimal b) + length (decimal c) + length (decimal d) + 5
length_line word a b c d = simp length-append (omega arith)
