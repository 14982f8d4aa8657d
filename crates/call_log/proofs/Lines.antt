-- What comes of a line of which only the front is kept, and of the end of a log. Assumes nothing.
use Rattle.std.proofs.Common.{◌≡◌, ◌≢◌, ℕ, ◌+◌, ◌-◌, ◌<◌, Bool, true, false, not, ◌&&◌, ◌||◌, if◌then◌else◌, List, [], ◌∷◌, ◌++◌, length, take, drop, nat_lt, sym, refl, ap, ◌∙◌, subst, inl, inr, arith, ltb-false, append_assoc}
use Rattle.std.proofs.lemmas.Bool.{cases_Bool}
use Rattle.std.proofs.lemmas.Bool.Decides.{nat_tests}
use Rattle.std.proofs.lemmas.List.{append-nil, length-take, take_all}
use Rattle.planfile.specs.declared.fault.Blame.{Blame}
use Rattle.planfile.specs.Fault.{by_number, first_blame}
use Rattle.planfile.specs.Requests.{clock_line_checks, end_checks, opening_checks, request_checks}
use Rattle.planfile.specs.Text.{ends_with_newline, newline, parted_by}
use Rattle.planfile.proofs.Parted.{ended_line, parted_at, some_part}
use Rattle.call_log.specs.Counting.{kept_of}
use Rattle.call_log.specs.Logs.{Stage, table_due, clock_due, evening, over, Turn, Checked, LineSays, LogSays, end_says, refuses, says}
use Rattle.call_log.specs.Reading.{BeginsWith, Leads, OnePiece}

-- a line is too long, or has no newline
abbrev pub IsCut : List ℕ → Type 0
IsCut text = (nat_lt 4096 (length text) || not (ends_with_newline text)) ≡ true

-- then it is refused by 18
blamed : (text : List ℕ) (more : List (Bool × Blame)) → IsCut text → first_blame (end_checks text ++ more) ≡ by_number 18
blamed text more cut = ap (λ b. if b then by_number 18 else first_blame more) cut

-- where a log stands after such a line
abbrev pub stays : Stage → Stage
stays table_due = over
stays (clock_due o) = over
stays (evening clock a) = evening clock a
stays over = over

abbrev pub refused_18 : Stage → ℕ → Turn
refused_18 table_due k = refuses k (by_number 18) over
refused_18 (clock_due o) k = refuses k (by_number 18) over
refused_18 (evening clock a) k = refuses k (by_number 18) (evening clock a)
refused_18 over k = says [] over

-- checks that blame 18
checked_18 : (k : ℕ) (b : Blame) (s : Stage) (turn : Turn) (More : Type 0) → b ≡ by_number 18 → Checked k b s turn More → turn ≡ refuses k (by_number 18) s
checked_18 k b s turn More is (inl c) = c.1 ∙ ap (λ (x : Blame). refuses k x s) is
checked_18 k b s turn More is (inr c) = absurd (apart (ap (λ (x : Blame). x.number) (sym is ∙ c.0)))
  where
    apart : ◌≡◌ {A = ℕ} 18 0 → ⊥
    apart e = omega arith

blames_18 : (k : ℕ) (b : Blame) (s : Stage) (More : Type 0) → b ≡ by_number 18 → Checked k b s (refuses k (by_number 18) s) More
blames_18 k b s More is = inl ((λ e. apart (sym (ap (λ (x : Blame). x.number) is) ∙ e)), ap (λ (x : Blame). refuses k x s) (sym is))
  where
    apart : ◌≡◌ {A = ℕ} 18 0 → ⊥
    apart e = omega arith

pub says_cut : (s : Stage) (k : ℕ) (text : List ℕ) → IsCut text → LineSays s k text (refused_18 s k)
says_cut table_due k text cut = blames_18 k (first_blame (opening_checks text)) over _ (blamed text (drop 1 (opening_checks text)) cut)
says_cut (clock_due o) k text cut = blames_18 k (first_blame (clock_line_checks text)) over _ (blamed text (drop 1 (clock_line_checks text)) cut)
says_cut (evening clock a) k text cut = blames_18 k (first_blame (request_checks text)) (evening clock a) _ (blamed text (drop 1 (request_checks text)) cut)
says_cut over k text cut = refl

pub cut_says : (s : Stage) (k : ℕ) (text : List ℕ) (turn : Turn) → IsCut text → LineSays s k text turn → turn ≡ refused_18 s k
cut_says table_due k text turn cut c = checked_18 k (first_blame (opening_checks text)) over turn _ (blamed text (drop 1 (opening_checks text)) cut) c
cut_says (clock_due o) k text turn cut c = checked_18 k (first_blame (clock_line_checks text)) over turn _ (blamed text (drop 1 (clock_line_checks text)) cut) c
cut_says (evening clock a) k text turn cut c = checked_18 k (first_blame (request_checks text)) (evening clock a) turn _ (blamed text (drop 1 (request_checks text)) cut) c
cut_says over k text turn cut c = c

-- a long line is cut, and so is what is kept of it
long_cut : (text : List ℕ) → 4096 < length text → IsCut text
long_cut text long = grind (arith, nat_tests)

kept_cut : (line : List ℕ) → 4096 < length line → IsCut (kept_of line)
kept_cut line long = long_cut (kept_of line) (omega (arith, length-take 4097 line))

-- a line is answered by what is kept of it
pub says_whole : (s : Stage) (k : ℕ) (line : List ℕ) (turn : Turn) → LineSays s k (kept_of line) turn → LineSays s k line turn
says_whole s k line turn c =
    elim (cases_Bool (nat_lt 4096 (length line))) [
      | inl e ↦
          let long : 4096 < length line = grind (arith, nat_tests) in
          subst (LineSays s k line) (sym (cut_says s k (kept_of line) turn (kept_cut line long) c)) (says_cut s k line (long_cut line long))
      | inr e ↦ subst (λ text. LineSays s k text turn) (take_all 4097 line (omega (arith, ltb-false 4096 (length line) e))) c
    ]

-- what is said of a line comes before what is said of those behind it
log_line : (s : Stage) (k : ℕ) (text : List ℕ) (rest : List (List ℕ)) → 0 < length rest → (turn : Turn) → LineSays s k (text ++ newline ∷ []) turn → (more : List ℕ) (fine : Bool) → LogSays turn.next (k + 1) rest more fine → LogSays s k (text ∷ rest) (turn.said ++ more) (turn.well_formed && fine)
log_line s k text [] some turn c more fine h = absurd (omega arith)
log_line s k text (next ∷ rest) some turn c more fine h = (turn, c, more, fine, h, refl, refl)

-- nothing more is said at the end where the rest is not looked at, or an evening goes on
nothing_said : (s : Stage) (k : ℕ) (line : List ℕ) → line ≢ [] → (more : List ℕ) (fine : Bool) → LogSays (refused_18 s k).next (k + 1) ([] ∷ []) more fine → LogSays s k (line ∷ []) ((refused_18 s k).said ++ more) ((refused_18 s k).well_formed && fine)
nothing_said s k [] some more fine h = absurd (some refl)
nothing_said table_due k (b ∷ line) some more fine h = (ap (λ m. (refused_18 table_due k).said ++ m) h.0 ∙ append-nil _, refl)
nothing_said (clock_due o) k (b ∷ line) some more fine h = (ap (λ m. (refused_18 table_due k).said ++ m) h.0 ∙ append-nil _, refl)
nothing_said (evening clock a) k (b ∷ line) some more fine h = (ap (λ m. (refused_18 table_due k).said ++ m) h.0 ∙ append-nil _, refl)
nothing_said over k (b ∷ line) some more fine h = h

any_or : (b : Bool) → (b || true) ≡ true
any_or true = refl
any_or false = refl

-- a line that has no newline is cut
open_cut : (line : List ℕ) → OnePiece line → IsCut (kept_of line)
open_cut line one =
    elim (cases_Bool (nat_lt 4096 (length line))) [
      | inl e ↦ kept_cut line (grind (arith, nat_tests))
      | inr e ↦ subst IsCut (sym (take_all 4097 line (omega (arith, ltb-false 4096 (length line) e)))) (unended line one)
    ]
  where
    unended : (line : List ℕ) → OnePiece line → IsCut line
    unended line one =
        elim (cases_Bool (ends_with_newline line)) [
          | inl e ↦ absurd (omega (arith, ended_line line e, ap (λ ps. length (take (length ps - 1) ps)) one))
          | inr e ↦ rw e (any_or (nat_lt 4096 (length line)))
        ]

-- what is said of a line leads on to what is said of the bytes behind it
pub turn_leads : (s : Stage) (k : ℕ) (xs kept ys : List ℕ) → BeginsWith xs kept ys → (turn : Turn) → LineSays s k kept turn → Leads s k xs turn.said turn.well_formed turn.next (k + 1) ys
turn_leads s k xs kept ys b turn c more fine h =
    let says = says_whole s k b.line turn (subst (λ text. LineSays s k text turn) b.front c) in
    elim b.ends [
      | inl e ↦
          let text : List ℕ = e.0 in
          let whole : xs ≡ text ++ newline ∷ ys = b.whole ∙ ap (λ l. l ++ ys) e.1 ∙ append_assoc text (newline ∷ []) ys in
          let parted : parted_by newline xs ≡ text ∷ parted_by newline ys = ap (parted_by newline) whole ∙ parted_at newline text ys [] text e.2 in
          subst (λ ps. LogSays s k ps (turn.said ++ more) (turn.well_formed && fine)) (sym parted)
          (log_line s k text (parted_by newline ys) (some_part newline ys) turn (subst (λ l. LineSays s k l turn) e.1 says) more fine h)
      | inr e ↦
          let line : List ℕ = b.line in
          let whole : xs ≡ line = b.whole ∙ ap (λ l. line ++ l) e.2 ∙ append-nil line in
          let parted : parted_by newline xs ≡ line ∷ [] = ap (parted_by newline) whole ∙ e.0 in
          let cut : turn ≡ refused_18 s k = cut_says s k kept turn (subst IsCut (sym b.front) (open_cut line e.0)) c in
          let after : LogSays (refused_18 s k).next (k + 1) ([] ∷ []) more fine = subst (λ (t : Turn). LogSays t.next (k + 1) ([] ∷ []) more fine) cut (subst (λ l. LogSays turn.next (k + 1) (parted_by newline l) more fine) e.2 h) in
          subst (λ ps. LogSays s k ps (turn.said ++ more) (turn.well_formed && fine)) (sym parted)
          (subst (λ (t : Turn). LogSays s k (line ∷ []) (t.said ++ more) (t.well_formed && fine)) (sym cut) (nothing_said s k line e.1 more fine after))
    ]

-- nothing is said of what is not looked at
pub over_says : (k : ℕ) (pieces : List (List ℕ)) → 0 < length pieces → LogSays over k pieces [] true
over_says k [] some = absurd (omega arith)
over_says k (last ∷ []) some = (refl, refl)
over_says k (line ∷ next ∷ rest) some = (says [] over, refl, [], true, over_says (k + 1) (next ∷ rest) (omega arith), refl, refl)

-- at the end of a log
pub end_leads : (s : Stage) (k j : ℕ) (xs : List ℕ) → xs ≡ [] → Leads s k xs (end_says s k []).said (end_says s k []).well_formed over j xs
end_leads s k j xs none more fine h =
    let h' : LogSays over j ([] ∷ []) more fine = subst (λ l. LogSays over j (parted_by newline l) more fine) none h in
    subst (λ l. LogSays s k (parted_by newline l) ((end_says s k []).said ++ more) ((end_says s k []).well_formed && fine)) (sym none)
    (ap (λ m. (end_says s k []).said ++ m) h'.0 ∙ append-nil _, ap (λ b. (end_says s k []).well_formed && b) h'.1 ∙ and_true (end_says s k []).well_formed)
  where
    and_true : (b : Bool) → (b && true) ≡ b
    and_true true = refl
    and_true false = refl
