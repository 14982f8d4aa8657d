-- What no call changes. Assumes nothing.
use Rattle.std.proofs.Common.{◌≡◌, ℕ, Ok, Err, MatchResult, Option, Result, List, length, drop, min, ap, ◌∙◌}
use Rattle.std.proofs.Math.Path.{ap₂}
use Rattle.std.proofs.lemmas.List.{drop-set-lt, length-set}
use Rattle.analysis.specs.declared.Task.{Task}
use Rattle.table.specs.declared.state.State.{State}
use Rattle.table.specs.declared.Table.{Table}
use Rattle.table.specs.Account.{Account, fresh_account}
use Rattle.table.specs.Memory.{ChangedAt, MarkedAt, SameTable}
use Rattle.runs.specs.Holds.{frame_of}

module _ {K : Type 0} (t u : Table K) where
  -- the number of a table is part of its frame
  pub same_number : frame_of u ≡ frame_of t → u.number ≡ t.number
  same_number frame = ap (λ (x : Account × ℕ × List (Option (Task K))). x.0.number) frame

  -- the four parts of a frame
  frame_from : u.number ≡ t.number → length u.places.now ≡ length t.places.now → u.places.ghost_name ≡ t.places.ghost_name → drop 12 u.places.now ≡ drop 12 t.places.now → frame_of u ≡ frame_of t
  frame_from number count lent behind =
      ap₂ (λ (a : Account) (m : ℕ × List (Option (Task K))). (a, m.0, m.1)) (ap₂ fresh_account number (ap (λ n. min n 12) count))
      (ap₂ (λ (n : ℕ) (places : List (Option (Task K))). (n, places)) lent behind)

  pub frame_same : SameTable t u → frame_of u ≡ frame_of t
  frame_same same = frame_from same.number (ap length same.places) same.lent (ap (drop 12) same.places)

  pub frame_put : (before after : State) (content : Option (Task K)) → ChangedAt t u before after content → frame_of u ≡ frame_of t
  frame_put before after content c =
      frame_from c.put.number (ap length c.put.places ∙ length-set t.places.now c.place content) c.put.lent
      (ap (drop 12) c.put.places ∙ drop-set-lt 12 t.places.now c.place content c.low)

  pub frame_marked : (before after : State) → MarkedAt t u before after → frame_of u ≡ frame_of t
  frame_marked before after m = frame_from m.number (ap length m.places) m.lent (ap (drop 12) m.places)

  -- whether the call was accepted or refused
  pub put_or_refused : {A E : Type 0} (before after : State) (content : Option (Task K)) (r : Result A E) → MatchResult r (λ x. ChangedAt t u before after content) (λ e. SameTable t u) → frame_of u ≡ frame_of t
  put_or_refused before after content (Ok x) c = frame_put before after content c
  put_or_refused before after content (Err e) same = frame_same same

  pub marked_or_refused : {A E : Type 0} (before after : State) (r : Result A E) → MatchResult r (λ x. MarkedAt t u before after) (λ e. SameTable t u) → frame_of u ≡ frame_of t
  marked_or_refused before after (Ok x) m = frame_marked before after m
  marked_or_refused before after (Err e) same = frame_same same
