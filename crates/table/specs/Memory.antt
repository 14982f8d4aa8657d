-- What a call leaves in the table and in the row memory. Assumes nothing.
-- How to read it: t is the table before the call and u the one after it; `places.now` is the row memory.
use Rattle.std.specs.Prelude.{◌≡◌, ℕ, ◌<◌, List, length, drop, None, Option, slice_index_or, slice_set, Result, MatchResult}
use Rattle.analysis.specs.declared.TheConstants.{MOST_ROWS}
use Rattle.analysis.specs.declared.Task.{Task}
use Rattle.table.specs.declared.state.State.{State}
use Rattle.table.specs.declared.state.State.TheVariants.{Free}
use Rattle.table.specs.declared.Table.{Table}

-- the places that a table may use are empty, and those behind them are as they were
pub record Emptied {K : Type 0} (before after : List (Option (Task K))) : Type 0 where
  pub count : length after ≡ length before
  pub empty : (i : ℕ) → i < MOST_ROWS → slice_index_or after i None ≡ None
  pub behind : drop MOST_ROWS after ≡ drop MOST_ROWS before

module _ {K : Type 0} (t u : Table K) where
  -- the table is the same, and so is the memory that it was lent
  pub record SameTable : Type 0 where
    pub number : u.number ≡ t.number
    pub states : u.states ≡ t.states
    pub places : u.places.now ≡ t.places.now
    pub lent : u.places.ghost_name ≡ t.places.ghost_name

  -- this place has the state `after` and this content, and nothing else has changed
  pub record PutAt (place : ℕ) (after : State) (content : Option (Task K)) : Type 0 where
    pub number : u.number ≡ t.number
    pub states : u.states ≡ slice_set t.states place after
    pub places : u.places.now ≡ slice_set t.places.now place content
    pub lent : u.places.ghost_name ≡ t.places.ghost_name

  -- one place has changed, to this state and this content; it had the state `before`
  pub record ChangedAt (before after : State) (content : Option (Task K)) : Type 0 where
    pub place : ℕ
    pub low : place < MOST_ROWS
    pub within : place < length t.places.now
    pub was : slice_index_or t.states place Free ≡ before
    pub put : PutAt place after content

  -- this place has the state `after`, and nothing else has changed
  pub record StateAt (place : ℕ) (after : State) : Type 0 where
    pub number : u.number ≡ t.number
    pub states : u.states ≡ slice_set t.states place after
    pub places : u.places.now ≡ t.places.now
    pub lent : u.places.ghost_name ≡ t.places.ghost_name

  -- one place has another state, and the memory is the same
  pub record MarkedAt (before after : State) : Type 0 where
    pub place : ℕ
    pub low : place < MOST_ROWS
    pub was : slice_index_or t.states place Free ≡ before
    pub number : u.number ≡ t.number
    pub states : u.states ≡ slice_set t.states place after
    pub places : u.places.now ≡ t.places.now
    pub lent : u.places.ghost_name ≡ t.places.ghost_name

  -- a call that succeeds has changed one place, as `ChangedAt` says, and one that is refused nothing
  abbrev pub ChangesOnOk : {A E : Type 0} → Result A E → State → State → Option (Task K) → Type 0
  ChangesOnOk r before after content = MatchResult r (λ _. ChangedAt before after content) (λ _. SameTable)

  -- a call that succeeds has changed the state of one place, as `MarkedAt` says, and one that is refused nothing
  abbrev pub MarksOnOk : {A E : Type 0} → Result A E → State → State → Type 0
  MarksOnOk r before after = MatchResult r (λ _. MarkedAt before after) (λ _. SameTable)
