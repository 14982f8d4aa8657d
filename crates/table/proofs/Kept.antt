-- Every call keeps the account sound. Assumes nothing.
use Rattle.std.proofs.Common.{◌≡◌, ◌==◌, ◌≢◌, ℕ, true, false, not, List, [], ◌∷◌, Ok, Err, refl, not-suc-le-zero}
use Rattle.std.proofs.lemmas.List.Elements.{All-cons, All-filter, All-nil}
use Rattle.std.proofs.lemmas.List.Kept.{AllPairs-cons, AllPairs-filter}
use Rattle.std.proofs.lemmas.Bool.{or_left, eq-eqb}
use Rattle.demand.specs.Demand.{Lawful}
use Rattle.demand.specs.Refusals.{first}
use Rattle.analysis.specs.Ranks.{Claim}
use Rattle.analysis.proofs.Removal.{removal_keeps_in_time}
use Rattle.table.specs.declared.hold.Hold.{Hold}
use Rattle.analysis.proofs.Order.{lawful_ranking}
use Rattle.table.specs.Account.{Account, Bears, bears, AllInTime, fresh_account, number_of, has_number, hold_checks, has_unspent, has_hold_on, without_hold, without_row, with_row, with_kept, with_withdrawn}
use Rattle.table.specs.Agreement.{Sound, OwnHolds}
use Rattle.table.specs.Runs.{Event, holding, keeping, releasing, withdrawing, bounding, Step, after_all, Run}
use Rattle.table.proofs.Checks.{is_unspent, not_held}
use Rattle.table.proofs.Shared.{passed}
use Rattle.table.proofs.Parts.{without_some, other_numbers, own_more, own_without, own_released, unspent_own}

still_in_time : (n : ℕ) (a : Account) → Sound a → AllInTime (without_row n a.rows)
still_in_time n a s =
    let left = removal_keeps_in_time a.rows (lawful_ranking a.rows s.lawful) s.in_time.R s.in_time.V s.in_time.bounds s.priorities (without_row n a.rows) (without_some n a.rows) in
    record { R = left.Q; V = left.W; bounds = left.bounds }

pub fresh_sound : (number room : ℕ) → Sound (fresh_account number room)
fresh_sound number room =
    record {
      numbers = λ i j d l m. absurd (not-suc-le-zero m);
      priorities = λ i j d l m. absurd (not-suc-le-zero m);
      lawful = All-nil (λ c. Lawful c.demand);
      in_time = record { R = λ k. 0; V = λ k. 0; bounds = λ k h. absurd (not-suc-le-zero h) };
      holds = λ k d l. absurd (not-suc-le-zero l);
    }

pub with_row_sound : (a : Account) → Sound a → (c : Claim) → Lawful c.demand → first (hold_checks a c) ≡ 0 → AllInTime (c ∷ a.rows) → Sound (with_row a c)
with_row_sound a s c lawful passes in_time =
    let new = passed a c passes in
    record {
      numbers = AllPairs-cons (λ c d. number_of c ≢ number_of d) c a.rows (other_numbers (number_of c) a.rows new.number) s.numbers;
      priorities = AllPairs-cons (λ c d. c.row.priority ≢ d.row.priority) c a.rows new.priority s.priorities;
      lawful = All-cons (λ c. Lawful c.demand) c a.rows lawful s.lawful;
      in_time = in_time;
      holds =
          All-cons (λ h. (h.table ≡ a.number) × (has_number h.row (c ∷ a.rows) ≡ true)) (record { table = a.number; row = number_of c }) a.holds
          (refl, or_left (number_of c == number_of c) (has_number (number_of c) a.rows) (eq-eqb (number_of c) (number_of c) refl))
          (own_more a.number a.rows c a.holds s.holds);
    }

pub with_kept_sound : (a : Account) → Sound a → (h : Hold) → Sound (with_kept a h)
with_kept_sound a s h =
    record {
      numbers = s.numbers;
      priorities = s.priorities;
      lawful = s.lawful;
      in_time = s.in_time;
      holds = All-filter (λ b. not (bears h.table h.row b)) (λ b. (b.table ≡ a.number) × (has_number b.row a.rows ≡ true)) a.holds s.holds;
    }

-- the row of the number n goes out, and these holds are left
out_sound : (a : Account) → Sound a → (n : ℕ) (hs : List Bears) → OwnHolds a.number (without_row n a.rows) hs → Sound (record { number = a.number; room = a.room; rows = without_row n a.rows; holds = hs })
out_sound a s n hs own =
    record {
      numbers = AllPairs-filter (λ c d. number_of c ≢ number_of d) (λ c. not (number_of c == n)) a.rows s.numbers;
      priorities = AllPairs-filter (λ c d. c.row.priority ≢ d.row.priority) (λ c. not (number_of c == n)) a.rows s.priorities;
      lawful = All-filter (λ c. not (number_of c == n)) (λ c. Lawful c.demand) a.rows s.lawful;
      in_time = still_in_time n a s;
      holds = own;
    }

-- the hold of these two numbers is spent, and its row goes out
pub released_sound : (a : Account) → Sound a → (t n : ℕ) → has_unspent t n a.holds ≡ true → Sound (record { number = a.number; room = a.room; rows = without_row n a.rows; holds = without_hold t n a.holds })
released_sound a s t n e =
    out_sound a s n (without_hold t n a.holds) (own_released a.number a.rows t n (unspent_own a.number a.rows t n a.holds s.holds e) a.holds s.holds)

pub with_withdrawn_sound : (a : Account) → Sound a → (n : ℕ) → has_hold_on n a.holds ≡ false → Sound (with_withdrawn a n)
with_withdrawn_sound a s n e = out_sound a s n a.holds (own_without a.number a.rows n a.holds e s.holds)

sound_step : (a b : Account) (e : Event) → Sound a → Step a e b → Sound b
sound_step a b (holding c (Ok h)) s step = rw step.1.1 (with_row_sound a s c step.0 step.1.0.passes step.1.0.in_time)
sound_step a b (holding c (Err e)) s step = rw step.1.1 s
sound_step a b (keeping h (Ok u)) s step = rw step.1 (with_kept_sound a s h)
sound_step a b (keeping h (Err e)) s step = rw step.2 s
sound_step a b (releasing h (Ok u)) s step = rw step.1 (released_sound a s h.table h.row (is_unspent (has_unspent h.table h.row a.holds) step.0))
sound_step a b (releasing h (Err e)) s step = rw step.2 s
sound_step a b (withdrawing n (Ok u)) s step = rw step.1 (with_withdrawn_sound a s n (not_held (has_number n a.rows) (has_hold_on n a.holds) step.0))
sound_step a b (withdrawing n (Err e)) s step = rw step.1 s
sound_step a b (bounding n r) s step = rw step.1 s

pub sound : (number room : ℕ) (es : List Event) → Run (fresh_account number room) es → Sound (after_all (fresh_account number room) es)
sound number room [] run = fresh_sound number room
sound number room (e ∷ es) run = sound_step (after_all (fresh_account number room) es) (after_all (fresh_account number room) (e ∷ es)) e (sound number room es run.0) run.1
