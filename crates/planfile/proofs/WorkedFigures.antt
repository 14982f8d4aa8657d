-- The worked figures, computed. Assumes nothing.
use Rattle.std.proofs.Common.{◌≡◌, ℕ, zero, suc, ◌<◌, Bool, true, nat_le, List, [], length, slice_index_or, refl, arith}
use Rattle.std.proofs.lemmas.Bool.{leb-true}
use Rattle.std.specs.List.{list_all}
use Rattle.std.proofs.lemmas.List.Sums.{AllPass-from_list_all}
use Rattle.std.specs.Fmt.{digits}
use Rattle.analysis.specs.Judge.{RowAnswered, InTime, no_answer, bounds_of, vectors_of}
use Rattle.analysis.specs.Plans.{Bounds}
use Rattle.analysis.specs.Ranks.{load_at, ranking, loads, system_of}
use Rattle.analysis.proofs.Best.{best_plan}
use Rattle.analysis.proofs.Tested.{fixed_by}
use Rattle.table.specs.Agreement.{LawfulRows}
use Rattle.table.proofs.Shared.{needs_grow}
use Rattle.planfile.specs.Checks.{Entry}
use Rattle.planfile.specs.Figures.{garage_bounds, garage_vectors, TextFigures, WorkedFigures, even_clock, entry_with, garage_entries, garage_answers, file_rows}
use Rattle.planfile.specs.Laws.{numbers_of, jobs_numbers, AllFit, Writable, SoundPlan}
use Rattle.planfile.specs.Text.{largest_number}
use Rattle.planfile.proofs.GarageCalls.{car_accepted, car_late, meters_late, car_withdrawn, then_one, then_two}
use Rattle.planfile.proofs.GarageFile.{garage_read, car_13_refused, car_14_read, meters_8_refused, meters_9_read}
use Rattle.planfile.proofs.GarageRows.{three, three_rows}
use Rattle.planfile.proofs.RowsAccepted.{lawful_onto, none_lawful}

text_figures : TextFigures
text_figures =
    record {
      two_lines = refl;
      no_line = refl;
      three_fields = refl;
      zeros = refl;
      other_word = refl;
      too_few = refl;
      no_digit = refl;
      too_fast = refl;
      passes = refl;
      no_row = refl;
      short_row = refl;
    }

-- all are at most the largest number of a field
abbrev all_low : List ℕ → Bool
all_low = list_all (λ n. nat_le n largest_number)

all_fit : (ns : List ℕ) → all_low ns ≡ true → AllFit ns
all_fit ns e k d within = leb-true _ largest_number (AllPass-from_list_all (λ n. nat_le n largest_number) ns e k d within)

-- an entry whose numbers are low can be written
writable : (e : Entry) → length e.row.sections ≡ 8 → all_low (numbers_of e) ≡ true → all_low (jobs_numbers e.jobs) ≡ true → Writable e
writable e locks numbers jobs = record { locks = locks; numbers = all_fit (numbers_of e) numbers; jobs = all_fit (jobs_numbers e.jobs) jobs }

sound : SoundPlan even_clock garage_entries
sound =
    record {
      numerator = omega arith;
      denominator = omega arith;
      factor = refl;
      numbers = (
        writable (entry_with 1 30 3 1 10 1 2 10) refl refl refl,
        refl,
        refl,
        (writable (entry_with 2 20 0 0 15 0 3 16) refl refl refl, refl, refl, (writable (entry_with 3 10 0 0 40 2 5 40) refl refl refl, refl, refl, tt)),
      );
      in_time = record { R = garage_bounds; V = garage_vectors; bounds = three_rows 10 40 tt tt };
    }

lawful : LawfulRows file_rows
lawful = lawful_onto even_clock [] garage_entries none_lawful

each_answer : (k : ℕ) → k < 3 → RowAnswered (load_at (loads (ranking file_rows)) k) (slice_index_or garage_answers k no_answer)
each_answer zero l = record { number = refl; blocking = refl }
each_answer (suc zero) l = record { number = refl; blocking = refl }
each_answer (suc (suc zero)) l = record { number = refl; blocking = refl }
each_answer (suc (suc (suc k))) l = absurd (omega arith)

each_bound : Bounds (system_of file_rows) 3 (bounds_of garage_answers) (vectors_of garage_answers)
each_bound zero l = three_rows 10 40 tt tt 0 (omega arith)
each_bound (suc zero) l = three_rows 10 40 tt tt 1 (omega arith)
each_bound (suc (suc zero)) l = three_rows 10 40 tt tt 2 (omega arith)
each_bound (suc (suc (suc k))) l = absurd (omega arith)

in_time : InTime file_rows garage_answers
in_time =
    record {
      few = omega arith;
      answered = record { count = refl; rows = each_answer; bounds = each_bound };
      best_plan = best_plan (system_of file_rows) (needs_grow file_rows lawful) (bounds_of garage_answers) (vectors_of garage_answers) each_bound;
    }

pub worked_figures : WorkedFigures
unfolding digits
worked_figures =
    record {
      kinds = (refl, refl, refl, refl, refl, refl, refl, refl, refl, refl, refl, refl, refl, refl, refl, refl);
      texts = text_figures;
      limits = record { rows = refl; locks = refl; number = refl; priority = refl; suspension = refl; suspensions = refl; file = refl; line = refl; report = refl };
      written = refl;
      sound = sound;
      read = garage_read;
      ranks = refl;
      blocking = refl;
      bounds = three_rows 10 40 tt tt;
      under_0 = fixed_by (three 10 40) garage_bounds 2 0 17 tt tt tt tt tt;
      under_1 = fixed_by (three 10 40) garage_bounds 2 1 17 tt tt tt tt tt;
      under_2 = fixed_by (three 10 40) garage_bounds 2 2 14 tt tt tt tt tt;
      under_3 = fixed_by (three 10 40) garage_bounds 2 3 14 tt tt tt tt tt;
      answered = in_time;
      reported = refl;
      refused = refl;
      car_13_refused = car_13_refused;
      car_14_read = car_14_read;
      meters_8_refused = meters_8_refused;
      meters_9_read = meters_9_read;
      car_13_late = (car_late, refl);
      car_14_held = (car_accepted 10 14 tt tt refl, refl);
      meters_8_late = (meters_late, refl);
      meters_9_held = (car_accepted 9 40 tt tt refl, refl);
      withdrawn = car_withdrawn;
      then_one = then_one;
      then_two = then_two;
    }
