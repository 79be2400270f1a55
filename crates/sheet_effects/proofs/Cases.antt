-- Runs of bench sheets from the state in which the program starts, worked out. Assumes nothing.
use mathlib.Core.Path.{◌≡◌, refl}
use mathlib.Core.List.{[], ◌∷◌}
use mathlib.Core.Bool.{false}
use lib.ListN.{replicate}
use Rattle.model.specs.Geometry.{image_page, word_at}
use Rattle.model.specs.Words.{programmed, differ_in, changed_bits}
use Rattle.model.specs.Places.{total_words, place_of}
use Rattle.model.specs.Queue.{held, queue_of, pushed, oldest, popped}
use Rattle.model.specs.Rights.{data_ruling, seed_closed, info_ruling, ruling_at, ruling_of_page, leading, allowed_words, denied, decider_of, readable_words}
use Rattle.model.specs.Checks.{malformed, out_of_range, crosses_window, operation_answer}
use Rattle.model.specs.Valid.{settings_fit, work_fits, running_fits, physical_fits, valid, valid_with}
use Rattle.model.specs.Errors.{recorded, error_address}
use Rattle.model.specs.State.{flash_fits, reset_controller}
use Rattle.model.specs.Settings.{configured, set_default}
use Rattle.model.specs.Lifecycle.{reset, initialise_answer, initialise}
use Rattle.model.specs.Steps.{start_answer, start, push_answer, push, pop_answer, pop, stalls, delivered, read_word, counted_bits, advance, step_progress, step}
use Rattle.model.specs.Whole.{turn, turns, whole_answer, drive, whole}
use Rattle.model.specs.declared.Phase.TheVariants.{Ready}
use Rattle.registers.specs.Registers.{regions_of, info_of, progress_at, stands_for, encoded, decode, put_from_physical, put_from_errors, put_from_programs}
use Rattle.registers.specs.Registers.{put_from_reads, put_from_progress, put_from_erase, put_from_info, put_from_regions, put_from_inputs, put, zeroed, cleared}
use Rattle.calls.specs.Calls.{set_default_in, reset_in, initialise_in, whole_in}
use Rattle.numbers.specs.Number.{continued, last_group, groups_value, shortest, number_between, number_at, limited, number_to, then_number, then_numbers}
use Rattle.std.proofs.Common.{Ok}
use Rattle.sheets.specs.Sheet.{kind_at, partition_at, type_at, address_at, count_at, operation_at, carried, stated_at, entry_with, block_with, block_at, verdict_of, expanded, request_at, words_from, loaded}
use Rattle.sheet_effects.specs.Run.{requested, performed, performed_all, run, bench_registers, bench_run}

-- Ready, D = 16, both inputs off, and no rights.
pub begins : ((decode bench_registers).phase ≡ Ready) × ((decode bench_registers).setup.pages ≡ 16)
    × ((decode bench_registers).setup.inputs ≡ record { provision = false; locked = false }) × ((decode bench_registers).setup.settings ≡ (reset_controller 16).setup.settings)
unfolding data_ruling settings_fit work_fits running_fits physical_fits valid valid_with flash_fits reset initialise_answer initialise held total_words regions_of info_of progress_at stands_for encoded decode put_from_physical put_from_errors put_from_programs put_from_reads put_from_progress put_from_erase put_from_info put_from_regions put_from_inputs put zeroed cleared reset_in initialise_in bench_registers
begins = (refl, refl, refl, refl)

-- 02's ten bytes: three lines of 9 and 0, at the front of a row.
pub three_reads : bench_run (2 ∷ 3 ∷ 1 ∷ 0 ∷ 0 ∷ 0 ∷ 0 ∷ 1 ∷ 0 ∷ 0 ∷ []) (1 ∷ 2 ∷ 3 ∷ 4 ∷ 5 ∷ 6 ∷ 7 ∷ [])
    ≡ record { told = record { verdict = Ok 3; numbers = 6 }; row = 9 ∷ 0 ∷ 9 ∷ 0 ∷ 9 ∷ 0 ∷ 7 ∷ [] }
unfolding image_page word_at programmed differ_in changed_bits total_words place_of held queue_of pushed oldest popped data_ruling seed_closed info_ruling ruling_at ruling_of_page leading allowed_words denied decider_of readable_words malformed out_of_range crosses_window operation_answer settings_fit work_fits running_fits physical_fits valid valid_with recorded error_address flash_fits configured set_default reset initialise_answer initialise start_answer start push_answer push pop_answer pop stalls delivered read_word counted_bits advance step_progress step turn turns whole_answer drive whole regions_of info_of progress_at stands_for encoded decode put_from_physical put_from_errors put_from_programs put_from_reads put_from_progress put_from_erase put_from_info put_from_regions put_from_inputs put zeroed cleared set_default_in reset_in initialise_in whole_in continued last_group groups_value shortest number_between number_at limited number_to then_number then_numbers kind_at partition_at type_at address_at count_at operation_at carried stated_at entry_with block_with block_at verdict_of expanded request_at words_from loaded requested performed performed_all run bench_registers bench_run
three_reads = refl

-- A read; rights to read and program; a read; twice a program of 0x12345678, which has 19 zeros; rights to read; a program. Rights print
-- nothing and last.
pub rights_last : bench_run (1 ∷ 0 ∷ 0 ∷ 0 ∷ 0 ∷ 1 ∷ 3 ∷ 3 ∷ 1 ∷ 0 ∷ 0 ∷ 0 ∷ 0 ∷ 1 ∷ 2 ∷ 2 ∷ 1 ∷ 1 ∷ 0 ∷ 0 ∷ 0 ∷ 1 ∷ 248 ∷ 172 ∷ 209 ∷ 145 ∷ 1 ∷ 0 ∷ 3 ∷ 1 ∷ 1 ∷ 1 ∷ 0 ∷ 0 ∷ 0 ∷ 1 ∷ 0 ∷ 0 ∷ [])
    (replicate 11 7) ≡ record { told = record { verdict = Ok 7; numbers = 10 }; row = 9 ∷ 0 ∷ 0 ∷ 0 ∷ 0 ∷ 19 ∷ 0 ∷ 0 ∷ 9 ∷ 0 ∷ 7 ∷ [] }
unfolding image_page word_at programmed differ_in changed_bits total_words place_of held queue_of pushed oldest popped data_ruling seed_closed info_ruling ruling_at ruling_of_page leading allowed_words denied decider_of readable_words malformed out_of_range crosses_window operation_answer settings_fit work_fits running_fits physical_fits valid valid_with recorded error_address flash_fits configured set_default reset initialise_answer initialise start_answer start push_answer push pop_answer pop stalls delivered read_word counted_bits advance step_progress step turn turns whole_answer drive whole regions_of info_of progress_at stands_for encoded decode put_from_physical put_from_errors put_from_programs put_from_reads put_from_progress put_from_erase put_from_info put_from_regions put_from_inputs put zeroed cleared set_default_in reset_in initialise_in whole_in continued last_group groups_value shortest number_between number_at limited number_to then_number then_numbers kind_at partition_at type_at address_at count_at operation_at carried stated_at entry_with block_with block_at verdict_of expanded request_at words_from loaded requested performed performed_all run bench_registers bench_run
rights_last = refl
