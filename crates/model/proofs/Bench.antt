-- The starred cases of the bench sheet, settled by one computed statement, and the states. Assumes nothing.
use mathlib.Core.Path.{◌≡◌, refl}
use mathlib.Core.Bool.{true, not}
use Rattle.model.specs.Geometry.{image_page, word_at}
use Rattle.model.specs.Words.{programmed, differ_in, changed_bits}
use Rattle.model.specs.Places.{total_words, place_of}
use Rattle.model.specs.Queue.{held, queue_of, pushed, oldest, popped}
use Rattle.model.specs.Rights.{data_ruling, seed_closed, info_ruling, ruling_at, leading, allowed_words, denied, readable_words}
use Rattle.model.specs.Checks.{malformed, out_of_range, crosses_window, operation_answer}
use Rattle.model.specs.Valid.{all, settings_fit, work_fits, running_fits, physical_fits, valid, valid_with}
use Rattle.model.specs.Errors.{recorded}
use Rattle.model.specs.State.{flash_fits}
use Rattle.model.specs.Settings.{set_inputs, configured, set_region, set_default, set_info, set_erase}
use Rattle.model.specs.Lifecycle.{reset, initialise_answer, initialise}
use Rattle.model.specs.Steps.{start_answer, start, push_answer, push, stalls, delivered, counted_bits, advance, step_progress, step}
use Rattle.model.specs.Bench.{open_pages, all_rights, bench, two_regions, seeds_locked, program_one, program_two, cases, holds, nothing_given, valid_states, invalid_states}

pub starred : all holds cases ≡ true
unfolding image_page word_at programmed differ_in changed_bits total_words place_of held queue_of pushed oldest popped data_ruling seed_closed info_ruling ruling_at leading allowed_words denied readable_words malformed out_of_range crosses_window operation_answer settings_fit work_fits running_fits physical_fits valid flash_fits valid_with recorded set_inputs configured set_region set_default set_info set_erase reset initialise_answer initialise start_answer start push_answer push stalls delivered counted_bits advance step_progress step open_pages all_rights bench two_regions seeds_locked program_one program_two cases
starred = refl

-- The valid states are valid, and the others are not.
ours : all valid valid_states ≡ true
unfolding image_page word_at total_words place_of held queue_of data_ruling seed_closed info_ruling ruling_at leading allowed_words denied readable_words malformed out_of_range crosses_window operation_answer settings_fit work_fits running_fits physical_fits valid flash_fits valid_with set_inputs configured set_region set_default set_info set_erase reset initialise_answer initialise open_pages all_rights bench nothing_given valid_states invalid_states
ours = refl

not_ours : all (λ c. not (valid c)) invalid_states ≡ true
unfolding image_page word_at total_words place_of held queue_of data_ruling seed_closed info_ruling ruling_at leading allowed_words denied readable_words malformed out_of_range crosses_window operation_answer settings_fit work_fits running_fits physical_fits valid flash_fits valid_with set_inputs configured set_region set_default set_info set_erase reset initialise_answer initialise open_pages all_rights bench nothing_given valid_states invalid_states
not_ours = refl
