-- The calls of a write whose power is cut after two steps, worked out. Assumes nothing.
use mathlib.Core.Path.{◌≡◌, refl}
use mathlib.Core.List.{[], ◌∷◌}
use Rattle.model.specs.Geometry.{image_page}
use Rattle.model.specs.Places.{total_words}
use Rattle.model.specs.State.{flash_fits}
use Rattle.model.specs.Rights.{data_ruling, ruling_at, leading, allowed_words, denied}
use Rattle.model.specs.Checks.{malformed, out_of_range, crosses_window, operation_answer}
use Rattle.model.specs.Settings.{configured, set_default}
use Rattle.model.specs.Lifecycle.{reset, initialise_answer, initialise}
use Rattle.model.specs.Steps.{start_answer, start}
use Rattle.model.specs.Valid.{settings_fit, running_fits, physical_fits, valid, valid_with}
use Rattle.model.specs.Whole.{whole_answer}
use Rattle.model.specs.Bench.{op}
use Rattle.promises.specs.Calls.{Start, Step, Push}
use Rattle.registers.specs.Registers.{regions_of, info_of, progress_at, stands_for, encoded, decode, put_from_physical, put_from_errors, put_from_programs}
use Rattle.registers.specs.Registers.{put_from_reads, put_from_progress, put_from_erase, put_from_info, put_from_regions, put_from_inputs, put, zeroed, cleared}
use Rattle.calls.specs.Calls.{reset_in, set_default_in, initialise_in, start_in}
use Rattle.driving.specs.Drives.{driven_from_in, driven_in}
use Rattle.scan_queue.specs.Payload.{groups, words_of, all, written}
use Rattle.scan_queue.specs.Slots.{words_at, slot_at, slots_from, places, highest}
use Rattle.scan_queue.specs.Decisions.{first_unused, write}
use Rattle.scan_pages.specs.Pages.{word_address, pages_serve, pages_answer}
use Rattle.scans.specs.Jobs.{jobs}
use Rattle.scan_promises.specs.Reboots.{powered_on}
use Rattle.scan_promises.specs.ScanIsCalls.{turn_calls, driven_calls, job_calls, write_calls}
use Rattle.scan_promises.proofs.Instances.{image, fresh}

pub calls : write_calls 2 fresh image 1 0 (7 ∷ 8 ∷ 9 ∷ []) ≡ Start (op 1 0 0 8 14) ∷ Push 0x08070301 ∷ Step ∷ Push 0xFFFFFF09 ∷ Step ∷ []
unfolding image_page total_words flash_fits data_ruling ruling_at leading allowed_words denied malformed out_of_range crosses_window operation_answer configured set_default reset initialise_answer initialise start_answer start settings_fit running_fits physical_fits valid valid_with whole_answer regions_of info_of progress_at stands_for encoded decode put_from_physical put_from_errors put_from_programs put_from_reads put_from_progress put_from_erase put_from_info put_from_regions put_from_inputs put zeroed cleared reset_in set_default_in initialise_in start_in driven_from_in driven_in groups words_of all written words_at slot_at slots_from places highest first_unused write word_address pages_serve pages_answer jobs powered_on turn_calls driven_calls job_calls write_calls
calls = refl
