-- A queue on a fresh controller whose default rights allow everything: the premise of the promises is met. Assumes nothing.
use Prim.Native.Nat.{ℕ}
use mathlib.Core.Path.{◌≡◌, refl}
use mathlib.Core.List.{List, [], ◌∷◌}
use lib.ListN.{length, replicate}
use Rattle.model.specs.Geometry.{image_words}
use Rattle.model.specs.Words.{all_ones}
use Rattle.model.specs.State.{Flash, flash, flash_fits}
use Rattle.model.specs.Rights.{data_ruling, ruling_at}
use Rattle.model.specs.Settings.{configured, set_default}
use Rattle.model.specs.Lifecycle.{reset, initialise_answer, initialise}
use Rattle.model.specs.Valid.{settings_fit, running_fits, physical_fits, valid, valid_with}
use Rattle.model.specs.Whole.{whole_answer}
use Rattle.promises.specs.Calls.{Call, SetDefault}
use Rattle.registers.specs.Layout.{register_count}
use Rattle.registers.specs.Registers.{regions_of, info_of, progress_at, stands_for, encoded, decode, put_from_physical, put_from_errors, put_from_programs}
use Rattle.registers.specs.Registers.{put_from_reads, put_from_progress, put_from_erase, put_from_info, put_from_regions, put_from_inputs, put, zeroed, cleared}
use Rattle.calls.specs.Calls.{reset_in, set_default_in, initialise_in}
use Rattle.scan_pages.specs.Pages.{pages_serve, pages_answer}
use Rattle.scan_promises.specs.Reboots.{powered_on}

abbrev pub image : Flash
image = flash (replicate (image_words 10) all_ones)

-- All three rights, in every data page.
abbrev pub settings : List Call
settings = SetDefault 7 ∷ []

abbrev pub zeros : List ℕ
zeros = replicate register_count 0

abbrev pub fresh : List ℕ
fresh = powered_on 10 settings zeros image

-- Pages 0 and 19 serve, and 0 and 1; the same page twice and page 20 are 16.
pub serve : (length fresh ≡ register_count) × (pages_answer (decode fresh) image 19 0 ≡ 0) × (pages_answer (decode fresh) image 1 0 ≡ 0) × (pages_answer (decode fresh) image 3 3 ≡ 16) × (pages_answer (decode fresh) image 0 20 ≡ 16)
unfolding powered_on settings_fit running_fits physical_fits valid valid_with flash_fits configured set_default reset initialise_answer initialise whole_answer data_ruling ruling_at regions_of info_of progress_at stands_for encoded decode put_from_physical put_from_errors put_from_programs put_from_reads put_from_progress put_from_erase put_from_info put_from_regions put_from_inputs put zeroed cleared reset_in set_default_in initialise_in pages_serve pages_answer
serve = (refl, refl, refl, refl, refl)
