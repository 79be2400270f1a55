-- Registers stay as many, whatever controller is handed back in them. Assumes nothing.
use mathlib.Core.Bool.{Bool}
use mathlib.Core.List.{List}
use Prim.Native.Nat.{ℕ}
use Rattle.model.specs.declared.Controller.{Controller}
use Rattle.registers.specs.Registers.{put_region, put_setting, put_erase, put_from_physical, put_from_errors, put_from_programs, put_from_reads}
use Rattle.registers.specs.Registers.{put_from_progress, put_from_erase, put_from_info, put_from_regions, put_from_inputs, put, hand_back}
use Rattle.registers.proofs.Stored.{Long, long_set, long_sets, long_all, long_region, long_setting, long_erase, long_progress, long_queue, cond_long}

long_put : (s : List ℕ) (c : Controller) → Long s → Long (put s c)
unfolding put put_from_inputs put_from_regions put_from_info put_from_erase put_from_progress put_from_reads put_from_programs put_from_errors put_from_physical
long_put s c l =
    let plain = long_set _ _ (long_set _ _ (long_set _ _ (long_set _ _ (long_set _ _ l)))) in
    let regions = long_all put_region long_region _ 0 c.setup.settings.regions plain in
    let info = long_all put_setting long_setting _ 0 c.setup.settings.info regions in
    let erase = long_all put_erase long_erase _ 0 c.setup.settings.erase info in
    let progress = long_progress _ c.progress erase in
    let queues = long_queue _ _ c.queues.programs (long_queue _ _ c.queues.reads progress) in
    long_sets _ c.physical.lost (long_set _ _ (long_set _ _ queues))

pub long_back : (changed : Bool) (s : List ℕ) (c : Controller) → Long s → Long (hand_back changed s c)
long_back changed s c l = cond_long changed (long_put s c l) l
