-- A controller that is put into the numbers is what they then stand for. Assumes nothing.
use Prim.Native.Nat.{ℕ, ◌+◌, ◌%◌, ◌<◌, ◌≤◌}
use native.Mathlib.Omega.{arith}
use mathlib.Core.Path.{◌≡◌, refl, ap, sym, subst, ◌∙◌}
use mathlib.Core.Bool.{Bool, true, false, ◌&&◌}
use mathlib.Core.List.{List, [], ◌∷◌}
use lib.Dec.{leb, eqb}
use lib.ListN.{length, get_or, set}
use borrow.Author.Tests.{leb-true, le-leb, eq-eqb}
use Rattle.model.specs.Valid.{all, valid, rights_fit, region_fits, page_fits, settings_fit}
use Rattle.model.specs.Geometry.{data_pages}
use Rattle.model.specs.State.{region_off, page_off}
use Rattle.model.specs.declared.Region.{Region}
use Rattle.model.specs.declared.Controller.{Controller}
use Rattle.model.proofs.Bool.{and_left, and_right, by_test}
use Rattle.model.proofs.Valid.{valid_parts}
use Rattle.registers.specs.Registers.{is_on, flag_of, mask_of, phase_number, encoded, decode, region_encoded, setting_encoded, stands_for, regions_of, info_of, region_at, setting_at, errors_at, progress_at, physical_at}
use Rattle.registers.specs.Registers.{operation_at, put_queue, put_errors, put_inputs, put_progress, put_region, put_setting, put_erase, put_all, put_from_physical, put_from_errors, put_from_programs, put_from_reads, put_from_progress}
use Rattle.registers.specs.Registers.{put_from_erase, put_from_info, put_from_regions, put_from_inputs, put, hand_back}
use Rattle.registers.proofs.Stored.{all_there, Long, At, long_set, there, over, listed_is, every_true, all_at, RegionAt, long_region, region_put, region_keeps, SettingAt, long_setting, there_sets}
use Rattle.registers.proofs.Stored.{setting_put, setting_keeps, EraseAt, long_erase, erase_put, erase_keeps, long_progress, long_queue, QueueAt, queue_put, queue_is, on_flag, flag_is_flag}
use Rattle.registers.proofs.Stored.{phase_of_number, number_is_phase, errors_is, byte, region_is, region_encoded_lem, setting_is, setting_encoded_lem, bytes, as_bytes, ProgressAt, long_all}
use Rattle.registers.proofs.Stored.{later_physical, later_errors, later_programs, later_progress, later_erase, later_info, later_regions, later_inputs, progress_is}

-- ---- all of it

-- Arrays have their lengths, and bytes are bytes: what the types of the code say.
pub record Shaped (c : Controller) : Type 0 where
  pub regions : length c.setup.settings.regions ≡ 8
  pub info : length c.setup.settings.info ≡ 26
  pub erase : length c.setup.settings.erase ≡ 2
  pub reads : length c.queues.reads.words ≡ 16
  pub programs : length c.queues.programs.words ≡ 16
  pub operation : as_bytes c.progress ≡ true
  pub lost : length c.physical.lost ≡ 2

module _ (s : List ℕ) (c : Controller) (long : Long s) (shape : Shaped c) (fits : valid c ≡ true) where
  abbrev s2 : List ℕ
  s2 = set (set s 0 c.setup.pages) 1 (phase_number c.phase)

  abbrev s5 : List ℕ
  s5 = set (put_inputs s2 c.setup.inputs) 4 c.setup.settings.default_rights

  abbrev s37 : List ℕ
  s37 = put_all put_region s5 0 c.setup.settings.regions

  abbrev s89 : List ℕ
  s89 = put_all put_setting s37 0 c.setup.settings.info

  abbrev s91 : List ℕ
  s91 = put_all put_erase s89 0 c.setup.settings.erase

  abbrev s99 : List ℕ
  s99 = put_progress s91 c.progress

  abbrev s116 : List ℕ
  s116 = put_queue s99 99 c.queues.reads

  abbrev s133 : List ℕ
  s133 = put_queue s116 116 c.queues.programs

  abbrev s135 : List ℕ
  s135 = put_errors s133 c.errors

  l2 : Long s2
  l2 = long_set _ _ (long_set _ _ long)

  l3 : Long (put_inputs s2 c.setup.inputs)
  l3 = long_set _ _ (long_set _ _ l2)

  l5 : Long s5
  l5 = long_set _ _ l3

  l37 : Long s37
  l37 = long_all put_region long_region s5 0 c.setup.settings.regions l5

  l89 : Long s89
  l89 = long_all put_setting long_setting s37 0 c.setup.settings.info l37

  l91 : Long s91
  l91 = long_all put_erase long_erase s89 0 c.setup.settings.erase l89

  l99 : Long s99
  l99 = long_progress s91 c.progress l91

  l116 : Long s116
  l116 = long_queue s99 99 c.queues.reads l99

  l133 : Long s133
  l133 = long_queue s116 116 c.queues.programs l116

  pages_there : At (put s c) 0 c.setup.pages
  unfolding put
  pages_there = later_inputs c s2 (omega arith) (over 1 _ (omega arith) (there 0 _ (omega arith) long))

  phase_there : At (put s c) 1 (phase_number c.phase)
  unfolding put
  phase_there = later_inputs c s2 (omega arith) (there 1 _ (omega arith) (long_set _ _ long))

  provision_there : At (put s c) 2 (flag_of c.setup.inputs.provision)
  unfolding put put_from_inputs
  provision_there = later_regions c s5 (omega arith) (over 4 _ (omega arith) (over 3 _ (omega arith) (there 2 _ (omega arith) l2)))

  locked_there : At (put s c) 3 (flag_of c.setup.inputs.locked)
  unfolding put put_from_inputs
  locked_there = later_regions c s5 (omega arith) (over 4 _ (omega arith) (there 3 _ (omega arith) (long_set _ _ l2)))

  rights_there : At (put s c) 4 c.setup.settings.default_rights
  unfolding put put_from_inputs
  rights_there = later_regions c s5 (omega arith) (there 4 _ (omega arith) l3)

  region_there : (k : ℕ) → k < 8 → RegionAt (put s c) k (get_or c.setup.settings.regions k region_off)
  unfolding put put_from_inputs put_from_regions
  region_there k b =
      let same : 0 + k ≡ k = omega arith in
      let q : RegionAt s37 k (get_or c.setup.settings.regions k region_off) =
      subst (λ (j : ℕ). RegionAt s37 j (get_or c.setup.settings.regions k region_off)) same
      (all_there put_region RegionAt 8 region_off region_put region_keeps long_region s5 0 c.setup.settings.regions (omega (arith, shape.regions)) l5 k (omega (arith, shape.regions))) in
      record {
        first = later_info c s37 (omega arith) q.first;
        count = later_info c s37 (omega arith) q.count;
        on = later_info c s37 (omega arith) q.on;
        rights = later_info c s37 (omega arith) q.rights;
      }

  setting_there : (k : ℕ) → k < 26 → SettingAt (put s c) k (get_or c.setup.settings.info k page_off)
  unfolding put put_from_inputs put_from_regions put_from_info
  setting_there k b =
      let same : 0 + k ≡ k = omega arith in
      let q : SettingAt s89 k (get_or c.setup.settings.info k page_off) =
      subst (λ (j : ℕ). SettingAt s89 j (get_or c.setup.settings.info k page_off)) same
      (all_there put_setting SettingAt 26 page_off setting_put setting_keeps long_setting s37 0 c.setup.settings.info (omega (arith, shape.info)) l37 k (omega (arith, shape.info))) in
      record { on = later_erase c s89 (omega arith) q.on; rights = later_erase c s89 (omega arith) q.rights }

  erase_there : (k : ℕ) → k < 2 → At (put s c) (89 + k) (flag_of (get_or c.setup.settings.erase k false))
  unfolding put put_from_inputs put_from_regions put_from_info put_from_erase
  erase_there k b =
      let same : 0 + k ≡ k = omega arith in
      let q : EraseAt s91 k (get_or c.setup.settings.erase k false) =
      subst (λ (j : ℕ). EraseAt s91 j (get_or c.setup.settings.erase k false)) same
      (all_there put_erase EraseAt 2 false erase_put erase_keeps long_erase s89 0 c.setup.settings.erase (omega (arith, shape.erase)) l89 k (omega (arith, shape.erase))) in
      later_progress c s91 (omega arith) q.on

  progress_there : ProgressAt (put s c) c.progress
  unfolding put put_from_inputs put_from_regions put_from_info put_from_erase put_from_progress
  progress_there = progress_is c s91 l91 c.progress (valid_parts c fits).running shape.operation

  reads_there : QueueAt (put s c) 99 c.queues.reads
  unfolding put put_from_inputs put_from_regions put_from_info put_from_erase put_from_progress put_from_reads
  reads_there =
      let q = queue_put s99 99 c.queues.reads (omega arith) shape.reads l99 in
      record { word = λ j b. later_programs c s116 (omega arith) (q.word j b); len = later_programs c s116 (omega arith) q.len }

  programs_there : QueueAt (put s c) 116 c.queues.programs
  unfolding put put_from_inputs put_from_regions put_from_info put_from_erase put_from_progress put_from_reads put_from_programs
  programs_there =
      let q = queue_put s116 116 c.queues.programs (omega arith) shape.programs l116 in
      record { word = λ j b. later_errors c s133 (omega arith) (q.word j b); len = later_errors c s133 (omega arith) q.len }

  mask_there : At (put s c) 133 (mask_of c.errors)
  unfolding put put_from_inputs put_from_regions put_from_info put_from_erase put_from_progress put_from_reads put_from_programs put_from_errors
  mask_there = later_physical c s135 (omega arith) (over 134 _ (omega arith) (there 133 _ (omega arith) l133))

  address_there : At (put s c) 134 c.errors.address.0
  unfolding put put_from_inputs put_from_regions put_from_info put_from_erase put_from_progress put_from_reads put_from_programs put_from_errors
  address_there = later_physical c s135 (omega arith) (there 134 _ (omega arith) (long_set _ _ l133))

  lost_there : physical_at (put s c) ≡ c.physical
  unfolding put put_from_inputs put_from_regions put_from_info put_from_erase put_from_progress put_from_reads put_from_programs put_from_errors put_from_physical
  lost_there =
      ap (λ (l : List ℕ). record { lost = l })
      (listed_is (λ k. get_or (put s c) (135 + k) 0) 2 0 c.physical.lost shape.lost
      (λ k b. (there_sets 135 c.physical.lost k (omega (arith, shape.lost)) (omega (arith, shape.lost)) (long_set _ _ (long_set _ _ l133))).is))

  -- ---- rights of a valid state

  default_fits : rights_fit c.setup.settings.default_rights ≡ true
  unfolding settings_fit
  default_fits = and_left (rights_fit c.setup.settings.default_rights) _ (valid_parts c fits).settings

  tables_fit : (all (region_fits c.setup.pages) c.setup.settings.regions && all page_fits c.setup.settings.info) ≡ true
  unfolding settings_fit
  tables_fit = and_right (rights_fit c.setup.settings.default_rights) _ (valid_parts c fits).settings

  region_fits_lem : (k : ℕ) → k < 8 → rights_fit (get_or c.setup.settings.regions k region_off).rights ≡ true
  region_fits_lem k b =
      let g : Region = get_or c.setup.settings.regions k region_off in
      let held = and_left (all (region_fits c.setup.pages) c.setup.settings.regions) _ tables_fit in
      and_right (leb (g.first.0 + g.count) (data_pages c.setup.pages)) _
      (all_at (region_fits c.setup.pages) c.setup.settings.regions k region_off held (omega (arith, shape.regions)))

  page_fits_lem : (k : ℕ) → k < 26 → page_fits (get_or c.setup.settings.info k page_off) ≡ true
  page_fits_lem k b = all_at page_fits c.setup.settings.info k page_off (and_right (all (region_fits c.setup.pages) c.setup.settings.regions) _ tables_fit) (omega (arith, shape.info))

  errors_there : errors_at (put s c) ≡ c.errors
  errors_there = errors_is (put s c) c.errors mask_there address_there

  pub put_encoded : encoded (put s c) ≡ true
  unfolding encoded
  put_encoded =
      let small : c.setup.settings.default_rights ≤ 7 = leb-true _ _ default_fits in
      let byte₄ : leb c.setup.settings.default_rights 255 ≡ true = le-leb c.setup.settings.default_rights 255 (omega arith) in
      let mask : eqb (mask_of (errors_at (put s c))) (get_or (put s c) 133 0) ≡ true = eq-eqb _ _ (ap mask_of errors_there ∙ sym mask_there.is) in
      rw (
        mask,
        progress_there.encodes,
        every_true (region_encoded (put s c)) 8 (λ k b. region_encoded_lem (region_fits_lem k b) (region_there k b)),
        every_true (setting_encoded (put s c)) 26 (λ k b. setting_encoded_lem (page_fits_lem k b) (setting_there k b)),
        phase_there.is,
        provision_there.is,
        locked_there.is,
        rights_there.is,
        (erase_there 0 (omega arith)).is,
        (erase_there 1 (omega arith)).is,
        number_is_phase c.phase,
        flag_is_flag c.setup.inputs.provision,
        flag_is_flag c.setup.inputs.locked,
        byte₄,
        flag_is_flag (get_or c.setup.settings.erase 0 false),
        flag_is_flag (get_or c.setup.settings.erase 1 false),
      )

  regions_there : regions_of (put s c) ≡ c.setup.settings.regions
  unfolding regions_of
  regions_there = listed_is (region_at (put s c)) 8 region_off c.setup.settings.regions shape.regions (λ k b. region_is (region_fits_lem k b) (region_there k b))

  info_there : info_of (put s c) ≡ c.setup.settings.info
  unfolding info_of
  info_there = listed_is (setting_at (put s c)) 26 page_off c.setup.settings.info shape.info (λ k b. setting_is (page_fits_lem k b) (setting_there k b))

  banks_there : (is_on (get_or (put s c) 89 0) ∷ is_on (get_or (put s c) 90 0) ∷ []) ≡ c.setup.settings.erase
  banks_there =
      listed_is (λ k. is_on (get_or (put s c) (89 + k) 0)) 2 false c.setup.settings.erase shape.erase
      (λ k b. ap is_on (erase_there k b).is ∙ on_flag (get_or c.setup.settings.erase k false))

  stands_put : stands_for (put s c) ≡ c
  unfolding stands_for
  stands_put =
      let small : c.setup.settings.default_rights ≤ 7 = leb-true _ _ default_fits in
      rw (
        regions_there,
        info_there,
        banks_there,
        errors_there,
        queue_is shape.reads reads_there,
        queue_is shape.programs programs_there,
        progress_there.reads,
        lost_there,
        pages_there.is,
        phase_there.is,
        provision_there.is,
        locked_there.is,
        rights_there.is,
        phase_of_number c.phase,
        on_flag c.setup.inputs.provision,
        on_flag c.setup.inputs.locked,
        byte c.setup.settings.default_rights (omega arith),
      )

  pub decode_put : decode (put s c) ≡ c
  unfolding decode
  decode_put = rw put_encoded stands_put

-- So what a call leaves stands for the controller that it leaves, if it changes a state only into a valid one.
pub handed_back : (s : List ℕ) (changed : Bool) (c : Controller) → Long s → (changed ≡ true → Shaped c) → (changed ≡ true → valid c ≡ true)
    → (changed ≡ false → decode s ≡ c) → decode (hand_back changed s c) ≡ c
handed_back s true c l shape fits same = decode_put s c l (shape refl) (fits refl)
handed_back s false c l shape fits same = same refl

-- Whatever the numbers are, what they stand for has the lengths and the bytes of its types.
low_byte : (x : ℕ) → leb (x % 256) 255 ≡ true
low_byte x = le-leb (x % 256) 255 (omega arith)

bytes_stand : (s : List ℕ) → as_bytes (progress_at s) ≡ true
unfolding progress_at
bytes_stand s =
    let both : bytes (operation_at s) ≡ true = rw (low_byte (get_or s 94 0)) (low_byte (get_or s 95 0)) in
    by_test (is_on (get_or s 98 0))
    (λ on.
    by_test (eqb (get_or s 93 0 % 256) 0) (λ read. rw (on, read) both)
    (λ other. by_test (eqb (get_or s 93 0 % 256) 1) (λ program. rw (on, other, program) both) (λ erase. rw (on, other, erase) both)))
    (λ off. rw off)

pub stands_shaped : (s : List ℕ) → Shaped (stands_for s)
unfolding stands_for regions_of info_of
stands_shaped s = record { regions = refl; info = refl; erase = refl; reads = refl; programs = refl; operation = bytes_stand s; lost = refl }
