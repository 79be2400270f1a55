-- The registers, the state as the numbers that a caller lends: the controller that they stand for, and what putting a
-- controller into them writes. (house)
use Rattle.std.specs.Prelude.{None, Some}
use Rattle.std.specs.Prelude.{ℕ, zero, suc, ◌+◌, ◌*◌, ◌/◌, ◌%◌, Bool, ◌&&◌, ◌||◌, not, cond, List, [], ◌∷◌, leb, eqb, get_or, set}
use Rattle.std.proofs.lemmas.List.Edits.{sets}
use Rattle.model.specs.Kinds.{is_read, is_program}
use Rattle.model.specs.Valid.{all}
use Rattle.model.specs.State.{reset_controller}
use Rattle.registers.specs.Layout.{register_count, pages_at, phase_at, provision_at, locked_at, default_at, region_from, page_from, permission_at, address_at, count_at, kind_at, partition_at, type_at, moved_at, readable_at, running_at, reads_from, programs_from, recorded_at, last_at, lost_from}
use Rattle.model.specs.declared.Phase.{Phase}
use Rattle.model.specs.declared.Phase.TheVariants.{Uninitialised, Ready, Disabled}
use Rattle.model.specs.declared.Errors.{Errors}
use Rattle.model.specs.declared.Operation.{Operation}
use Rattle.model.specs.declared.Region.{Region}
use Rattle.model.specs.declared.PageSetting.{PageSetting}
use Rattle.model.specs.declared.Settings.{Settings}
use Rattle.model.specs.declared.Queue.{Queue}
use Rattle.model.specs.declared.Work.{Work}
use Rattle.model.specs.declared.Work.TheVariants.{Read, Program, Erase}
use Rattle.model.specs.State.{Progress}
use Rattle.model.specs.declared.Inputs.{Inputs}
use Rattle.model.specs.declared.Setup.{Setup}
use Rattle.model.specs.declared.Physical.{Physical}
use Rattle.model.specs.declared.Controller.{Controller}

-- A flag is 0 or 1; it is on unless it is 0.
abbrev pub is_flag : ℕ → Bool
is_flag x = leb x 1

abbrev pub is_on : ℕ → Bool
is_on x = not (eqb x 0)

abbrev pub flag_of : Bool → ℕ
flag_of b = cond b 1 0

-- ---- what each part stands for: the phase, the inputs and the settings

-- f i, f (i + 1) and so on: n of them.
abbrev pub listed : {A : Type 0} → (ℕ → A) → ℕ → ℕ → List A
listed f i zero = []
listed f i (suc n) = f i ∷ listed f (i + 1) n

-- A test that holds of 0 to n - 1.
abbrev pub every : (ℕ → Bool) → ℕ → Bool
every test n = all (λ b. b) (listed test 0 n)

abbrev pub phase_of : ℕ → Phase
phase_of n = cond (eqb n 1) Ready (cond (eqb n 2) Disabled Uninitialised)

abbrev pub inputs_at : List ℕ → Inputs
inputs_at s = record { provision = is_on (get_or s provision_at 0); locked = is_on (get_or s locked_at 0) }

abbrev pub region_at : List ℕ → ℕ → Region
region_at s i = record {
  on = is_on (get_or s (region_from i + 2) 0);
  first = record { 0 = get_or s (region_from i) 0 };
  count = get_or s (region_from i + 1) 0;
  rights = get_or s (region_from i + 3) 0 % 256;
}

abbrev pub setting_at : List ℕ → ℕ → PageSetting
setting_at s i = record { on = is_on (get_or s (page_from i) 0); rights = get_or s (page_from i + 1) 0 % 256 }

unfoldable pub regions_of : List ℕ → List Region
regions_of s = listed (region_at s) 0 8

unfoldable pub info_of : List ℕ → List PageSetting
info_of s = listed (setting_at s) 0 26

abbrev pub settings_of : List ℕ → Settings
settings_of s = record {
  regions = regions_of s;
  default_rights = get_or s default_at 0 % 256;
  info = info_of s;
  erase = is_on (get_or s (permission_at 0) 0) ∷ is_on (get_or s (permission_at 1) 0) ∷ [];
}

-- ---- the operation in progress: its kind tells the work

abbrev pub operation_at : List ℕ → Operation
operation_at s = record {
  kind = get_or s kind_at 0 % 256;
  partition = get_or s partition_at 0 % 256;
  info = get_or s type_at 0 % 256;
  address = record { 0 = get_or s address_at 0 };
  count = get_or s count_at 0;
}

abbrev pub work_at : List ℕ → Work
work_at s =
    cond (is_read (operation_at s)) (Read (operation_at s) (get_or s moved_at 0) (get_or s readable_at 0))
    (cond (is_program (operation_at s)) (Program (operation_at s) (get_or s moved_at 0))
    (Erase (operation_at s) (get_or s moved_at 0)))

unfoldable pub progress_at : List ℕ → Progress
progress_at s = cond (is_on (get_or s running_at 0)) (Some (work_at s)) None

-- ---- the queues

abbrev pub queue_at : List ℕ → ℕ → Queue
queue_at s at = record { words = listed (λ k. get_or s k 0) at 16; len = get_or s (at + 16) 0 }

-- ---- the error record

abbrev pub errors_at : List ℕ → Errors
errors_at s = record {
  malformed = eqb (get_or s recorded_at 0 / 32 % 2) 1;
  range = eqb (get_or s recorded_at 0 / 128 % 2) 1;
  window = eqb (get_or s recorded_at 0 / 256 % 2) 1;
  denied = eqb (get_or s recorded_at 0 / 512 % 2) 1;
  address = record { 0 = get_or s last_at 0 };
}

-- ---- the lost counts: any number is one

abbrev pub physical_at : List ℕ → Physical
physical_at s = record { lost = listed (λ k. get_or s k 0) lost_from 2 }

-- ---- the whole state

-- What the look-ups and the checks of an operation look at.
abbrev pub setup_of : List ℕ → Setup
setup_of s = record { pages = get_or s pages_at 0; inputs = inputs_at s; settings = settings_of s }

-- The controller that the registers stand for, if each of them stands for something.
unfoldable pub stands_for : List ℕ → Controller
stands_for s = record {
  setup = setup_of s;
  phase = phase_of (get_or s phase_at 0);
  errors = errors_at s;
  queues = record { reads = queue_at s reads_from; programs = queue_at s programs_from };
  progress = progress_at s;
  physical = physical_at s;
}

-- Each of them stands for something: a flag is 0 or 1, a byte at most 255, the phase at most 2, a running operation has one
-- of the four kinds, and the mask no bit but those of 5, 7, 8 and 9.
abbrev pub region_encoded : List ℕ → ℕ → Bool
region_encoded s i = is_flag (get_or s (region_from i + 2) 0) && leb (get_or s (region_from i + 3) 0) 255

abbrev pub setting_encoded : List ℕ → ℕ → Bool
setting_encoded s i = is_flag (get_or s (page_from i) 0) && leb (get_or s (page_from i + 1) 0) 255

abbrev pub progress_encoded : List ℕ → Bool
progress_encoded s =
    is_flag (get_or s running_at 0)
    && (not (is_on (get_or s running_at 0))
    || (leb (get_or s kind_at 0) 3 && (leb (get_or s partition_at 0) 255 && leb (get_or s type_at 0) 255)))

-- Bit k of the mask is recorded kind k.
abbrev pub mask_of : Errors → ℕ
mask_of e = 32 * flag_of e.malformed + (128 * flag_of e.range + (256 * flag_of e.window + 512 * flag_of e.denied))

abbrev pub plain_encoded : List ℕ → Bool
plain_encoded s =
    leb (get_or s phase_at 0) 2
    && (is_flag (get_or s provision_at 0)
    && (is_flag (get_or s locked_at 0)
    && (leb (get_or s default_at 0) 255
    && (is_flag (get_or s (permission_at 0) 0)
    && (is_flag (get_or s (permission_at 1) 0)
    && eqb (mask_of (errors_at s)) (get_or s recorded_at 0))))))

unfoldable pub encoded : List ℕ → Bool
encoded s = plain_encoded s && (progress_encoded s && (every (region_encoded s) 8 && every (setting_encoded s) 26))

-- The controller that the registers stand for. What encodes nothing stands for one that is not valid (01: not ours), with a D
-- of 0: every call answers 1, but reset, which takes any state.
unfoldable pub decode : List ℕ → Controller
decode s = cond (encoded s) (stands_for s) (reset_controller 0)

-- ---- what is written to put a part into the registers

abbrev pub put_queue : List ℕ → ℕ → Queue → List ℕ
put_queue s at q = set (sets s at q.words) (at + 16) q.len

-- An operation that has ended leaves zeros.
abbrev pub no_progress : List ℕ → List ℕ
no_progress s = set (set (set (set (set (set (set (set s address_at 0) count_at 0) kind_at 0) partition_at 0) type_at 0) moved_at 0) readable_at 0) running_at 0

abbrev pub phase_number : Phase → ℕ
phase_number Uninitialised = 0
phase_number Ready = 1
phase_number Disabled = 2

abbrev pub put_inputs : List ℕ → Inputs → List ℕ
put_inputs s i = set (set s provision_at (flag_of i.provision)) locked_at (flag_of i.locked)

abbrev pub put_region : List ℕ → ℕ → Region → List ℕ
put_region s i g =
    set (set (set (set s (region_from i) g.first.0) (region_from i + 1) g.count) (region_from i + 2) (flag_of g.on)) (region_from i + 3) g.rights

abbrev pub put_setting : List ℕ → ℕ → PageSetting → List ℕ
put_setting s i p = set (set s (page_from i) (flag_of p.on)) (page_from i + 1) p.rights

-- Elements put from place i on.
abbrev pub put_all : {A : Type 0} → (List ℕ → ℕ → A → List ℕ) → List ℕ → ℕ → List A → List ℕ
put_all one s i [] = s
put_all one s i (x ∷ xs) = put_all one (one s i x) (i + 1) xs

abbrev pub put_erase : List ℕ → ℕ → Bool → List ℕ
put_erase s i b = set s (permission_at i) (flag_of b)

abbrev pub put_running : List ℕ → Operation → ℕ → ℕ → List ℕ
put_running s o moved readable =
    set (set (set (set (set (set (set (set s address_at o.address.0) count_at o.count) kind_at o.kind) partition_at o.partition) type_at o.info)
    moved_at moved) readable_at readable) running_at 1

-- What no rule looks at (all of the progress while nothing is in progress, `readable` of a program or an erase) keeps what
-- it holds, and is 0 once an operation has started or ended.
abbrev pub readable_kept : List ℕ → ℕ
readable_kept s = cond (is_on (get_or s running_at 0)) (get_or s readable_at 0) 0

abbrev pub put_progress : List ℕ → Progress → List ℕ
put_progress s None = cond (is_on (get_or s running_at 0)) (no_progress s) s
put_progress s (Some (Read o moved readable)) = put_running s o moved readable
put_progress s (Some (Program o moved)) = put_running s o moved (readable_kept s)
put_progress s (Some (Erase o moved)) = put_running s o moved (readable_kept s)

abbrev pub put_errors : List ℕ → Errors → List ℕ
put_errors s e = set (set s recorded_at (mask_of e)) last_at e.address.0

abbrev pub put_physical : List ℕ → Physical → List ℕ
put_physical s p = sets s lost_from p.lost

-- ---- the registers with a controller put into them: its parts in the order of their places, each with all behind it

unfoldable pub put_from_physical : List ℕ → Controller → List ℕ
put_from_physical s c = put_physical s c.physical

unfoldable pub put_from_errors : List ℕ → Controller → List ℕ
put_from_errors s c = put_from_physical (put_errors s c.errors) c

unfoldable pub put_from_programs : List ℕ → Controller → List ℕ
put_from_programs s c = put_from_errors (put_queue s programs_from c.queues.programs) c

unfoldable pub put_from_reads : List ℕ → Controller → List ℕ
put_from_reads s c = put_from_programs (put_queue s reads_from c.queues.reads) c

unfoldable pub put_from_progress : List ℕ → Controller → List ℕ
put_from_progress s c = put_from_reads (put_progress s c.progress) c

unfoldable pub put_from_erase : List ℕ → Controller → List ℕ
put_from_erase s c = put_from_progress (put_all put_erase s 0 c.setup.settings.erase) c

unfoldable pub put_from_info : List ℕ → Controller → List ℕ
put_from_info s c = put_from_erase (put_all put_setting s 0 c.setup.settings.info) c

unfoldable pub put_from_regions : List ℕ → Controller → List ℕ
put_from_regions s c = put_from_info (put_all put_region s 0 c.setup.settings.regions) c

unfoldable pub put_from_inputs : List ℕ → Controller → List ℕ
put_from_inputs s c = put_from_regions (set (put_inputs s c.setup.inputs) default_at c.setup.settings.default_rights) c

unfoldable pub put : List ℕ → Controller → List ℕ
put s c = put_from_inputs (set (set s pages_at c.setup.pages) phase_at (phase_number c.phase)) c

-- What a call leaves: the very registers that it was lent, or these with the controller put into them.
abbrev pub hand_back : Bool → List ℕ → Controller → List ℕ
hand_back changed s c = cond changed (put s c) s

-- n registers from place i on, each 0.
unfoldable pub zeroed : List ℕ → ℕ → ℕ → List ℕ
zeroed s i zero = s
zeroed s i (suc n) = zeroed (set s i 0) (i + 1) n

-- What a reset leaves: every register is 0, but D.
unfoldable pub cleared : List ℕ → ℕ → List ℕ
cleared s d = set (zeroed s 0 register_count) pages_at d
