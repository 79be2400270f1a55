-- Power on: 'after reset, initialising and the same settings'. Whatever lay in the registers, the same settings give the same setup,
-- and a scan call on a flash that fits comes past checks 1 to 4. (02, L11)
use Rattle.std.specs.Prelude.{ℕ, ◌≡◌, Bool, true, false, ◌&&◌, List, [], ◌∷◌, length}
use Rattle.model.specs.Geometry.{pages_fit}
use Rattle.model.specs.State.{Flash, flash_fits}
use Rattle.model.specs.Refusals.{accepts}
use Rattle.model.specs.Whole.{whole_answer}
use Rattle.promises.specs.Calls.{Call, Reset, SetInputs, SetRegion, SetDefault, SetInfo, SetErase, Initialise, Start, Step, Push, Pop, Whole, HostRead, ViewPage, Clear, Rma, Round}
use Rattle.registers.specs.Layout.{register_count}
use Rattle.registers.specs.Registers.{decode}
use Rattle.calls.specs.Calls.{set_inputs_in, set_region_in, set_default_in, set_info_in, set_erase_in, reset_in, initialise_in}

-- The inputs and the settings.
abbrev pub is_setting : Call → Bool
is_setting (Reset d) = false
is_setting (SetInputs i) = true
is_setting (SetRegion n g) = true
is_setting (SetDefault r) = true
is_setting (SetInfo bank t page p) = true
is_setting (SetErase bank on) = true
is_setting Initialise = false
is_setting (Start o) = false
is_setting Step = false
is_setting (Push w) = false
is_setting Pop = false
is_setting (Whole o b) = false
is_setting (HostRead a) = false
is_setting (ViewPage p) = false
is_setting Clear = false
is_setting Rma = false
is_setting (Round h b) = false

abbrev pub all_settings : List Call → Bool
all_settings [] = true
all_settings (k ∷ ks) = is_setting k && all_settings ks

-- What they do to registers. (Other calls are no part of a list of settings.)
abbrev pub setting_in : List ℕ → Call → List ℕ
setting_in s (Reset d) = s
setting_in s (SetInputs i) = (set_inputs_in s i).registers
setting_in s (SetRegion n g) = (set_region_in s n g).registers
setting_in s (SetDefault r) = (set_default_in s r).registers
setting_in s (SetInfo bank t page p) = (set_info_in s bank t page p).registers
setting_in s (SetErase bank on) = (set_erase_in s bank on).registers
setting_in s Initialise = s
setting_in s (Start o) = s
setting_in s Step = s
setting_in s (Push w) = s
setting_in s Pop = s
setting_in s (Whole o b) = s
setting_in s (HostRead a) = s
setting_in s (ViewPage p) = s
setting_in s Clear = s
setting_in s Rma = s
setting_in s (Round h b) = s

abbrev pub settings_in : List ℕ → List Call → List ℕ
settings_in s [] = s
settings_in s (k ∷ ks) = settings_in (setting_in s k) ks

-- Reset with D, the settings in order, and initialise.
unfoldable pub powered_on : ℕ → List Call → List ℕ → Flash → List ℕ
powered_on d ks s f = (initialise_in (settings_in (reset_in s d).registers ks) f).registers

-- Of any registers, with D 10 to 256 and any settings.
pub record RebootsOn (d : ℕ) (ks : List Call) (s : List ℕ) (f : Flash) : Type 0 where
  pub size : length (powered_on d ks s f) ≡ register_count
  pub pages : (decode (powered_on d ks s f)).setup.pages ≡ d
  -- The setup is that of these settings, whatever the registers and the flash hold.
  pub same : (t : List ℕ) (g : Flash) → length t ≡ register_count → (decode (powered_on d ks s f)).setup ≡ (decode (powered_on d ks t g)).setup
  -- On a flash that fits, checks 1 to 4 of a whole operation accept.
  pub free : flash_fits d f ≡ true → accepts (whole_answer (decode (powered_on d ks s f)) f) ≡ true

abbrev pub Reboots : Type 0
Reboots =
    (d : ℕ) (ks : List Call) (s : List ℕ) (f : Flash) → pages_fit d ≡ true → all_settings ks ≡ true → length s ≡ register_count
    → RebootsOn d ks s f
