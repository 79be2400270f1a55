-- Inputs and settings: checks 1, 4 and 13, allowed when disabled. (01, 'What may be asked' and 'When the desk says no')
use Rattle.std.specs.Prelude.{ℕ, Bool, true, ◌&&◌, not, ltb, set, Err}
use Rattle.model.specs.Geometry.{info_count, info_index}
use Rattle.model.specs.State.{is_busy, with_inputs, with_settings}
use Rattle.model.specs.Refusals.{check, or_else, settle}
use Rattle.model.specs.Valid.{valid, rights_fit, region_fits, page_fits}
use Rattle.model.specs.declared.Inputs.{Inputs}
use Rattle.model.specs.declared.Region.{Region}
use Rattle.model.specs.declared.PageSetting.{PageSetting}
use Rattle.model.specs.declared.Settings.{Settings}
use Rattle.model.specs.declared.Controller.{Controller}
use Rattle.model.specs.declared.Outcome.{Outcome}
use Rattle.model.specs.Refusals.{Answer}
use Rattle.model.specs.declared.Refusal.TheVariants.{Invalid, Busy, BadSetting}

-- Checks 1, 4 and 13, in this order; `fits` says that 13 does not apply.
abbrev pub setting_answer : Controller → Bool → Answer
setting_answer c fits =
    or_else (check (not (valid c)) (Err Invalid))
    (or_else (check (is_busy c.progress) (Err Busy))
    (check (not fits) (Err BadSetting)))

-- The life-cycle inputs: provision enable, and seeds locked. They are no setting.
unfoldable pub set_inputs : Controller → Inputs → Outcome
set_inputs c i = settle c (with_inputs c i) (setting_answer c true)

-- Every setting: accepted, these are the settings; refused, nothing changes.
unfoldable pub configured : Controller → Settings → Bool → Outcome
configured c s fits = settle c (with_settings c s) (setting_answer c fits)

-- A region, by its number 0 to 7.
abbrev pub with_region : Settings → ℕ → Region → Settings
with_region s i g = record {
  regions = set s.regions i g;
  default_rights = s.default_rights;
  info = s.info;
  erase = s.erase;
}

unfoldable pub set_region : Controller → ℕ → Region → Outcome
set_region c i g = configured c (with_region c.setup.settings i g) (ltb i 8 && region_fits c.setup.pages g)

-- The default rights.
abbrev pub with_default : Settings → ℕ → Settings
with_default s r = record { regions = s.regions; default_rights = r; info = s.info; erase = s.erase }

unfoldable pub set_default : Controller → ℕ → Outcome
set_default c r = configured c (with_default c.setup.settings r) (rights_fit r)

-- An information page, by its bank, its type and its number in the type.
abbrev pub with_page : Settings → ℕ → PageSetting → Settings
with_page s i p = record {
  regions = s.regions;
  default_rights = s.default_rights;
  info = set s.info i p;
  erase = s.erase;
}

abbrev pub info_exists : ℕ → ℕ → ℕ → Bool
info_exists bank t page = ltb bank 2 && (ltb t 3 && ltb page (info_count t))

unfoldable pub set_info : Controller → ℕ → ℕ → ℕ → PageSetting → Outcome
set_info c bank t page p =
    configured c (with_page c.setup.settings (info_index bank t page) p) (info_exists bank t page && page_fits p)

-- A bank's erase permission.
abbrev pub with_erase : Settings → ℕ → Bool → Settings
with_erase s bank on = record {
  regions = s.regions;
  default_rights = s.default_rights;
  info = s.info;
  erase = set s.erase bank on;
}

unfoldable pub set_erase : Controller → ℕ → Bool → Outcome
set_erase c bank on = configured c (with_erase c.setup.settings bank on) (ltb bank 2)
