-- Inputs and settings keep a valid state valid. Assumes nothing.
use Prim.Native.Nat.{ℕ, zero, suc}
use mathlib.Core.Path.{◌≡◌, refl}
use mathlib.Core.Bool.{Bool, true, ◌&&◌}
use mathlib.Core.List.{List, [], ◌∷◌}
use lib.Dec.{ltb}
use lib.ListN.{set, length-set}
use Rattle.model.specs.Geometry.{info_index}
use Rattle.model.specs.State.{with_inputs, with_settings}
use Rattle.model.specs.Refusals.{settle}
use Rattle.model.specs.Settings.{setting_answer, set_inputs, configured, with_region, set_region, with_default, set_default, with_page, info_exists, set_info, with_erase, set_erase}
use Rattle.model.specs.Valid.{all, region_fits, page_fits, rights_fit}
use Rattle.model.specs.declared.Inputs.{Inputs}
use Rattle.model.specs.declared.Region.{Region}
use Rattle.model.specs.declared.PageSetting.{PageSetting}
use Rattle.model.specs.declared.Settings.{Settings}
use Rattle.model.specs.declared.Controller.{Controller}
use Rattle.model.proofs.Bool.{and_left, and_right}
use Rattle.model.proofs.Accepting.{setting_passed}
use Rattle.promises.proofs.Fields.{Valid, ValidSettings, settle_keeps, idle_empty, empty_idle}

-- A test that holds of each element and of a new one holds of each after the new one is put in.
pub all_set : {A : Type 0} (test : A → Bool) (l : List A) (i : ℕ) (x : A) → all test l ≡ true → test x ≡ true
    → all test (set l i x) ≡ true
all_set test [] i x h e = refl
all_set test (y ∷ ys) zero x h e = rw (e, and_right (test y) _ h)
all_set test (y ∷ ys) (suc i) x h e = rw (and_left (test y) _ h, all_set test ys i x (and_right (test y) _ h) e)

-- A controller with other inputs and settings.
abbrev with_both : Controller → Inputs → Settings → Controller
with_both c i s = with_settings (with_inputs c i) s

module _ (c : Controller) (v : Valid c) where
  -- Inputs and settings that fit, checked by 1, 4 and 13, keep a valid state valid,
  both_keep : (i : Inputs) (s : Settings) (fits : Bool) → (fits ≡ true → ValidSettings c.setup.pages s)
      → Valid (settle c (with_both c i s) (setting_answer c fits)).controller
  both_keep i s fits f = settle_keeps c (with_both c i s) (setting_answer c fits) v λ h.
      let (idle, e) = setting_passed c fits h in
      record {
        pages = v.pages;
        settings = f e;
        errors = v.errors;
        reads = v.reads;
        programs = v.programs;
        closed = v.closed;
        progress = v.progress;
        physical = v.physical;
        running = empty_idle (with_both c i s).setup c.queues.programs c.progress idle (idle_empty c.setup _ c.progress idle v.running);
      }

  -- so inputs do,
  pub inputs_keep : (i : Inputs) → Valid (set_inputs c i).controller
  unfolding set_inputs
  inputs_keep i = both_keep i c.setup.settings true (λ e. v.settings)

  -- and every setting:
  configured_keeps : (s : Settings) (fits : Bool) → (fits ≡ true → ValidSettings c.setup.pages s) → Valid (configured c s fits).controller
  unfolding configured
  configured_keeps s fits f = both_keep c.setup.inputs s fits f

  -- a region,
  pub region_keeps : (i : ℕ) (g : Region) → Valid (set_region c i g).controller
  unfolding set_region
  region_keeps i g =
      configured_keeps (with_region c.setup.settings i g) (ltb i 8 && region_fits c.setup.pages g)
      λ e. record {
        region_places = rw length-set v.settings.region_places;
        info_places = v.settings.info_places;
        erase_places = v.settings.erase_places;
        rights = v.settings.rights;
        regions = all_set (region_fits c.setup.pages) c.setup.settings.regions i g v.settings.regions (and_right (ltb i 8) _ e);
        info = v.settings.info;
      }

  -- the default rights,
  pub default_keeps : (r : ℕ) → Valid (set_default c r).controller
  unfolding set_default
  default_keeps r = configured_keeps (with_default c.setup.settings r) (rights_fit r) λ e. record {
    region_places = v.settings.region_places;
    info_places = v.settings.info_places;
    erase_places = v.settings.erase_places;
    rights = e;
    regions = v.settings.regions;
    info = v.settings.info;
  }

  -- an information page,
  pub page_keeps : (bank t page : ℕ) (p : PageSetting) → Valid (set_info c bank t page p).controller
  unfolding set_info
  page_keeps bank t page p =
      configured_keeps (with_page c.setup.settings (info_index bank t page) p)
      (info_exists bank t page && page_fits p) λ e. record {
        region_places = v.settings.region_places;
        info_places = rw length-set v.settings.info_places;
        erase_places = v.settings.erase_places;
        rights = v.settings.rights;
        regions = v.settings.regions;
        info = all_set page_fits c.setup.settings.info (info_index bank t page) p v.settings.info
            (and_right (info_exists bank t page) _ e);
      }

  -- and a bank's erase permission.
  pub erase_keeps : (bank : ℕ) (on : Bool) → Valid (set_erase c bank on).controller
  unfolding set_erase
  erase_keeps bank on = configured_keeps (with_erase c.setup.settings bank on) (ltb bank 2) λ e. record {
    region_places = v.settings.region_places;
    info_places = v.settings.info_places;
    erase_places = rw length-set v.settings.erase_places;
    rights = v.settings.rights;
    regions = v.settings.regions;
    info = v.settings.info;
  }
