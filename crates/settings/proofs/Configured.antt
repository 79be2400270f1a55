-- What each setting leaves, by the tests that it makes. Assumes nothing.
use Rattle.std.specs.Prelude.{Err}
use Prim.Native.Nat.{ℕ, zero, suc, ◌<◌, ◌≤◌}
use native.Mathlib.Omega.{arith}
use mathlib.Core.Path.{◌≡◌, refl}
use mathlib.Core.Bool.{Bool, true, ◌&&◌}
use mathlib.Core.List.{List}
use lib.Dec.{ltb}
use lib.ListN.{get_or, set}
use Rattle.model.specs.Geometry.{info_count, info_index}
use Rattle.model.specs.State.{with_settings}
use Rattle.model.specs.Valid.{rights_fit, region_fits, page_fits}
use Rattle.model.specs.Settings.{setting_answer, configured, with_region, set_region, with_default, set_default, with_page, info_exists, set_info, with_erase, set_erase}
use Rattle.model.specs.declared.Region.{Region}
use Rattle.model.specs.declared.PageSetting.{PageSetting}
use Rattle.model.specs.Refusals.{Answer, refusal_number, accepted}
use Rattle.model.specs.declared.Refusal.{Refusal}
use Rattle.registers.specs.Layout.{pages_at, default_at}
use Rattle.registers.specs.Registers.{stands_for, decode, put_region, put_setting, put_erase}
use Rattle.calls.specs.Calls.{set_region_in, set_default_in, set_info_in, set_erase_in}
use Rattle.model.proofs.Bool.{and_left, and_right}
use Rattle.registers.proofs.Written.{put_region_lem, put_default, put_page, put_bank}
use Rattle.inputs.proofs.Configured.{Set, setting}
use borrow.Author.Tests.{ltb-true}

page_below : (bank t page : ℕ) → bank < 2 → t < 3 → page < info_count t → info_index bank t page < 26
page_below bank zero page b l h = omega arith
page_below bank (suc zero) page b l h = omega arith
page_below bank (suc (suc zero)) page b l h = omega arith
page_below bank (suc (suc (suc t))) page b l h = absurd (omega arith)

-- An information page that exists is one of the 26.
pub page_exists : (bank t page : ℕ) → info_exists bank t page ≡ true → info_index bank t page < 26
page_exists bank t page h =
    let known = and_right (ltb bank 2) _ h in
    page_below bank t page (ltb-true _ _ (and_left (ltb bank 2) _ h)) (ltb-true _ _ (and_left (ltb t 3) _ known)) (ltb-true _ _ (and_right (ltb t 3) _ known))

pub region_set : (s : List ℕ) (i : ℕ) (g : Region) (a : Answer) → a ≡ setting_answer (decode s) (ltb i 8 && region_fits (get_or s pages_at 0) g)
    → Set s (ltb i 8 && region_fits (get_or s pages_at 0) g) a (put_region s i g) (set_region_in s i g)
unfolding set_region_in set_region configured stands_for
region_set s i g a told =
    setting s (λ c. with_settings c (with_region c.setup.settings i g)) (λ c. ltb i 8 && region_fits c.setup.pages g) a told (put_region s i g)
    (λ f h. put_region_lem s h i g (ltb-true _ _ (and_left _ _ f)))

pub default_set : (s : List ℕ) (r : ℕ) (a : Answer) → a ≡ setting_answer (decode s) (rights_fit r) → Set s (rights_fit r) a (set s default_at r) (set_default_in s r)
unfolding set_default_in set_default configured
default_set s r a told =
    setting s (λ c. with_settings c (with_default c.setup.settings r)) (λ c. rights_fit r) a told (set s default_at r) (λ f h. put_default s h r)

pub info_set : (s : List ℕ) (bank t page : ℕ) (p : PageSetting) (a : Answer) → a ≡ setting_answer (decode s) (info_exists bank t page && page_fits p)
    → Set s (info_exists bank t page && page_fits p) a (put_setting s (info_index bank t page) p) (set_info_in s bank t page p)
unfolding set_info_in set_info configured
info_set s bank t page p a told =
    let i : ℕ = info_index bank t page in
    setting s (λ c. with_settings c (with_page c.setup.settings i p)) (λ c. info_exists bank t page && page_fits p) a told (put_setting s i p)
    (λ f h. put_page s h i p (page_exists bank t page (and_left _ _ f)))

pub erase_set : (s : List ℕ) (bank : ℕ) (on : Bool) (a : Answer) → a ≡ setting_answer (decode s) (ltb bank 2)
    → Set s (ltb bank 2) a (put_erase s bank on) (set_erase_in s bank on)
unfolding set_erase_in set_erase configured
erase_set s bank on a told =
    setting s (λ c. with_settings c (with_erase c.setup.settings bank on)) (λ c. ltb bank 2) a told (put_erase s bank on)
    (λ f h. put_bank s h bank on (ltb-true _ _ f))

-- ---- by the answer of the checks: a refusal leaves the registers, and what is accepted is written

module _ (s : List ℕ) (i : ℕ) (g : Region) (a : Answer) (told : a ≡ setting_answer (decode s) (ltb i 8 && region_fits (get_or s pages_at 0) g)) where
  pub region_refused : {e : Refusal} → a ≡ Err e → record { told = refusal_number e; registers = s } ≡ set_region_in s i g
  region_refused w = (region_set s i g a told).refused w

  pub region_exists : a ≡ accepted → i < 8
  region_exists w = ltb-true _ _ (and_left _ _ ((region_set s i g a told).passed w))

  pub region_kept : a ≡ accepted → record { told = 0; registers = put_region s i g } ≡ set_region_in s i g
  region_kept w = (region_set s i g a told).kept refl w

module _ (s : List ℕ) (r : ℕ) (a : Answer) (told : a ≡ setting_answer (decode s) (rights_fit r)) where
  pub default_refused : {e : Refusal} → a ≡ Err e → record { told = refusal_number e; registers = s } ≡ set_default_in s r
  default_refused w = (default_set s r a told).refused w

  pub default_kept : a ≡ accepted → record { told = 0; registers = set s default_at r } ≡ set_default_in s r
  default_kept w = (default_set s r a told).kept refl w

module _ (s : List ℕ) (bank t page : ℕ) (p : PageSetting) (a : Answer) (told : a ≡ setting_answer (decode s) (info_exists bank t page && page_fits p)) where
  pub info_refused : {e : Refusal} → a ≡ Err e → record { told = refusal_number e; registers = s } ≡ set_info_in s bank t page p
  info_refused w = (info_set s bank t page p a told).refused w

  pub info_below : a ≡ accepted → info_index bank t page < 26
  info_below w = page_exists bank t page (and_left _ _ ((info_set s bank t page p a told).passed w))

  pub info_kept : a ≡ accepted → record { told = 0; registers = put_setting s (info_index bank t page) p } ≡ set_info_in s bank t page p
  info_kept w = (info_set s bank t page p a told).kept refl w

module _ (s : List ℕ) (bank : ℕ) (on : Bool) (a : Answer) (told : a ≡ setting_answer (decode s) (ltb bank 2)) where
  pub erase_refused : {e : Refusal} → a ≡ Err e → record { told = refusal_number e; registers = s } ≡ set_erase_in s bank on
  erase_refused w = (erase_set s bank on a told).refused w

  pub bank_exists : a ≡ accepted → bank ≤ 1
  bank_exists w = omega (arith, ltb-true bank 2 ((erase_set s bank on a told).passed w))

  pub erase_kept : a ≡ accepted → record { told = 0; registers = put_erase s bank on } ≡ set_erase_in s bank on
  erase_kept w = (erase_set s bank on a told).kept refl w
