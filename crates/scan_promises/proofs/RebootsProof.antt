-- Power on, on registers: as many registers, free on a flash that fits, and the setup of the settings whatever came before. Assumes
-- nothing.
use Prim.Native.Nat.{ℕ, zero, suc, ◌+◌}
use mathlib.Core.Path.{◌≡◌, refl, sym, ap, subst, ◌∙◌}
use mathlib.Core.Bool.{true, true≢false}
use mathlib.Core.List.{List, [], ◌∷◌}
use lib.ListN.{set}
use Rattle.model.specs.State.{Flash}
use Rattle.model.specs.Refusals.{accepts}
use Rattle.model.specs.Lifecycle.{reset, initialise_answer, initialise}
use Rattle.model.specs.Settings.{set_inputs, set_region, set_default, set_info, set_erase}
use Rattle.model.specs.Whole.{whole_answer}
use Rattle.model.specs.declared.Controller.{Controller}
use Rattle.model.specs.declared.Outcome.{Outcome}
use Rattle.model.proofs.Bool.{and_left, and_right, by_test}
use Rattle.promises.specs.Calls.{Call, State, Reset, SetInputs, SetRegion, SetDefault, SetInfo, SetErase, Initialise, Start, Step, Push, Pop, Whole, HostRead, ViewPage, Clear, Rma, Round, perform, run}
use Rattle.registers.specs.Layout.{register_count}
use Rattle.registers.specs.Registers.{decode, zeroed, cleared}
use Rattle.registers.proofs.Stored.{Long, long_set, cond_long}
use Rattle.calls.specs.Calls.{outcome_left, set_inputs_in, set_region_in, set_default_in, set_info_in, set_erase_in, reset_in, initialise_in}
use Rattle.refinement.proofs.RefinementProof.{refines}
use Rattle.scan_promises.specs.ScanIsCalls.{standing}
use Rattle.scan_promises.specs.Reboots.{is_setting, all_settings, setting_in, settings_in, powered_on, Reboots}
use Rattle.refinement.proofs.Lengths.{long_back}
use Rattle.scan_promises.proofs.Boots.{reboots, same_settings, boot_pages}

-- ---- the settings

-- The registers that calls leave stand for the state that the model's calls leave, and are as many.
record Follows (s : List ℕ) (f : Flash) (t : State) : Type 0 where
  same : standing s f ≡ t
  long : Long s

long_outcome : (s : List ℕ) (r : Outcome) → Long s → Long (outcome_left s r).registers
long_outcome s r l = long_back (accepts r.answer) s r.controller l

setting_follows : (s : List ℕ) (f : Flash) (k : Call) → Long s → is_setting k ≡ true → Follows (setting_in s k) f (perform (standing s f) k).state
unfolding perform set_inputs_in set_region_in set_default_in set_info_in set_erase_in
setting_follows s f (Reset d) l h = absurd (true≢false (sym h))
setting_follows s f (SetInputs i) l h = record { same = rw ((refines s l.size).inputs i); long = long_outcome s (set_inputs (decode s) i) l }
setting_follows s f (SetRegion n g) l h = record { same = rw ((refines s l.size).region n g); long = long_outcome s (set_region (decode s) n g) l }
setting_follows s f (SetDefault r) l h = record { same = rw ((refines s l.size).default r); long = long_outcome s (set_default (decode s) r) l }
setting_follows s f (SetInfo bank t page p) l h =
    record { same = rw ((refines s l.size).info bank t page p); long = long_outcome s (set_info (decode s) bank t page p) l }
setting_follows s f (SetErase bank on) l h = record { same = rw ((refines s l.size).erase bank on); long = long_outcome s (set_erase (decode s) bank on) l }
setting_follows s f Initialise l h = absurd (true≢false (sym h))
setting_follows s f (Start o) l h = absurd (true≢false (sym h))
setting_follows s f Step l h = absurd (true≢false (sym h))
setting_follows s f (Push w) l h = absurd (true≢false (sym h))
setting_follows s f Pop l h = absurd (true≢false (sym h))
setting_follows s f (Whole o b) l h = absurd (true≢false (sym h))
setting_follows s f (HostRead a) l h = absurd (true≢false (sym h))
setting_follows s f (ViewPage p) l h = absurd (true≢false (sym h))
setting_follows s f Clear l h = absurd (true≢false (sym h))
setting_follows s f Rma l h = absurd (true≢false (sym h))
setting_follows s f (Round x b) l h = absurd (true≢false (sym h))

settings_follow : (ks : List Call) (s : List ℕ) (f : Flash) → Long s → all_settings ks ≡ true → Follows (settings_in s ks) f (run (standing s f) ks)
settings_follow [] s f l h = record { same = refl; long = l }
settings_follow (k ∷ ks) s f l h =
    let one = setting_follows s f k l (and_left (is_setting k) _ h) in
    let rest = settings_follow ks (setting_in s k) f one.long (and_right (is_setting k) _ h) in
    record { same = rest.same ∙ ap (λ (t : State). run t ks) one.same; long = rest.long }

-- ---- reset

long_zeroed : (s : List ℕ) (i n : ℕ) → Long s → Long (zeroed s i n)
unfolding zeroed
long_zeroed s i zero l = l
long_zeroed s i (suc n) l = long_zeroed (set s i 0) (i + 1) n (long_set i 0 l)

long_reset : (s : List ℕ) (d : ℕ) → Long s → Long (reset_in s d).registers
unfolding reset_in cleared
long_reset s d l = cond_long (accepts (reset (decode s) d).answer) (long_set _ _ (long_zeroed s 0 register_count l)) l

reset_follows : (s : List ℕ) (d : ℕ) (f : Flash) → Long s → Follows (reset_in s d).registers f (perform (standing s f) (Reset d)).state
unfolding perform
reset_follows s d f l = record { same = rw ((refines s l.size).resets d); long = long_reset s d l }

-- ---- initialise

-- It leaves the setup, accepted or refused.
initialise_setup : (c : Controller) (f : Flash) → (initialise c f).controller.setup ≡ c.setup
unfolding initialise
initialise_setup c f = by_test (accepts (initialise_answer c f)) (λ e. rw e) (λ e. rw e)

-- ---- all three

module _ (d : ℕ) (ks : List Call) (all : all_settings ks ≡ true) where
  abbrev booted : List ℕ → Flash → Controller
  booted s f = (run (standing s f) (Reset d ∷ ks)).controller

  set_up : (s : List ℕ) (f : Flash) → Long s → Follows (settings_in (reset_in s d).registers ks) f (run (standing s f) (Reset d ∷ ks))
  set_up s f l =
      let begun = reset_follows s d f l in
      let rest = settings_follow ks (reset_in s d).registers f begun.long all in
      record { same = rest.same ∙ ap (λ (t : State). run t ks) begun.same; long = rest.long }

  powered : (s : List ℕ) (f : Flash) → Long s → decode (powered_on d ks s f) ≡ (initialise (booted s f) f).controller
  unfolding powered_on
  powered s f l =
      let before = set_up s f l in
      (refines (settings_in (reset_in s d).registers ks) before.long.size).initialises f
      ∙ ap (λ (t : State). (initialise t.controller f).controller) before.same

  long_powered : (s : List ℕ) (f : Flash) → Long s → Long (powered_on d ks s f)
  unfolding powered_on initialise_in
  long_powered s f l =
      let left = initialise (decode (settings_in (reset_in s d).registers ks)) f in
      long_back (accepts left.answer) _ left.controller (set_up s f l).long

  setup_powered : (s : List ℕ) (f : Flash) → Long s → (decode (powered_on d ks s f)).setup ≡ (booted s f).setup
  setup_powered s f l = ap (λ (c : Controller). c.setup) (powered s f l) ∙ initialise_setup (booted s f) f

pub reboots_hold : Reboots
reboots_hold d ks s f fit all size =
    let l : Long s = record { size = size } in
    record {
      size = (long_powered d ks all s f l).size;
      pages = ap (λ x. x.pages) (setup_powered d ks all s f l) ∙ boot_pages d ks (standing s f) fit all;
      same = λ t g other.
          setup_powered d ks all s f l ∙ ap (λ (c : Controller). c.setup) (same_settings d ks (standing s f) (standing t g) fit all)
          ∙ sym (setup_powered d ks all t g (record { size = other }));
      free = λ fits.
          subst (λ (c : Controller). accepts (whole_answer c f) ≡ true) (sym (powered d ks all s f l))
          (reboots d ks (standing s f) f fit all fits).0;
    }
