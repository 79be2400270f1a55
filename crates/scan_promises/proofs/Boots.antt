-- An uninitialised controller that is otherwise free is free once it is initialised, with the same setup. Assumes nothing.
use Rattle.std.specs.Prelude.{None}
use Prim.Native.Nat.{ℕ}
use mathlib.Core.Path.{◌≡◌, refl, sym, ap, subst, ◌∙◌}
use mathlib.Core.Bool.{Bool, true, false, cond, true≢false}
use mathlib.Core.List.{List, [], ◌∷◌}
use Rattle.model.specs.Geometry.{pages_fit}
use Rattle.model.specs.Queue.{is_empty, queue_of}
use Rattle.model.specs.State.{Flash, flash_fits, with_phase, with_inputs, with_settings}
use Rattle.model.specs.Refusals.{accepts}
use Rattle.model.specs.Lifecycle.{reset, initialise_answer, initialise}
use Rattle.model.specs.Settings.{setting_answer, set_inputs, configured, set_region, set_default, set_info, set_erase}
use Rattle.model.specs.Valid.{valid, valid_with}
use Rattle.model.specs.Whole.{whole_answer}
use Rattle.model.specs.declared.Inputs.{Inputs}
use Rattle.model.specs.declared.Settings.{Settings}
use Rattle.model.specs.declared.Phase.TheVariants as phase
use Rattle.model.specs.declared.Controller.{Controller}
use Rattle.model.proofs.Bool.{and_left, and_right}
use Rattle.promises.specs.Calls.{Call, State, Shaped, Reset, SetInputs, SetRegion, SetDefault, SetInfo, SetErase, Initialise, Start, Step, Push, Pop, Whole, HostRead, ViewPage, Clear, Rma, Round, perform, run}
use Rattle.promises.proofs.Validity.{call_keeps, reset_is_valid}
use Rattle.scan_promises.specs.Reboots.{is_setting, all_settings}
use Rattle.scan_promises.proofs.Runs.{free_accepts}

pub record Waits (c : Controller) (g : Flash) : Type 0 where
  pub shape : Shaped c
  pub fits : valid c ≡ true
  pub phase : c.phase ≡ phase.Uninitialised
  pub idle : c.progress ≡ None
  pub reads : is_empty c.queues.reads ≡ true
  pub programs : is_empty c.queues.programs ≡ true
  pub flash : flash_fits c.setup.pages g ≡ true

module _ (c : Controller) (g : Flash) (h : Waits c g) where
  boots_is : (initialise c g).controller ≡ with_phase c phase.Ready
  unfolding initialise initialise_answer valid_with
  boots_is = rw (h.fits, h.flash, h.phase) refl

  still_valid : valid (with_phase c phase.Ready) ≡ true
  unfolding perform
  still_valid = subst (λ (x : Controller). valid x ≡ true) boots_is (call_keeps (record { controller = c; flash = g }) Initialise h.shape h.fits).1

  pub boots : (accepts (whole_answer (initialise c g).controller g) ≡ true) × ((initialise c g).controller.setup ≡ c.setup)
  boots = (
    subst (λ (x : Controller). accepts (whole_answer x g) ≡ true) (sym boots_is)
        (free_accepts (with_phase c phase.Ready) g
        (record { fits = still_valid; ready = refl; idle = h.idle; reads = h.reads; programs = h.programs }) h.flash),
    ap (λ (x : Controller). x.setup) boots_is,
  )

-- ---- reset and settings

-- Inputs and settings change neither phase nor progress nor queues nor D, nor the flash.
record Kept (c x : Controller) : Type 0 where
  phase : x.phase ≡ c.phase
  progress : x.progress ≡ c.progress
  queues : x.queues ≡ c.queues
  pages : x.setup.pages ≡ c.setup.pages

kept_either : (t : Bool) (c x : Controller) → Kept c x → Kept c (cond t x c)
kept_either true c x h = h
kept_either false c x h = record { phase = refl; progress = refl; queues = refl; pages = refl }

kept_inputs : (c : Controller) (i : Inputs) → Kept c (set_inputs c i).controller
unfolding set_inputs
kept_inputs c i =
    kept_either (accepts (setting_answer c true)) c (with_inputs c i) (record { phase = refl; progress = refl; queues = refl; pages = refl })

kept_configured : (c : Controller) (x : Settings) (fits : Bool) → Kept c (configured c x fits).controller
unfolding configured
kept_configured c x fits =
    kept_either (accepts (setting_answer c fits)) c (with_settings c x) (record { phase = refl; progress = refl; queues = refl; pages = refl })

kept_setting : (s : State) (k : Call) → is_setting k ≡ true → Kept s.controller (perform s k).state.controller × ((perform s k).state.flash ≡ s.flash)
unfolding perform set_region set_default set_info set_erase
kept_setting s (Reset d) h = absurd (true≢false (sym h))
kept_setting s (SetInputs i) h = (kept_inputs s.controller i, refl)
kept_setting s (SetRegion n g) h = (kept_configured s.controller _ _, refl)
kept_setting s (SetDefault r) h = (kept_configured s.controller _ _, refl)
kept_setting s (SetInfo bank t page p) h = (kept_configured s.controller _ _, refl)
kept_setting s (SetErase bank on) h = (kept_configured s.controller _ _, refl)
kept_setting s Initialise h = absurd (true≢false (sym h))
kept_setting s (Start o) h = absurd (true≢false (sym h))
kept_setting s Step h = absurd (true≢false (sym h))
kept_setting s (Push w) h = absurd (true≢false (sym h))
kept_setting s Pop h = absurd (true≢false (sym h))
kept_setting s (Whole o b) h = absurd (true≢false (sym h))
kept_setting s (HostRead a) h = absurd (true≢false (sym h))
kept_setting s (ViewPage p) h = absurd (true≢false (sym h))
kept_setting s Clear h = absurd (true≢false (sym h))
kept_setting s Rma h = absurd (true≢false (sym h))
kept_setting s (Round x b) h = absurd (true≢false (sym h))

settings_wait : (ks : List Call) (s : State) (g : Flash) → all_settings ks ≡ true → Waits s.controller g → Waits (run s ks).controller g
settings_wait [] s g h w = w
settings_wait (k ∷ ks) s g h w =
    let one = (kept_setting s k (and_left (is_setting k) _ h)).0 in
    let v = call_keeps s k w.shape w.fits in
    settings_wait ks (perform s k).state g (and_right (is_setting k) _ h)
    (record {
      shape = v.0;
      fits = v.1;
      phase = one.phase ∙ w.phase;
      idle = one.progress ∙ w.idle;
      reads = rw one.queues w.reads;
      programs = rw one.queues w.programs;
      flash = rw one.pages w.flash;
    })

fresh_waits : (d : ℕ) (s : State) (g : Flash) → pages_fit d ≡ true → flash_fits d g ≡ true → Waits (perform s (Reset d)).state.controller g
unfolding perform reset queue_of
fresh_waits d s g fit fits =
    let v = reset_is_valid s d fit in
    record {
      shape = v.0;
      fits = v.1;
      phase = rw fit refl;
      idle = rw fit refl;
      reads = rw fit refl;
      programs = rw fit refl;
      flash = rw fit fits;
    }

-- Reset with D 10 to 256, any settings and initialise, on a flash that fits: checks 1 to 4 of a whole operation accept, and the setup
-- is the settings'.
pub reboots : (d : ℕ) (ks : List Call) (s : State) (g : Flash) → pages_fit d ≡ true → all_settings ks ≡ true → flash_fits d g ≡ true
    → (accepts (whole_answer (initialise (run s (Reset d ∷ ks)).controller g).controller g) ≡ true)
    × ((initialise (run s (Reset d ∷ ks)).controller g).controller.setup ≡ (run s (Reset d ∷ ks)).controller.setup)
reboots d ks s g fit all fits =
    boots (run s (Reset d ∷ ks)).controller g (settings_wait ks (perform s (Reset d)).state g all (fresh_waits d s g fit fits))

-- ---- the same settings

alike_setting : (s t : State) (k : Call) → is_setting k ≡ true → s.controller ≡ t.controller
    → (perform s k).state.controller ≡ (perform t k).state.controller
unfolding perform
alike_setting s t (Reset d) h e = absurd (true≢false (sym h))
alike_setting s t (SetInputs i) h e = ap (λ (c : Controller). (set_inputs c i).controller) e
alike_setting s t (SetRegion n g) h e = ap (λ (c : Controller). (set_region c n g).controller) e
alike_setting s t (SetDefault r) h e = ap (λ (c : Controller). (set_default c r).controller) e
alike_setting s t (SetInfo bank u page p) h e = ap (λ (c : Controller). (set_info c bank u page p).controller) e
alike_setting s t (SetErase bank on) h e = ap (λ (c : Controller). (set_erase c bank on).controller) e
alike_setting s t Initialise h e = absurd (true≢false (sym h))
alike_setting s t (Start o) h e = absurd (true≢false (sym h))
alike_setting s t Step h e = absurd (true≢false (sym h))
alike_setting s t (Push w) h e = absurd (true≢false (sym h))
alike_setting s t Pop h e = absurd (true≢false (sym h))
alike_setting s t (Whole o b) h e = absurd (true≢false (sym h))
alike_setting s t (HostRead a) h e = absurd (true≢false (sym h))
alike_setting s t (ViewPage p) h e = absurd (true≢false (sym h))
alike_setting s t Clear h e = absurd (true≢false (sym h))
alike_setting s t Rma h e = absurd (true≢false (sym h))
alike_setting s t (Round x b) h e = absurd (true≢false (sym h))

alike_settings : (ks : List Call) (s t : State) → all_settings ks ≡ true → s.controller ≡ t.controller → (run s ks).controller ≡ (run t ks).controller
alike_settings [] s t h e = e
alike_settings (k ∷ ks) s t h e =
    alike_settings ks (perform s k).state (perform t k).state (and_right (is_setting k) _ h) (alike_setting s t k (and_left (is_setting k) _ h) e)

reset_alike : (d : ℕ) (s t : State) → pages_fit d ≡ true → (perform s (Reset d)).state.controller ≡ (perform t (Reset d)).state.controller
unfolding perform reset
reset_alike d s t fit = rw fit refl

-- Reset with the same D and the same settings leave the same controller, whatever state and flash they are given.
pub same_settings : (d : ℕ) (ks : List Call) (s t : State) → pages_fit d ≡ true → all_settings ks ≡ true
    → (run s (Reset d ∷ ks)).controller ≡ (run t (Reset d ∷ ks)).controller
same_settings d ks s t fit all = alike_settings ks (perform s (Reset d)).state (perform t (Reset d)).state all (reset_alike d s t fit)

-- D is the reset's.
settings_pages : (ks : List Call) (s : State) → all_settings ks ≡ true → (run s ks).controller.setup.pages ≡ s.controller.setup.pages
settings_pages [] s h = refl
settings_pages (k ∷ ks) s h =
    settings_pages ks (perform s k).state (and_right (is_setting k) _ h) ∙ (kept_setting s k (and_left (is_setting k) _ h)).0.pages

reset_pages : (d : ℕ) (s : State) → pages_fit d ≡ true → (perform s (Reset d)).state.controller.setup.pages ≡ d
unfolding perform reset
reset_pages d s fit = rw fit refl

pub boot_pages : (d : ℕ) (ks : List Call) (s : State) → pages_fit d ≡ true → all_settings ks ≡ true
    → (run s (Reset d ∷ ks)).controller.setup.pages ≡ d
boot_pages d ks s fit all = settings_pages ks (perform s (Reset d)).state all ∙ reset_pages d s fit
