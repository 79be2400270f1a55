-- Reset, initialise, RMA and clear keep a valid state valid. Assumes nothing.
use Rattle.std.specs.Prelude.{Err}
use Prim.Native.Nat.{ℕ, ◌*◌}
use mathlib.Core.Path.{◌≡◌, refl}
use mathlib.Core.Bool.{true, not}
use lib.Dec.{leb-zero}
use native.Mathlib.Omega.{arith}
use borrow.Author.Tests.{not-false}
use Rattle.model.specs.Geometry.{pages_fit}
use Rattle.model.specs.Queue.{queue_of, empty_queue}
use Rattle.model.specs.State.{Flash, no_errors, reset_controller, with_errors, with_phase}
use Rattle.model.specs.Refusals.{check}
use Rattle.model.specs.Errors.{clear}
use Rattle.model.specs.Lifecycle.{reset, is_disabled, initialise_answer, initialise, rma_answer, rma_controller, rma}
use Rattle.model.specs.Valid.{valid_with, valid, physical_fits, running_fits}
use Rattle.model.specs.declared.Phase.TheVariants as phase
use Rattle.model.specs.declared.Controller.{Controller}
use Rattle.model.specs.declared.Refusal.TheVariants.{Invalid, Disabled, Busy}
use Rattle.model.proofs.Answers.{both_accept, check_passed}
use Rattle.promises.proofs.Fields.{Valid, ValidQueue, ready_keeps, settle_keeps, empty_idle}

-- An empty queue has 16 places and holds no words.
pub empty_queue_lem : ValidQueue empty_queue
unfolding queue_of
empty_queue_lem = record { places = refl; holds = omega arith }

-- A controller after reset is valid, for each D that fits.
pub reset_valid : (d : ℕ) → pages_fit d ≡ true → Valid (reset_controller d)
unfolding queue_of physical_fits running_fits
reset_valid d h = record {
  pages = h;
  settings = record {
    region_places = refl;
    info_places = refl;
    erase_places = refl;
    rights = refl;
    regions = rw (leb-zero (2 * d));
    info = refl;
  };
  errors = refl;
  reads = empty_queue_lem;
  programs = empty_queue_lem;
  closed = refl;
  progress = refl;
  physical = record { places = refl; fits = refl };
  running = refl;
}

module _ (c : Controller) (v : Valid c) where
  -- Reset keeps a valid state valid,
  pub reset_keeps : (d : ℕ) → Valid (reset c d).controller
  unfolding reset
  reset_keeps d = settle_keeps c (reset_controller d) (check (not (pages_fit d)) (Err Invalid)) v λ h.
      reset_valid d (not-false _ (check_passed (not (pages_fit d)) Invalid h))

  -- initialise too,
  pub initialise_keeps : (f : Flash) → Valid (initialise c f).controller
  unfolding initialise
  initialise_keeps f = settle_keeps c (with_phase c phase.Ready) (initialise_answer c f) v λ h.
      ready_keeps c phase.Ready c.errors c.queues c.progress v refl v.errors v.reads v.programs v.running

  -- RMA,
  pub rma_keeps : (f : Flash) → Valid (rma c f).result.controller
  unfolding rma rma_answer queue_of
  rma_keeps f = settle_keeps c (rma_controller c) (rma_answer c f) v λ h.
      let r = (both_accept (check (not (valid_with c f)) (Err Invalid)) _ h).1 in
      let b = (both_accept (check (is_disabled c.phase) (Err Disabled)) _ r).1 in
      let idle = check_passed _ Busy b in
      record {
        pages = v.pages;
        settings = v.settings;
        errors = v.errors;
        reads = empty_queue_lem;
        programs = empty_queue_lem;
        closed = refl;
        progress = rw idle;
        physical = v.physical;
        running = empty_idle c.setup (rma_controller c).queues.programs c.progress idle refl;
      }

  -- and clear.
  pub clear_keeps : Valid (clear c).controller
  unfolding clear
  clear_keeps = settle_keeps c (with_errors c no_errors) (check (not (valid c)) (Err Invalid)) v λ h. record {
    pages = v.pages;
    settings = v.settings;
    errors = refl;
    reads = v.reads;
    programs = v.programs;
    closed = v.closed;
    progress = v.progress;
    physical = v.physical;
    running = v.running;
  }
