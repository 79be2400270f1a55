-- What a valid state says of the operation in progress: enough to move its next word. Assumes nothing.
use Rattle.std.specs.Prelude.{Some}
use Prim.Native.Nat.{◌≤◌, ◌<◌}
use mathlib.Core.Path.{◌≡◌, sym, ap, ◌∙◌}
use mathlib.Core.Bool.{true, false, ◌||◌, or-false}
use lib.ListN.{length}
use Rattle.model.specs.Geometry.{image_words}
use Rattle.model.specs.Places.{total_words, place_of}
use Rattle.model.specs.State.{Flash, flash_fits, is_ready, operation_of, moved_of}
use Rattle.model.specs.Refusals.{accepts, is_denied}
use Rattle.model.specs.Checks.{out_of_range, operation_answer}
use Rattle.model.specs.Valid.{running_fits, valid, valid_with}
use Rattle.model.specs.declared.Work.{Work}
use Rattle.model.specs.declared.Work.TheVariants.{Read, Program, Erase}
use Rattle.model.specs.declared.Setup.{Setup}
use Rattle.model.specs.declared.Controller.{Controller}
use Rattle.model.proofs.Bool.{and_left, and_right}
use Rattle.model.proofs.Places.{place_inside}
use Rattle.model.proofs.Answers.{asked_in_range}
use Rattle.model.proofs.Flashes.{fits_length}
use Rattle.model.proofs.Valid.{valid_parts}
use Rattle.model.proofs.Order.{pages_bound}
use Rattle.model.proofs.WorkParts.{asked_fits, WorkParts, work_parts}

-- Both lengths of a valid state are at most 16,
pub queue_bounds : (c : Controller) → valid c ≡ true → (c.queues.reads.len ≤ 16) × (c.queues.programs.len ≤ 16)
queue_bounds c h = let v = valid_parts c h in (v.reads, v.programs)

-- and what is in progress fits.
pub running_fits_lem : (c : Controller) → valid c ≡ true → running_fits c.setup c.queues.programs c.progress ≡ true
running_fits_lem c h = (valid_parts c h).running

-- Work that was asked for was accepted, or is a denied read.
asked : (s : Setup) (w : Work) → asked_fits s w ≡ true
    → (accepts (operation_answer s (operation_of w)) || is_denied (operation_answer s (operation_of w))) ≡ true
asked s (Read o k r) h = h
asked s (Program o k) h = rw h
asked s (Erase o k) h = rw h

-- The next word of the operation in progress has a place in the image.
pub record Moving (c : Controller) (w : Work) : Type 0 where
  pub pages : (10 ≤ c.setup.pages) × (c.setup.pages ≤ 256)
  pub ranged : out_of_range c.setup.pages (operation_of w) ≡ false
  pub left : moved_of w < total_words c.setup.pages (operation_of w)
  pub inside : (place_of c.setup.pages (operation_of w) (moved_of w)).0 < image_words c.setup.pages

-- Of a valid state with work in progress:
module _ (c : Controller) (w : Work) (h : valid c ≡ true) (e : c.progress ≡ Some w) where
  -- it is ready,
  pub busy_ready : is_ready c.phase ≡ true
  busy_ready = simp (e, or-false) at (valid_parts c h).progress

  -- the work has each part,
  pub busy_parts : WorkParts c.setup c.queues.programs w
  unfolding running_fits
  busy_parts = work_parts c.setup c.queues.programs w (sym (ap (running_fits c.setup c.queues.programs) e) ∙ running_fits_lem c h)

  -- and its next word has its place.
  pub moving : Moving c w
  moving =
      let d = pages_bound c h in
      let r = (asked_in_range c.setup (operation_of w) (asked c.setup w busy_parts.asked)).1 in
      record {
        pages = d;
        ranged = r;
        left = busy_parts.left;
        inside = place_inside c.setup.pages (operation_of w) d.0 r (moved_of w) busy_parts.left;
      }

-- Check 1 of a call that is lent the flash: the state is valid, and the flash fits.
pub with_valid : (c : Controller) (f : Flash) → valid_with c f ≡ true → valid c ≡ true
unfolding valid_with
with_valid c f h = and_left (valid c) _ h

pub with_fits : (c : Controller) (f : Flash) → valid_with c f ≡ true → flash_fits c.setup.pages f ≡ true
unfolding valid_with
with_fits c f h = and_right (valid c) _ h

-- So the image has its length.
pub with_length : (c : Controller) (f : Flash) → valid_with c f ≡ true → length f.words ≡ image_words c.setup.pages
with_length c f h = fits_length c.setup.pages f (with_fits c f h)
