-- A valid state, part by part. Assumes nothing.
use Rattle.std.specs.Prelude.{None, Some}
use Prim.Native.Nat.{ℕ, ◌≤◌}
use mathlib.Core.Path.{◌≡◌}
use mathlib.Core.Bool.{true, false, ◌||◌, true≢false}
use lib.ListN.{length}
use borrow.Author.Tests.{le-leb}
use Rattle.model.specs.Geometry.{pages_fit}
use Rattle.model.specs.State.{is_ready, is_busy}
use Rattle.model.specs.Queue.{is_empty}
use Rattle.model.specs.Refusals.{accepts, settle}
use Rattle.model.specs.Valid.{all, rights_fit, region_fits, page_fits, settings_fit, errors_fit, both_empty, progress_fits, physical_fits, running_fits, valid}
use Rattle.model.specs.declared.Phase.{Phase}
use Rattle.model.specs.declared.Settings.{Settings}
use Rattle.model.specs.declared.Errors.{Errors}
use Rattle.model.specs.declared.Queue.{Queue}
use Rattle.model.specs.declared.Queues.{Queues}
use Rattle.model.specs.State.{Progress}
use Rattle.model.specs.declared.Setup.{Setup}
use Rattle.model.specs.declared.Physical.{Physical}
use Rattle.model.specs.Refusals.{Answer}
use Rattle.model.specs.declared.Controller.{Controller}
use Rattle.model.proofs.Bool.{and_left, and_right, by_test}
use Rattle.model.proofs.Valid.{changed, valid_parts}
use Rattle.promises.specs.Calls.{Shaped}

-- Settings with the arrays' places and values in their bounds.
pub record ValidSettings (d : ℕ) (s : Settings) : Type 0 where
  pub region_places : length s.regions ≡ 8
  pub info_places : length s.info ≡ 26
  pub erase_places : length s.erase ≡ 2
  pub rights : rights_fit s.default_rights ≡ true
  pub regions : all (region_fits d) s.regions ≡ true
  pub info : all page_fits s.info ≡ true

-- A queue of 16 places that holds at most 16 words.
pub record ValidQueue (q : Queue) : Type 0 where
  pub places : length q.words ≡ 16
  pub holds : q.len ≤ 16

-- A lost count for each of the two banks, none over 5.
pub record ValidPhysical (p : Physical) : Type 0 where
  pub places : length p.lost ≡ 2
  pub fits : physical_fits p ≡ true

-- A state that is valid, its arrays as long as their types say. Closed: no word is queued unless it is ready.
pub record Valid (c : Controller) : Type 0 where
  pub pages : pages_fit c.setup.pages ≡ true
  pub settings : ValidSettings c.setup.pages c.setup.settings
  pub errors : errors_fit c.errors ≡ true
  pub reads : ValidQueue c.queues.reads
  pub programs : ValidQueue c.queues.programs
  pub closed : (is_ready c.phase || both_empty c.queues) ≡ true
  pub progress : progress_fits (is_ready c.phase) c.progress ≡ true
  pub physical : ValidPhysical c.physical
  pub running : running_fits c.setup c.queues.programs c.progress ≡ true

module _ (c : Controller) where
  -- A valid state has each part,
  pub parts : Shaped c → valid c ≡ true → Valid c
  unfolding settings_fit
  parts s h =
      let v = valid_parts c h in
      let lists = and_right (rights_fit c.setup.settings.default_rights) _ v.settings in
      record {
        pages = v.pages;
        settings = record {
          region_places = s.regions;
          info_places = s.info;
          erase_places = s.erase;
          rights = and_left (rights_fit c.setup.settings.default_rights) _ v.settings;
          regions = and_left (all (region_fits c.setup.pages) c.setup.settings.regions) _ lists;
          info = and_right (all (region_fits c.setup.pages) c.setup.settings.regions) _ lists;
        };
        errors = v.errors;
        reads = record { places = s.reads; holds = v.reads };
        programs = record { places = s.programs; holds = v.programs };
        closed = v.closed;
        progress = v.progress;
        physical = record { places = s.lost; fits = v.physical };
        running = v.running;
      }

  -- and a state with each part is valid.
  pub together : Valid c → Shaped c × (valid c ≡ true)
  unfolding valid settings_fit
  together v = (
    record {
      regions = v.settings.region_places;
      info = v.settings.info_places;
      erase = v.settings.erase_places;
      reads = v.reads.places;
      programs = v.programs.places;
      lost = v.physical.places;
    },
    rw (
      v.pages,
      v.settings.rights,
      v.settings.regions,
      v.settings.info,
      v.errors,
      le-leb c.queues.reads.len 16 v.reads.holds,
      le-leb c.queues.programs.len 16 v.programs.holds,
      v.closed,
      v.progress,
      v.physical.fits,
      v.running,
    ),
  )

-- A ready controller is valid again if its errors, its queues and what is in progress fit.
pub ready_keeps : (c : Controller) (ph : Phase) (e : Errors) (q : Queues) (p : Progress) → Valid c → is_ready ph ≡ true
    → errors_fit e ≡ true → ValidQueue q.reads → ValidQueue q.programs → running_fits c.setup q.programs p ≡ true
    → Valid (changed c ph e q p)
ready_keeps c ph e q p v r f qr qp w = record {
  pages = v.pages;
  settings = v.settings;
  errors = f;
  reads = qr;
  programs = qp;
  closed = rw r;
  progress = rw r;
  physical = v.physical;
  running = w;
}

-- What a call leaves is valid if the next state is, where it accepts.
pub settle_keeps : (c next : Controller) (a : Answer) → Valid c → (accepts a ≡ true → Valid next)
    → Valid (settle c next a).controller
settle_keeps c next a v f = by_test (accepts a) (λ e. rw e (f e)) (λ e. rw e v)

-- With nothing in progress the program queue is empty,
pub idle_empty : (s : Setup) (programs : Queue) (p : Progress) → is_busy p ≡ false → running_fits s programs p ≡ true
    → is_empty programs ≡ true
unfolding running_fits
idle_empty s programs None b h = h
idle_empty s programs (Some w) b h = absurd (true≢false b)

-- and nothing else is asked of it.
pub empty_idle : (s : Setup) (programs : Queue) (p : Progress) → is_busy p ≡ false → is_empty programs ≡ true
    → running_fits s programs p ≡ true
unfolding running_fits
empty_idle s programs None b h = h
empty_idle s programs (Some w) b h = absurd (true≢false b)
