-- The order of refusals; that of a push, 12 before 11, is in `Accepting`. Assumes nothing.
use Rattle.std.specs.Prelude.{Err}
use Rattle.std.specs.Prelude.{None, Some}
use Prim.Native.Nat.{ℕ, ◌≤◌}
use mathlib.Core.Path.{◌≡◌}
use mathlib.Core.Bool.{Bool, true, false, ◌||◌, not, and-false}
use mathlib.Core.List.{List}
use lib.Dec.{ltb, leb}
use lib.ListN.{length}
use borrow.Author.Tests.{leb-true}
use Rattle.model.specs.Geometry.{data_pages, page_of}
use Rattle.model.specs.Kinds.{uses_count}
use Rattle.model.specs.State.{Flash, flash_fits, is_busy}
use Rattle.model.specs.Rights.{denied, decider_of}
use Rattle.model.specs.Refusals.{accepts, check, ready_answer}
use Rattle.model.specs.Checks.{unaligned, malformed, past_data, out_of_range, crosses_window, operation_answer}
use Rattle.model.specs.Valid.{valid, valid_with, both_empty}
use Rattle.model.specs.Errors.{clear}
use Rattle.model.specs.Settings.{setting_answer, set_inputs, configured, set_region, set_default, set_info, set_erase}
use Rattle.model.specs.Lifecycle.{initialise_answer, initialise, rma_answer, rma}
use Rattle.model.specs.Steps.{start_answer, start, push, pop_answer, pop, step}
use Rattle.model.specs.Host.{unreadable, host_answer, host_read, view_answer, view}
use Rattle.model.specs.Whole.{whole_answer, drive, whole}
use Rattle.model.specs.Order.{FlashCallsRefuse, ReadyCallsRefuse, PhaseCallsRefuse, SettingsRefuse, RecordCallsRefuse}
use Rattle.model.specs.declared.Page.{Page}
use Rattle.model.specs.declared.ByteAddress.{ByteAddress}
use Rattle.model.specs.declared.Operation.{Operation}
use Rattle.model.specs.declared.Setup.{Setup}
use Rattle.model.specs.declared.Controller.{Controller}
use Rattle.model.specs.declared.Phase.TheVariants as phase
use Rattle.model.specs.declared.Work.{Work}
use Rattle.model.specs.Refusals.{Answer}
use Rattle.model.specs.Refusals.{accepted}
use Rattle.model.specs.declared.Refusal.TheVariants.{Invalid, Disabled, Busy, Malformed, ShortBuffer, OutOfRange, CrossesWindow, Denied, Unexpected, BadSetting}
use Rattle.model.proofs.Bool.{and_left, and_right}
use Rattle.model.proofs.Valid.{valid_parts}

-- ---- 1, 2 and 3 come first (`first_invalid` .. in `Answers`)

-- Whichever of them applies answers every call that needs a ready controller.
pub flash_calls : (c : Controller) (f : Flash) (a : Answer) → ready_answer (valid_with c f) c.phase ≡ a → accepts a ≡ false
    → FlashCallsRefuse c f a
unfolding step whole whole_answer host_answer host_read view_answer view
flash_calls c f a e n = record {
  steps = simp (e, n);
  wholes = λ o b. simp (e, n);
  host_reads = λ at. simp (e, n);
  views = λ p. simp (e, n);
}

pub ready_calls : (c : Controller) (a : Answer) → ready_answer (valid c) c.phase ≡ a → accepts a ≡ false → ReadyCallsRefuse c a
unfolding start start_answer push
ready_calls c a e n = record { starts = λ o. simp (e, n); pushes = λ w. simp (e, n) }

-- A state that is not valid fails check 1 of the calls that are lent the flash, and so does an image of another length.
pub not_valid : (c : Controller) (f : Flash) → valid c ≡ false → valid_with c f ≡ false
unfolding valid_with
not_valid c f h = rw h

pub wrong_image : (c : Controller) (f : Flash) → flash_fits c.setup.pages f ≡ false → valid_with c f ≡ false
unfolding valid_with
wrong_image c f h = rw h (and-false (valid c))

-- ---- the calls with other checks after 1

pub phase_invalid : (c : Controller) (f : Flash) → valid_with c f ≡ false → PhaseCallsRefuse c f (Err Invalid)
unfolding initialise initialise_answer rma rma_answer
phase_invalid c f h = record { initialises = rw h; rmas = rw h }

pub phase_disabled : (c : Controller) (f : Flash) → valid_with c f ≡ true → c.phase ≡ phase.Disabled → PhaseCallsRefuse c f (Err Disabled)
unfolding initialise initialise_answer rma rma_answer
phase_disabled c f h p = record { initialises = rw (h, p); rmas = rw (h, p) }

pub initialise_ready : (c : Controller) (f : Flash) → valid_with c f ≡ true → c.phase ≡ phase.Ready
    → (initialise c f).answer ≡ Err Unexpected
unfolding initialise initialise_answer
initialise_ready c f h p = rw (h, p)

pub settings_invalid : (c : Controller) → valid c ≡ false → SettingsRefuse c (Err Invalid)
unfolding set_inputs configured set_region set_default set_info set_erase
settings_invalid c h = record {
  inputs = λ i. rw h;
  regions = λ n g. rw h;
  defaults = λ r. rw h;
  pages = λ bank t page s. rw h;
  erases = λ bank on. rw h;
}

pub record_invalid : (c : Controller) → valid c ≡ false → RecordCallsRefuse c (Err Invalid)
unfolding pop pop_answer clear
record_invalid c h = record { pops = rw h; clears = rw h }

-- ---- 4: an operation in progress, before 5 and before 13

pub start_busy : (c : Controller) (o : Operation) (w : Work) → valid c ≡ true → c.phase ≡ phase.Ready → c.progress ≡ Some w
    → (start c o).answer ≡ Err Busy
unfolding start start_answer
start_busy c o w h p r = rw (h, p, r)

pub whole_busy : (c : Controller) (f : Flash) (o : Operation) (b : List ℕ) → valid_with c f ≡ true → c.phase ≡ phase.Ready
    → (is_busy c.progress || not (both_empty c.queues)) ≡ true
    → (whole c f o b).result.answer ≡ Err Busy
unfolding whole whole_answer
whole_busy c f o b h p q = rw (h, p, q)

pub rma_busy : (c : Controller) (f : Flash) (w : Work) → valid_with c f ≡ true → c.phase ≡ phase.Ready → c.progress ≡ Some w
    → (rma c f).result.answer ≡ Err Busy
unfolding rma rma_answer
rma_busy c f w h p r = rw (h, p, r)

-- Settings are allowed in every phase: with nothing in progress only 13 refuses one.
pub settings_any_phase : (c : Controller) (fits : Bool) → valid c ≡ true → c.progress ≡ None
    → setting_answer c fits ≡ check (not fits) (Err BadSetting)
settings_any_phase c true h e = simp (h, e)
settings_any_phase c false h e = simp (h, e)

-- With an operation in progress, 4 comes before 13.
pub settings_busy : (c : Controller) (w : Work) → valid c ≡ true → c.progress ≡ Some w → SettingsRefuse c (Err Busy)
unfolding set_inputs configured set_region set_default set_info set_erase
settings_busy c w h r = record {
  inputs = λ i. rw (h, r);
  regions = λ n g. rw (h, r);
  defaults = λ k. rw (h, r);
  pages = λ bank t page s. rw (h, r);
  erases = λ bank on. rw (h, r);
}

-- ---- 5, 7, 8 and 9, in this order; of a whole operation 6 between 5 and 7

module _ (s : Setup) (o : Operation) where
  pub malformed_first : malformed o ≡ true → operation_answer s o ≡ Err Malformed
  unfolding operation_answer
  malformed_first h = rw h

  pub range_second : malformed o ≡ false → out_of_range s.pages o ≡ true → operation_answer s o ≡ Err OutOfRange
  unfolding operation_answer
  range_second h r = rw (h, r)

  pub window_third : malformed o ≡ false → out_of_range s.pages o ≡ false → crosses_window o ≡ true
      → operation_answer s o ≡ Err CrossesWindow
  unfolding operation_answer
  window_third h r w = rw (h, r, w)

  pub denied_last : malformed o ≡ false → out_of_range s.pages o ≡ false → crosses_window o ≡ false → denied s o ≡ true
      → operation_answer s o ≡ Err (Denied (decider_of s o))
  unfolding operation_answer
  denied_last h r w d = rw (h, r, w, d)

  pub passes : malformed o ≡ false → out_of_range s.pages o ≡ false → crosses_window o ≡ false → denied s o ≡ false
      → operation_answer s o ≡ accepted
  unfolding operation_answer
  passes h r w d = rw (h, r, w, d)

module _ (c : Controller) (o : Operation) where
  -- A malformed operation is refused with 5, however short the buffer; a short buffer with 6, wherever the span lies.
  pub malformed_before_short : (f : Flash) (b : List ℕ) → accepts (whole_answer c f) ≡ true → accepts (start_answer c) ≡ true
      → malformed o ≡ true → (whole c f o b).result.answer ≡ Err Malformed
  unfolding whole start operation_answer drive
  malformed_before_short f b g s h = simp (g, s, h, and-false)

  pub short_before_range : (f : Flash) (b : List ℕ) → accepts (whole_answer c f) ≡ true → malformed o ≡ false → uses_count o ≡ true
      → ltb (length b) o.count ≡ true → (whole c f o b).result.answer ≡ Err ShortBuffer
  unfolding whole
  short_before_range f b g h u l = rw (g, h, u, l)

-- ---- what no check looks at

-- A host read and a view are allowed whatever is in progress.
pub host_any_progress : (c : Controller) (f : Flash) (a : ByteAddress) → valid_with c f ≡ true → c.phase ≡ phase.Ready
    → unaligned a ≡ false → past_data c.setup.pages a ≡ false → unreadable c.setup (page_of a) ≡ false → host_answer c f a ≡ accepted
unfolding host_answer
host_any_progress c f a h p u d g = rw (h, u, d, g, p)

pub view_any_progress : (c : Controller) (f : Flash) (p : Page) → valid_with c f ≡ true → c.phase ≡ phase.Ready
    → leb (data_pages c.setup.pages) p.0 ≡ false → unreadable c.setup p ≡ false → view_answer c f p ≡ accepted
unfolding view_answer
view_any_progress c f p h r d g = rw (h, d, g, r)

-- ---- a valid state has D 10 to 256

pub pages_bound : (c : Controller) → valid c ≡ true → (10 ≤ c.setup.pages) × (c.setup.pages ≤ 256)
pages_bound c h =
    let fit = (valid_parts c h).pages in
    (leb-true _ _ (and_left (leb 10 c.setup.pages) _ fit), leb-true _ _ (and_right (leb 10 c.setup.pages) _ fit))
