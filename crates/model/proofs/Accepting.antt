-- What start, push, pop and step leave, by what their checks say. Assumes nothing.
use Rattle.std.specs.Prelude.{Err}
use Rattle.std.specs.Prelude.{None, Some}
use Prim.Native.Nat.{ℕ, ◌+◌, ◌≤◌, ◌<◌}
use native.Mathlib.Omega.{arith}
use mathlib.Core.Path.{◌≡◌, refl, sym, ap, ◌∙◌}
use mathlib.Core.Bool.{Bool, true, false, not}
use mathlib.Core.Logic.{⊎_elim}
use mathlib.Core.List.{[], ◌∷◌}
use lib.Dec.{leb}
use lib.ListN.{length}
use borrow.Author.Tests.{eqb-false, leb-false, not-false}
use denote.Enum.Declared.{tag_of}
use types.Run.{OneOf}
use Rattle.model.specs.Geometry.{image_words}
use Rattle.model.specs.Kinds.{is_bank_erase}
use Rattle.model.specs.Queue.{is_empty, is_full, pushed}
use Rattle.model.specs.State.{Flash, with_queues, with_programs, is_busy, operation_of, moved_of}
use Rattle.model.specs.Refusals.{accepts, check, or_else, ready_answer, refused}
use Rattle.model.specs.Settings.{setting_answer}
use Rattle.model.specs.Valid.{valid, valid_with}
use Rattle.model.specs.Steps.{push_answer, push, pop_answer, stalls, advance, still, step_progress, step}
use Rattle.model.specs.declared.Operation.{Operation}
use Rattle.model.specs.declared.Work.{Work}
use Rattle.model.specs.declared.Work.TheVariants.{Read, Program, Erase}
use Rattle.model.specs.declared.Controller.{Controller}
use Rattle.model.specs.declared.Stepped.{Stepped}
use Rattle.model.specs.declared.Movement.TheVariants.{Stalled}
use Rattle.model.specs.declared.Phase.{Phase}
use Rattle.model.specs.Refusals.{Answer}
use Rattle.model.specs.Refusals.{accepted}
use Rattle.model.specs.declared.Refusal.TheVariants.{Invalid, QueueEmpty, QueueFull, Unexpected, Busy, BadSetting}
use Rattle.model.specs.contracts.Work.{the_type}
use Rattle.model.proofs.Bool.{which}
use Rattle.model.proofs.Places.{span_address_fits, bank_words_le}
use Rattle.model.proofs.Moving.{Moving, with_valid, with_length}
use Rattle.model.proofs.Order.{pages_bound}
use Rattle.model.proofs.Answers.{both_accept, check_passed}
use Rattle.model.proofs.StepLaws.{step_ready}

-- Checks 1, 2 and 3 accept a valid state only.
pub ready_valid : (v : Bool) (p : Phase) → accepts (ready_answer v p) ≡ true → v ≡ true
ready_valid v p h = not-false v (check_passed (not v) Invalid (both_accept (check (not v) (Err Invalid)) _ h).0)

-- ---- push

module _ (c : Controller) (w : ℕ) where
  -- Refused by checks 1, 2 and 3,
  pub push_unready : accepts (ready_answer (valid c) c.phase) ≡ false
      → refused c (ready_answer (valid c) c.phase) ≡ push c w
  unfolding push
  push_unready h = simp h

  -- or by 12 and 11,
  pub push_refused : (a : Answer) → accepts (ready_answer (valid c) c.phase) ≡ true → push_answer c c.progress ≡ a
      → accepts a ≡ false → refused c a ≡ push c w
  unfolding push
  push_refused a h e n = simp (h, e, n)

  -- or accepted.
  pub push_accepted : accepts (ready_answer (valid c) c.phase) ≡ true → push_answer c c.progress ≡ accepted
      → record { controller = with_queues c (with_programs c.queues (pushed c.queues.programs w)); answer = accepted } ≡ push c w
  unfolding push
  push_accepted h e = simp (h, e)

-- What is in progress is no program: tag 1 is the program's.
pub no_program : (c : Controller) (w : Work) → OneOf (0 ∷ 2 ∷ []) (tag_of the_type w) → push_answer c (Some w) ≡ Err Unexpected
unfolding push_answer
no_program c (Read o k r) h = refl
no_program c (Program o k) h = absurd (⊎_elim (λ e. omega arith) (λ e. omega arith) h)
no_program c (Erase o k) h = refl

pub nothing_running : (c : Controller) → c.progress ≡ None → push_answer c c.progress ≡ Err Unexpected
unfolding push_answer
nothing_running c e = ap (push_answer c) e

module _ (c : Controller) (o : Operation) (k : ℕ) where
  -- Of a program: 12 comes before 11,
  pub all_pushed : leb o.count (k + c.queues.programs.len) ≡ true → push_answer c (Some (Program o k)) ≡ Err Unexpected
  unfolding push_answer
  all_pushed h = rw h

  pub programs_full : leb o.count (k + c.queues.programs.len) ≡ false → is_full c.queues.programs ≡ true
      → push_answer c (Some (Program o k)) ≡ Err QueueFull
  unfolding push_answer
  programs_full h q = rw (h, q)

  pub programs_room : leb o.count (k + c.queues.programs.len) ≡ false → is_full c.queues.programs ≡ false
      → push_answer c (Some (Program o k)) ≡ accepted
  unfolding push_answer
  programs_room h q = rw (h, q)

  -- and an accepted push passes both.
  pub push_passed : accepts (push_answer c (Some (Program o k))) ≡ true
      → (k + c.queues.programs.len < o.count) × (c.queues.programs.len < 16)
  unfolding push_answer
  push_passed h =
      let (some, room) = both_accept (check (leb o.count (k + c.queues.programs.len)) (Err Unexpected)) _ h in (
        leb-false o.count (k + c.queues.programs.len) (check_passed _ Unexpected some),
        leb-false 16 c.queues.programs.len (check_passed _ QueueFull room),
      )

-- ---- pop

-- An accepted pop has a word to take.
pub pop_passed : (c : Controller) → accepts (pop_answer c) ≡ true → (valid c ≡ true) × (0 < c.queues.reads.len)
unfolding pop_answer
pop_passed c h =
    let both = both_accept (check (not (valid c)) (Err Invalid)) _ h in
    let some = eqb-false c.queues.reads.len 0 (check_passed (is_empty c.queues.reads) QueueEmpty both.1) in
    (not-false (valid c) (check_passed (not (valid c)) Invalid both.0), omega (arith, some))

-- ---- step

-- No operation has 131,072 words.
pub moved_small : (c : Controller) (w : Work) → Moving c w → moved_of w < 131072
moved_small c w m =
    ⊎_elim (λ b. omega (arith, bank_words_le c.setup.pages (operation_of w) m.pages.1 b, m.left))
    (λ b. omega (arith, span_address_fits c.setup.pages (operation_of w) (moved_of w) m.pages.0 m.pages.1 m.ranged b m.left))
    (which (is_bank_erase (operation_of w)))

module _ (c : Controller) (f : Flash) where
  pub step_idle : accepts (ready_answer (valid_with c f) c.phase) ≡ true → c.progress ≡ None → still c (Err Unexpected) None f ≡ step c f
  unfolding step_progress
  step_idle h e = sym (step_ready c f h e)

  pub step_stalled : (w : Work) → accepts (ready_answer (valid_with c f) c.phase) ≡ true → c.progress ≡ Some w
      → stalls c.queues w ≡ true → still c accepted (Some Stalled) f ≡ step c f
  unfolding step_progress
  step_stalled w h e s = sym (step_ready c f h e ∙ rw s)

  pub step_advances : (w : Work) → accepts (ready_answer (valid_with c f) c.phase) ≡ true → c.progress ≡ Some w
      → stalls c.queues w ≡ false → advance c f w ≡ step c f
  unfolding step_progress
  step_advances w h e s = sym (step_ready c f h e ∙ rw s)

-- A moving step of a read leaves the flash alone.
pub read_leaves : (c : Controller) (f : Flash) (o : Operation) (k readable : ℕ) {w : Work} {r : Stepped} → w ≡ Read o k readable
    → r ≡ (advance c f (Read o k readable)).result → record { result = r; flash = f } ≡ advance c f w
unfolding advance
read_leaves c f o k readable e h = rw (h, e)

-- ---- calls that are lent the flash and check 1 first

-- Where check 1 accepts, D is at most 256 and the image has its length.
pub lent_fits : (c : Controller) (f : Flash) (rest : Answer) → accepts (or_else (check (not (valid_with c f)) (Err Invalid)) rest) ≡ true
    → (c.setup.pages ≤ 256) × (length f.words ≡ image_words c.setup.pages)
lent_fits c f rest h =
    let fits : valid_with c f ≡ true =
    not-false _ (check_passed _ Invalid (both_accept (check (not (valid_with c f)) (Err Invalid)) rest h).0) in
    ((pages_bound c (with_valid c f fits)).1, with_length c f fits)

-- ---- settings

-- Checks 1, 4 and 13 pass: nothing is in progress, and the setting fits.
pub setting_passed : (c : Controller) (fits : Bool) → accepts (setting_answer c fits) ≡ true
    → (is_busy c.progress ≡ false) × (fits ≡ true)
setting_passed c fits h =
    let r = (both_accept (check (not (valid c)) (Err Invalid)) _ h).1 in
    let (b, g) = both_accept (check (is_busy c.progress) (Err Busy)) _ r in
    (check_passed _ Busy b, not-false fits (check_passed _ BadSetting g))
