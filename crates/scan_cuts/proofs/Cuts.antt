-- A program and an erase in a page that serves, driven for n steps: the words are those after the first n steps of the plan.
-- Assumes nothing.
use Prim.Native.Nat.{ℕ, ◌+◌, ◌%◌, ◌<◌, ◌≤◌, min}
use native.Mathlib.Omega.{arith}
use mathlib.Core.Path.{◌≡◌, refl, ap, ◌∙◌}
use mathlib.Core.Bool.{true, false, and-false}
use mathlib.Core.List.{List}
use lib.ListN.{length, take}
use borrow.Author.Tests.{le-ltb}
use Rattle.model.specs.Kinds.{is_read, is_program}
use Rattle.model.specs.Places.{total_words}
use Rattle.model.specs.State.{Flash}
use Rattle.model.specs.Refusals.{accepts}
use Rattle.model.specs.Checks.{operation_answer}
use Rattle.model.specs.Steps.{starts}
use Rattle.model.specs.Whole.{whole_answer, short_buffer}
use Rattle.model.specs.declared.Operation.{Operation}
use Rattle.model.specs.declared.Work.TheVariants.{Program, Erase}
use Rattle.model.specs.declared.Controller.{Controller}
use Rattle.model.specs.Refusals.{accepted}
use Rattle.model.proofs.Free.{whole_fits}
use Rattle.plans.specs.Plan.{programming, erasing}
use Rattle.plans.proofs.Firsts.{stored_first}
use Rattle.plans.proofs.Running.{recorded_by}
use Rattle.plans.proofs.Turns.{programming_at, program_turns, erasing_at, erase_turns}
use Rattle.plans.proofs.Wholes.{begins, program_begun, erase_begun}
use Rattle.plans.specs.Limited.{driven_from, driven}
use Rattle.scan_queue.specs.Cuts.{run, erases, programs}
use Rattle.scan_pages.specs.Pages.{page_word}
use Rattle.scan_pages.proofs.Accepted.{program_at, erase_at, Serves, program_accepted, erase_accepted}
use Rattle.scan_cuts.proofs.Words.{programmed_first, erased_first}

module _ (c : Controller) (f : Flash) (free : accepts (whole_answer c f) ≡ true) (n : ℕ) where
  -- ---- any program and any erase that starts

  module _ (o : Operation) (b : List ℕ) (room : short_buffer o b ≡ false) (s : starts o (operation_answer c.setup o) ≡ true) (other : is_read o ≡ false) where
    pub driven_program : is_program o ≡ true
        → (driven n c f o b).flash ≡ stored_first c.setup.pages o (programming b) (min n (total_words c.setup.pages o)) f
    unfolding driven driven_from programming_at
    driven_program p =
        let made = program_turns c (recorded_by c o) o f b (whole_fits c f free) (program_begun c f o b free room s other p) other p (min n (total_words c.setup.pages o)) (omega arith) in
        rw (free, room, begins c f o b free room s (Program o 0) (rw (other, p)) refl refl, s, made) refl

    pub driven_erase : is_program o ≡ false
        → (driven n c f o b).flash ≡ stored_first c.setup.pages o erasing (min n (total_words c.setup.pages o)) f
    unfolding driven driven_from erasing_at
    driven_erase p =
        let made = erase_turns c (recorded_by c o) o f b (whole_fits c f free) (erase_begun c f o b free room s other p) other p (min n (total_words c.setup.pages o)) (omega arith) in
        rw (free, room, begins c f o b free room s (Erase o 0) (rw (other, p)) refl refl, s, made) refl

  -- ---- in a page that serves

  module _ (p : ℕ) (h : Serves c.setup p) where
    module _ (k : ℕ) (ws : List ℕ) (some : 1 ≤ length ws) (window : k % 16 + length ws ≤ 16) (inside : k < 256) where
      no_short : short_buffer (program_at p k (length ws)) ws ≡ false
      no_short = rw (le-ltb (length ws) (length ws) (omega arith), and-false) refl

      pub program_cut : (driven n c f (program_at p k (length ws)) ws).flash.words
          ≡ run (take (min n (length ws)) (programs ws (page_word c.setup.pages p + k))) f.words
      unfolding total_words
      program_cut =
          let ok : operation_answer c.setup (program_at p k (length ws)) ≡ accepted = program_accepted c.setup p h k (length ws) some window inside in
          let goes : starts (program_at p k (length ws)) (operation_answer c.setup (program_at p k (length ws))) ≡ true = rw ok refl in
          ap (λ (g : Flash). g.words) (driven_program (program_at p k (length ws)) ws no_short goes refl refl)
          ∙ programmed_first c.setup.pages p k ws f (omega arith) (min n (length ws)) (omega arith)

    pub erase_cut : (b : List ℕ) → (driven n c f (erase_at p) b).flash.words
        ≡ run (take (min n 256) (erases 256 (page_word c.setup.pages p))) f.words
    unfolding total_words
    erase_cut b =
        let ok : operation_answer c.setup (erase_at p) ≡ accepted = erase_accepted c.setup p h in
        let goes : starts (erase_at p) (operation_answer c.setup (erase_at p)) ≡ true = rw ok refl in
        let room : short_buffer (erase_at p) b ≡ false = rw and-false refl in
        ap (λ (g : Flash). g.words) (driven_erase (erase_at p) b room goes refl refl)
        ∙ erased_first c.setup.pages p f (min n 256) (omega arith)
