-- One operation of a scan call on registers, for n steps: the words that it leaves, whether the power was cut, the steps left, and
-- registers that are free again where it was not. Assumes nothing.
use Prim.Native.Nat.{ℕ, ◌+◌, ◌-◌, ◌%◌, ◌<◌, ◌≤◌, min}
use native.Mathlib.Omega.{arith}
use mathlib.Core.Path.{◌≡◌, refl, sym, ap, subst, ◌∙◌}
use mathlib.Core.Bool.{true, false, and-false}
use mathlib.Core.List.{List}
use lib.Dec.{ltb}
use lib.ListN.{length, take}
use borrow.Author.Tests.{le-ltb}
use Rattle.model.specs.Kinds.{is_read, is_program}
use Rattle.model.specs.Places.{total_words}
use Rattle.model.specs.Queue.{empty_queue, queue_of}
use Rattle.model.specs.State.{Flash, flash_fits, with_programs}
use Rattle.model.specs.Refusals.{number_of, accepts}
use Rattle.model.specs.Checks.{operation_answer}
use Rattle.model.specs.Errors.{recorded, with_recorded}
use Rattle.model.specs.Steps.{starts, start}
use Rattle.model.specs.Valid.{valid_with}
use Rattle.model.specs.Whole.{WholeLeaves, whole_answer, short_buffer}
use Rattle.model.specs.declared.Operation.{Operation}
use Rattle.model.specs.declared.Setup.{Setup}
use Rattle.model.specs.declared.Controller.{Controller}
use Rattle.model.specs.declared.Outcome.{Outcome}
use Rattle.model.specs.Refusals.{accepted}
use Rattle.model.proofs.Answers.{ready_accepts}
use Rattle.model.proofs.Flashes.{same_fits}
use Rattle.model.proofs.Free.{Free, whole_free, whole_fits, free_start, free_again}
use Rattle.model.proofs.Valid.{valid_parts}
use Rattle.plans.specs.Plan.{programs_drained}
use Rattle.plans.proofs.Wholes.{whole_program, whole_erase}
use Rattle.registers.specs.Registers.{is_on, setup_of, stands_for, decode}
use Rattle.registers.proofs.Stored.{Long, on_flag}
use Rattle.validity.proofs.Taken.{taken_stands}
use Rattle.calls.specs.Calls.{start_in}
use Rattle.plans.specs.Limited.{driven}
use Rattle.driving.specs.Drives.{starts_by, moved_in, turns_in, driven_from_in, driven_in}
use Rattle.plans.proofs.LimitedProof.{driven_to_its_end}
use Rattle.scan_queue.specs.Cuts.{Step, run, erases, programs}
use Rattle.scan_queue.proofs.Words.{run_length}
use Rattle.scan_pages.specs.Pages.{page_word}
use Rattle.scan_pages.proofs.Accepted.{program_at, erase_at, Serves, program_accepted, erase_accepted}
use Rattle.scan_cuts.proofs.Cuts.{program_cut, erase_cut}
use Rattle.scans.specs.Jobs.{Job}
use Rattle.scan_promises.proofs.Refining.{drives_as}

-- Registers that encode a controller which is free, with this setup and this flash.
pub record Good (S : Setup) (s : List ℕ) (f : Flash) : Type 0 where
  pub long : Long s
  pub free : accepts (whole_answer (decode s) f) ≡ true
  pub setup : (decode s).setup ≡ S

-- Checks 1 to 4 accept a free state whose flash fits.
pub free_accepts : (c : Controller) (f : Flash) → Free c → flash_fits c.setup.pages f ≡ true → accepts (whole_answer c f) ≡ true
unfolding whole_answer valid_with
free_accepts c f h l = rw (h.fits, l, ready_accepts c.phase h.ready, h.idle, h.reads, h.programs) refl

-- What one operation does, with as many steps as ss has.
pub record RunsOn (S : Setup) (j : Job) (ss : List Step) (n : ℕ) (s : List ℕ) (f : Flash) : Type 0 where
  pub words : (driven_in n s f j.operation j.words).flash.words ≡ run (take (min n (length ss)) ss) f.words
  pub cut : is_on (driven_in n s f j.operation j.words).told.cut ≡ ltb n (length ss)
  pub left : (driven_in n s f j.operation j.words).told.left ≡ n - min n (length ss)
  pub again : length ss ≤ n → Good S (driven_in n s f j.operation j.words).registers (driven_in n s f j.operation j.words).flash

abbrev pub Runs : Setup → Job → List Step → Type 0
Runs S j ss = (n : ℕ) (s : List ℕ) (f : Flash) → Good S s f → RunsOn S j ss n s f

-- ---- an accepted operation

module _ (n : ℕ) (s : List ℕ) (f : Flash) (o : Operation) (b : List ℕ) (free : accepts (whole_answer (decode s) f) ≡ true)
    (room : short_buffer o b ≡ false) (ok : operation_answer (decode s).setup o ≡ accepted) where
  told_started : starts_by o (start_in s o).told.answer ≡ true
  unfolding start_in
  told_started =
      let e : (start (decode s) o).answer ≡ accepted = ap (λ (x : Outcome). x.answer) (free_start (decode s) o (whole_free (decode s) f free)) ∙ ok in
      rw e refl

  moved : driven_in n s f o b
      ≡ moved_in n (total_words (setup_of s).pages o) (start_in s o).told
      (turns_in o (min n (total_words (setup_of s).pages o)) (record { registers = (start_in s o).registers; flash = f; buffer = b; bits = 0 }))
  unfolding driven_in driven_from_in
  moved = rw (free, room, told_started) refl

  pub moved_cut : is_on (driven_in n s f o b).told.cut ≡ ltb n (total_words (setup_of s).pages o)
  moved_cut = rw moved (on_flag (ltb n (total_words (setup_of s).pages o)))

  pub moved_left : (driven_in n s f o b).told.left ≡ n - min n (total_words (setup_of s).pages o)
  moved_left = rw moved refl

  -- Driven to its end it records nothing.
  module _ (all : total_words (decode s).setup.pages o ≤ n) (other : is_read o ≡ false) where
    goes : starts o (operation_answer (decode s).setup o) ≡ true
    goes = rw ok refl

    unrecorded : with_recorded (decode s) (number_of (operation_answer (decode s).setup o)) o ≡ decode s
    unfolding recorded
    unrecorded = rw ok refl

    pub program_leaves : is_program o ≡ true → (driven n (decode s) f o b).result.controller ≡ programs_drained (decode s)
    program_leaves p =
        ap (λ (w : WholeLeaves). w.result.controller)
        (driven_to_its_end n (decode s) f o b all ∙ whole_program (decode s) f o b free room goes other p)
        ∙ ap programs_drained unrecorded

    pub erase_leaves : is_program o ≡ false → (driven n (decode s) f o b).result.controller ≡ decode s
    erase_leaves p =
        ap (λ (w : WholeLeaves). w.result.controller)
        (driven_to_its_end n (decode s) f o b all ∙ whole_erase (decode s) f o b free room goes other p)
        ∙ unrecorded

drained_free : (c : Controller) → Free c → Free (programs_drained c)
unfolding queue_of
drained_free c h = record {
  fits = free_again c c.errors (with_programs c.queues empty_queue) h (valid_parts c h.fits).errors (rw h.reads refl);
  ready = h.ready;
  idle = h.idle;
  reads = h.reads;
  programs = refl;
}

module _ (S : Setup) (p : ℕ) (h : Serves S p) where
  pages_are : (s : List ℕ) (f : Flash) → Good S s f → (setup_of s).pages ≡ S.pages
  unfolding stands_for
  pages_are s f g =
      let same : decode s ≡ stands_for s = taken_stands s (whole_free (decode s) f g.free).fits in
      ap (λ (c : Controller). c.setup.pages) (sym same) ∙ ap (λ (x : Setup). x.pages) g.setup

  serves_here : (s : List ℕ) (f : Flash) → Good S s f → Serves (decode s).setup p
  serves_here s f g = subst (λ (x : Setup). Serves x p) (sym g.setup) h

  -- ---- a program inside a window

  module _ (k : ℕ) (ws : List ℕ) (some : 1 ≤ length ws) (window : k % 16 + length ws ≤ 16) (inside : k < 256) where
    abbrev pub programmed_as : Job
    programmed_as = record { operation = program_at p k (length ws); words = ws }

    pub program_runs : (ss : List Step) → ss ≡ programs ws (page_word S.pages p + k) → length ss ≡ length ws → Runs S programmed_as ss
    unfolding total_words
    program_runs ss is size n s f g =
        let here = serves_here s f g in
        let ok : operation_answer (decode s).setup (program_at p k (length ws)) ≡ accepted = program_accepted (decode s).setup p here k (length ws) some window inside in
        let room : short_buffer (program_at p k (length ws)) ws ≡ false = rw (le-ltb (length ws) (length ws) (omega arith), and-false) refl in
        let led = drives_as n s f (program_at p k (length ws)) ws g.long (omega arith) in
        let d : (decode s).setup.pages ≡ S.pages = ap (λ (x : Setup). x.pages) g.setup in
        let words : (driven_in n s f (program_at p k (length ws)) ws).flash.words ≡ run (take (min n (length ss)) ss) f.words
        = ap (λ (x : Flash). x.words) led.flash ∙ program_cut (decode s) f g.free n p here k ws some window inside
        ∙ rw (d, ← is, ← size) refl in
        record {
          words = words;
          cut = moved_cut n s f (program_at p k (length ws)) ws g.free room ok ∙ rw size refl;
          left = moved_left n s f (program_at p k (length ws)) ws g.free room ok ∙ rw size refl;
          again = λ all.
              let left : decode (driven_in n s f (program_at p k (length ws)) ws).registers ≡ programs_drained (decode s)
              = led.controller ∙ program_leaves n s f (program_at p k (length ws)) ws g.free room ok (omega arith) refl refl in
              let fits : flash_fits (decode s).setup.pages (driven_in n s f (program_at p k (length ws)) ws).flash ≡ true
              = same_fits (decode s).setup.pages _ f (ap length words ∙ run_length (take (min n (length ss)) ss) f.words) ∙ whole_fits (decode s) f g.free in
              record {
                long = led.long;
                free = subst (λ (c : Controller). accepts (whole_answer c (driven_in n s f (program_at p k (length ws)) ws).flash) ≡ true) (sym left)
                    (free_accepts (programs_drained (decode s)) _ (drained_free (decode s) (whole_free (decode s) f g.free)) fits);
                setup = ap (λ (c : Controller). c.setup) left ∙ g.setup;
              };
        }

  -- ---- an erase

  abbrev pub erased_as : List ℕ → Job
  erased_as b = record { operation = erase_at p; words = b }

  pub erase_runs : (b : List ℕ) (ss : List Step) → ss ≡ erases 256 (page_word S.pages p) → length ss ≡ 256 → Runs S (erased_as b) ss
  unfolding total_words
  erase_runs b ss is size n s f g =
      let here = serves_here s f g in
      let ok : operation_answer (decode s).setup (erase_at p) ≡ accepted = erase_accepted (decode s).setup p here in
      let room : short_buffer (erase_at p) b ≡ false = rw and-false refl in
      let led = drives_as n s f (erase_at p) b g.long (omega arith) in
      let d : (decode s).setup.pages ≡ S.pages = ap (λ (x : Setup). x.pages) g.setup in
      let words : (driven_in n s f (erase_at p) b).flash.words ≡ run (take (min n (length ss)) ss) f.words
      = ap (λ (x : Flash). x.words) led.flash ∙ erase_cut (decode s) f g.free n p here b ∙ rw (d, ← is, size) refl in
      record {
        words = words;
        cut = moved_cut n s f (erase_at p) b g.free room ok ∙ rw size refl;
        left = moved_left n s f (erase_at p) b g.free room ok ∙ rw size refl;
        again = λ all.
            let left : decode (driven_in n s f (erase_at p) b).registers ≡ decode s
            = led.controller ∙ erase_leaves n s f (erase_at p) b g.free room ok (omega arith) refl refl in
            let fits : flash_fits (decode s).setup.pages (driven_in n s f (erase_at p) b).flash ≡ true
            = same_fits (decode s).setup.pages _ f (ap length words ∙ run_length (take (min n (length ss)) ss) f.words) ∙ whole_fits (decode s) f g.free in
            record {
              long = led.long;
              free = subst (λ (c : Controller). accepts (whole_answer c (driven_in n s f (erase_at p) b).flash) ≡ true) (sym left)
                  (free_accepts (decode s) _ (whole_free (decode s) f g.free) fits);
              setup = ap (λ (c : Controller). c.setup) left ∙ g.setup;
            };
      }
