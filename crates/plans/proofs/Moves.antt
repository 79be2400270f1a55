-- The queues of a read, of a program and of an erase, and the step that moves a word of each. Assumes nothing.
use Rattle.std.specs.Prelude.{Some}
use Prim.Native.Nat.{ℕ, ◌+◌, ◌<◌, ◌≤◌}
use native.Mathlib.Omega.{arith}
use mathlib.Core.Path.{◌≡◌, refl, sym, ◌∙◌}
use mathlib.Core.Bool.{true, false, true≢false}
use mathlib.Core.List.{List, [], ◌∷◌, ◌++◌}
use lib.Dec.{eqb}
use lib.ListN.{length}
use borrow.Author.Tests.{eqb-true, ne_eqb, le-leb, lt-leb}
use Rattle.model.specs.Words.{all_ones, programmed}
use Rattle.model.specs.Places.{total_words, place_of}
use Rattle.model.specs.Queue.{queue_of, is_empty, is_full, pushed, oldest, popped}
use Rattle.model.specs.State.{Flash, flash_fits, Leaves, stored, with_word, with_reads, with_programs}
use Rattle.model.specs.Refusals.{accepts}
use Rattle.model.specs.Steps.{read_word, counted_bits, movement, stalls, advance, step, push_answer, push}
use Rattle.model.specs.declared.Errors.{Errors}
use Rattle.model.specs.declared.Queue.{Queue}
use Rattle.model.specs.declared.Queues.{Queues}
use Rattle.model.specs.declared.Operation.{Operation}
use Rattle.model.specs.declared.Work.TheVariants.{Read, Program, Erase}
use Rattle.model.specs.declared.Controller.{Controller}
use Rattle.model.specs.declared.Stepped.{Stepped}
use Rattle.model.specs.declared.Movement.{Movement}
use Rattle.model.specs.Refusals.{accepted}
use Rattle.model.proofs.Bool.{by_test}
use Rattle.model.proofs.Places.{moving_words}
use Rattle.model.proofs.WorkParts.{work_parts}
use Rattle.model.proofs.Accepting.{push_passed}
use Rattle.plans.proofs.Holding.{Holds, holds_none, pushed_made}
use Rattle.plans.proofs.Running.{progress_at, state_at, Begun, Queued, steps_move, pushes}

-- A program moves as many words as it counts.
pub program_words : {c : Controller} {es : Errors} {o : Operation} → Begun c es (Program o 0) → total_words c.setup.pages o ≡ o.count
program_words {c = c} {o = o} b =
    let kind = eqb-true o.kind 1 (work_parts _ _ (Program o 0) b.work).kind in moving_words c.setup.pages o (omega arith)

-- ---- the queues

module _ {c : Controller} {es : Errors} {o : Operation} {k : ℕ} where
  -- Of a read, the read queue holds words;
  pub read_queued : {r : ℕ} {q : Queue} {ws : List ℕ} → Begun c es (Read o 0 r) → k ≤ total_words c.setup.pages o → Holds q ws → length ws ≤ 16
      → Queued c (Read o 0 r) k (with_reads c.queues q)
  read_queued b h s n = record {
    upto = h;
    reads = rw s.size n;
    programs = omega (arith, (holds_none c.queues.programs b.free.programs).size);
    queued = b.free.programs;
  }

  -- of a program, the program queue holds no more than are left to move;
  pub program_queued : {q : Queue} {ws : List ℕ} → Begun c es (Program o 0) → Holds q ws → length ws ≤ 16 → k + length ws ≤ o.count
      → Queued c (Program o 0) k (with_programs c.queues q)
  program_queued {q = q} b s n h =
      record {
        upto = omega (arith, program_words b);
        reads = omega (arith, (holds_none c.queues.reads b.free.reads).size);
        programs = rw s.size n;
        queued = le-leb (k + q.len) o.count (rw s.size h);
      }

  -- an erase leaves both as they were.
  pub erase_queued : Begun c es (Erase o 0) → k ≤ total_words c.setup.pages o → Queued c (Erase o 0) k c.queues
  erase_queued b h = record {
    upto = h;
    reads = omega (arith, (holds_none c.queues.reads b.free.reads).size);
    programs = omega (arith, (holds_none c.queues.programs b.free.programs).size);
    queued = b.free.programs;
  }

-- ---- the steps

-- What a step that moved a word leaves.
abbrev pub moved_to : Controller → Movement → ℕ → Flash → Leaves Stepped
moved_to c m bits f = record { result = record { controller = c; answer = accepted; movement = Some m; bits = bits }; flash = f }

-- One that stored a word at the place of word k.
abbrev pub stored_to : Controller → Controller → Operation → ℕ → ℕ → Flash → Leaves Stepped
stored_to c x o k new g =
    moved_to x (movement (total_words c.setup.pages o) k)
    (counted_bits c.setup (place_of c.setup.pages o k) (stored g (place_of c.setup.pages o k)) new)
    (with_word g (place_of c.setup.pages o k) new)

module _ {c : Controller} {es : Errors} {o : Operation} {k : ℕ} {q : Queues} (g : Flash) (l : flash_fits c.setup.pages g ≡ true)
    (more : k < total_words c.setup.pages o) where
  -- A read's step puts the next word into the read queue;
  pub read_moves : {r : ℕ} → Begun c es (Read o 0 r) → Queued c (Read o 0 r) k q → is_full q.reads ≡ false
      → step (state_at c es (Read o 0 r) k q) g
      ≡ moved_to (state_at c es (Read o 0 r) (k + 1) (with_reads q (pushed q.reads (read_word g r k (place_of c.setup.pages o k)))))
      (movement (total_words c.setup.pages o) k) 0 g
  unfolding state_at stalls advance
  read_moves b h s = steps_move b h g l more s

  -- a program's combines the oldest queued word with the stored one;
  pub program_moves : Begun c es (Program o 0) → Queued c (Program o 0) k q → is_empty q.programs ≡ false
      → step (state_at c es (Program o 0) k q) g
      ≡ stored_to c (state_at c es (Program o 0) (k + 1) (with_programs q (popped q.programs))) o k
      (programmed (stored g (place_of c.setup.pages o k)) (oldest q.programs)) g
  unfolding state_at stalls advance
  program_moves b h s = steps_move b h g l more s

  -- an erase's leaves ones.
  pub erase_moves : Begun c es (Erase o 0) → Queued c (Erase o 0) k q
      → step (state_at c es (Erase o 0) k q) g ≡ stored_to c (state_at c es (Erase o 0) (k + 1) q) o k all_ones g
  unfolding state_at stalls advance
  erase_moves b h = steps_move b h g l more refl

-- ---- the push of a program's word

module _ {c : Controller} {es : Errors} {o : Operation} (k : ℕ) {q : Queue} {ws : List ℕ} (b : Begun c es (Program o 0)) (s : Holds q ws) where
  -- It is queued if there is room, and words are left to push.
  pub program_pushes : length ws < 16 → k + length ws < o.count → (v : ℕ)
      → push (state_at c es (Program o 0) k (with_programs c.queues q)) v
      ≡ record { controller = state_at c es (Program o 0) k (with_programs c.queues (queue_of (ws ++ (v ∷ [])))); answer = accepted }
  unfolding state_at push_answer
  program_pushes n h v =
      let more : k < total_words c.setup.pages o = omega (arith, program_words b) in
      pushes b (program_queued b s (omega arith) (omega arith)) v
      (rw (
        ne_eqb k (total_words c.setup.pages o) (λ e. omega arith),
        lt-leb o.count (k + q.len) (omega (arith, s.size)),
        lt-leb 16 q.len (omega (arith, s.size)),
      ))
      ∙ rw (pushed_made s v)

-- Only then is it accepted.
pub push_room : (x : Controller) (o : Operation) (n k : ℕ) → accepts (push_answer x (progress_at (Program o 0) n k)) ≡ true
    → (k + x.queues.programs.len < o.count) × (x.queues.programs.len < 16)
unfolding push_answer
push_room x o n k h =
    by_test (eqb k n) (λ e. absurd (true≢false (sym (rw e at h)))) (λ e. push_passed x o k (rw e at h))
