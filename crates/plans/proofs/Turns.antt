-- The calls of a whole operation, word by word: after k turns k words have moved and no word is queued. Assumes nothing.
use Prim.Native.Nat.{ℕ, zero, suc, ◌+◌, ◌<◌, ◌≤◌}
use native.Mathlib.Numerals.{add-one}
use native.Mathlib.Omega.{arith}
use mathlib.Core.Path.{◌≡◌, refl, ap, ◌∙◌}
use mathlib.Core.Bool.{true, false}
use mathlib.Core.List.{List, [], ◌∷◌, ◌++◌}
use lib.ListN.{length, get_or, drop, set}
use borrow.Author.Tests.{lt-leb}
use Rattle.model.specs.Words.{all_ones}
use Rattle.model.specs.Kinds.{is_read, is_program}
use Rattle.model.specs.Places.{total_words, place_of}
use Rattle.model.specs.State.{Flash, flash_fits, stored, with_word, with_reads, with_programs}
use Rattle.model.specs.Steps.{read_word, counted_bits}
use Rattle.model.specs.Whole.{Run, turn, turns}
use Rattle.model.specs.declared.Errors.{Errors}
use Rattle.model.specs.declared.Operation.{Operation}
use Rattle.model.specs.declared.Work.TheVariants.{Read, Program, Erase}
use Rattle.model.specs.declared.Controller.{Controller}
use Rattle.plans.specs.Plan.{programming, erasing}
use Rattle.plans.proofs.Holding.{holds_made, pushed_made, popped_made, oldest_first, drained, drained_holds}
use Rattle.plans.proofs.Running.{state_at, Begun, pops}
use Rattle.plans.proofs.Firsts.{read_first, read_next, stored_first, changed_first, first_fits}
use Rattle.plans.proofs.Moves.{program_words, read_queued, program_queued, erase_queued, program_pushes, read_moves, program_moves, erase_moves}

-- What the calls work on.
abbrev pub run_at : Controller → Flash → List ℕ → ℕ → Run
run_at c f b n = record { controller = c; flash = f; buffer = b; bits = n }

-- A read, a program and an erase after k turns.
unfoldable pub reading : Controller → Errors → Operation → Flash → ℕ → ℕ → List ℕ → Run
reading c es o f readable k b =
    run_at (state_at c es (Read o 0 readable) k (with_reads c.queues (drained k c.queues.reads))) f b 0

unfoldable pub programming_at : Controller → Errors → Operation → List ℕ → ℕ → Flash → ℕ → Run
programming_at c es o b k f bits =
    run_at (state_at c es (Program o 0) k (with_programs c.queues (drained k c.queues.programs))) f b bits

unfoldable pub erasing_at : Controller → Errors → Operation → List ℕ → ℕ → Flash → ℕ → Run
erasing_at c es o b k f bits = run_at (state_at c es (Erase o 0) k c.queues) f b bits

module _ (c : Controller) (es : Errors) (o : Operation) (f : Flash) (b : List ℕ) (l : flash_fits c.setup.pages f ≡ true) where
  -- ---- reads

  module _ (readable : ℕ) (begun : Begun c es (Read o 0 readable)) (kind : is_read o ≡ true) where
    -- A step and a pop put the next word into the buffer,
    read_turn : (k : ℕ) (rest : List ℕ) → k < total_words c.setup.pages o
        → turn o k (reading c es o f readable k rest) ≡ reading c es o f readable (suc k) (set rest k (read_word f readable k (place_of c.setup.pages o k)))
    unfolding turn reading drained
    read_turn k rest h =
        let v : ℕ = read_word f readable k (place_of c.setup.pages o k) in
        let none = drained_holds k c.queues.reads begun.free.reads in
        let one = holds_made (v ∷ []) in
        rw (
          kind,
          read_moves f l h begun (read_queued begun (omega arith) none (omega arith))
              (lt-leb 16 (drained k c.queues.reads).len (omega (arith, none.size))),
          pushed_made none v,
          add-one k,
          pops {k = suc k} begun (read_queued begun (omega arith) one (omega arith)) (rw one.size),
          popped_made one,
          oldest_first one,
        )

    -- so that after k turns the first k words are there.
    pub read_turns : total_words c.setup.pages o ≤ length b → (k : ℕ) → k ≤ total_words c.setup.pages o
        → turns o k (run_at (state_at c es (Read o 0 readable) 0 c.queues) f b 0)
        ≡ reading c es o f readable k (read_first f c.setup.pages o readable k ++ drop k b)
    unfolding turns reading drained read_first
    read_turns room zero h = refl
    read_turns room (suc k) h =
        ap (turn o k) (read_turns room k (omega arith))
        ∙ read_turn k (read_first f c.setup.pages o readable k ++ drop k b) h
        ∙ ap (reading c es o f readable (suc k)) (read_next f c.setup.pages o readable b k (omega arith))

  -- ---- programs

  module _ (begun : Begun c es (Program o 0)) (other : is_read o ≡ false) (kind : is_program o ≡ true) where
    -- A push and a step store the buffer's next word,
    program_turn : (k : ℕ) (g : Flash) (bits : ℕ) → flash_fits c.setup.pages g ≡ true → k < total_words c.setup.pages o
        → turn o k (programming_at c es o b k g bits)
        ≡ programming_at c es o b (suc k) (with_word g (place_of c.setup.pages o k) (programming b k (stored g (place_of c.setup.pages o k))))
        (bits + counted_bits c.setup (place_of c.setup.pages o k) (stored g (place_of c.setup.pages o k)) (programming b k (stored g (place_of c.setup.pages o k))))
    unfolding turn programming_at drained
    program_turn k g bits e h =
        let none = drained_holds k c.queues.programs begun.free.programs in
        let one = holds_made (get_or b k 0 ∷ []) in
        let n = program_words begun in
        rw (
          other,
          kind,
          program_pushes k begun none (omega arith) (omega arith) (get_or b k 0),
          program_moves g e h begun (program_queued begun one (omega arith) (omega arith)) (rw one.size),
          add-one k,
          popped_made one,
          oldest_first one,
        )

    -- so that after k turns the first k words are stored.
    pub program_turns : (k : ℕ) → k ≤ total_words c.setup.pages o
        → turns o k (run_at (state_at c es (Program o 0) 0 c.queues) f b 0)
        ≡ programming_at c es o b k (stored_first c.setup.pages o (programming b) k f) (changed_first c.setup o (programming b) k f)
    unfolding turns programming_at drained stored_first changed_first
    program_turns zero h = refl
    program_turns (suc k) h =
        ap (turn o k) (program_turns k (omega arith))
        ∙ program_turn k (stored_first c.setup.pages o (programming b) k f) (changed_first c.setup o (programming b) k f)
        (first_fits o (programming b) f c.setup.pages k ∙ l) h

  -- ---- erases

  module _ (begun : Begun c es (Erase o 0)) (other : is_read o ≡ false) (neither : is_program o ≡ false) where
    -- A step stores ones at the next place,
    erase_turn : (k : ℕ) (g : Flash) (bits : ℕ) → flash_fits c.setup.pages g ≡ true → k < total_words c.setup.pages o
        → turn o k (erasing_at c es o b k g bits)
        ≡ erasing_at c es o b (suc k) (with_word g (place_of c.setup.pages o k) all_ones)
        (bits + counted_bits c.setup (place_of c.setup.pages o k) (stored g (place_of c.setup.pages o k)) all_ones)
    unfolding turn erasing_at
    erase_turn k g bits e h =
        rw (other, neither, erase_moves g e h begun (erase_queued begun (omega arith)), add-one k)

    -- so that after k turns they are at the first k places.
    pub erase_turns : (k : ℕ) → k ≤ total_words c.setup.pages o
        → turns o k (run_at (state_at c es (Erase o 0) 0 c.queues) f b 0)
        ≡ erasing_at c es o b k (stored_first c.setup.pages o erasing k f) (changed_first c.setup o erasing k f)
    unfolding turns erasing_at stored_first changed_first
    erase_turns zero h = refl
    erase_turns (suc k) h =
        ap (turn o k) (erase_turns k (omega arith))
        ∙ erase_turn k (stored_first c.setup.pages o erasing k f) (changed_first c.setup o erasing k f)
        (first_fits o erasing f c.setup.pages k ∙ l) h
