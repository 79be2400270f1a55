-- What a whole operation that starts leaves, by its first words. Assumes nothing.
use Prim.Native.Nat.{ℕ, ◌<◌, ◌≤◌}
use native.Mathlib.Omega.{arith}
use mathlib.Core.Path.{◌≡◌, refl, ap, ◌∙◌}
use mathlib.Core.Bool.{true, false}
use mathlib.Core.List.{List, ◌++◌}
use lib.ListN.{length, drop}
use borrow.Author.Tests.{eqb-true, lt-ltb, ltb-false}
use Rattle.model.specs.Kinds.{is_read, is_program}
use Rattle.model.specs.Places.{total_words}
use Rattle.model.specs.State.{Flash, operation_of}
use Rattle.model.specs.Rights.{readable_words}
use Rattle.model.specs.Refusals.{accepts, number_of}
use Rattle.model.specs.Checks.{operation_answer}
use Rattle.model.specs.Steps.{starts, work_of, start}
use Rattle.model.specs.Valid.{errors_fit}
use Rattle.model.specs.Whole.{whole_answer, short_buffer, leaving, completed, turns, drive, whole}
use Rattle.model.specs.declared.Operation.{Operation}
use Rattle.model.specs.declared.Work.{Work}
use Rattle.model.specs.declared.Work.TheVariants.{Read, Program, Erase}
use Rattle.model.specs.declared.Controller.{Controller}
use Rattle.model.proofs.Places.{moving_words}
use Rattle.model.proofs.Order.{pages_bound}
use Rattle.model.proofs.Valid.{valid_parts}
use Rattle.model.proofs.WorkParts.{at_word}
use Rattle.model.proofs.Starting.{recorded_fits, starts_well, first_word, read_starts, program_starts, erase_starts}
use Rattle.model.proofs.Free.{whole_free, whole_fits, free_start}
use Rattle.model.specs.Errors.{with_recorded}
use Rattle.plans.specs.Plan.{programming, erasing, reads_drained, programs_drained}
use Rattle.plans.proofs.Holding.{drained_some}
use Rattle.plans.proofs.Running.{words_of, state_at, recorded_by, Begun, at_start, at_end}
use Rattle.plans.proofs.Firsts.{read_first, stored_first, changed_first}
use Rattle.plans.proofs.Turns.{run_at, reading, read_turns, programming_at, program_turns, erasing_at, erase_turns}

module _ (c : Controller) (f : Flash) (o : Operation) (b : List ℕ) (free : accepts (whole_answer c f) ≡ true)
    (room : short_buffer o b ≡ false) where
  -- ---- what starts, driven to its end

  module _ (s : starts o (operation_answer c.setup o) ≡ true) where
    -- It has words.
    pub some : 0 < total_words c.setup.pages o
    some =
        let v = whole_free c f free in
        first_word c o (pages_bound c v.fits).0 v.programs s

    -- It starts with no word moved,
    module _ (w : Work) (e : work_of c.setup o ≡ w) (p : operation_of w ≡ o) (a : at_word w 0 ≡ w) where
      pub begins : start c o ≡ record { controller = state_at c (recorded_by c o) w 0 c.queues; answer = operation_answer c.setup o }
      begins = let n : 0 < words_of c w = rw p some in at_start c o w (whole_free c f free) s e a n

      -- and makes its turns.
      driven : whole c f o b ≡ completed (operation_answer c.setup o) (turns o (total_words c.setup.pages o) (run_at (state_at c (recorded_by c o) w 0 c.queues) f b 0))
      unfolding whole drive
      driven = rw (free, room, begins, s)

    -- What it records fits,
    errors_fit_lem : errors_fit (recorded_by c o) ≡ true
    errors_fit_lem =
        recorded_fits (number_of (operation_answer c.setup o)) _ c.errors (valid_parts c (whole_free c f free).fits).errors

    -- and so does its work: a read's,
    pub read_begun : is_read o ≡ true → Begun c (recorded_by c o) (Read o 0 (readable_words c.setup o))
    read_begun r =
        let v = whole_free c f free in
        record { free = v; errors = errors_fit_lem; work = read_starts c o (pages_bound c v.fits).0 v.programs s r }

    -- a program's,
    pub program_begun : is_read o ≡ false → is_program o ≡ true → Begun c (recorded_by c o) (Program o 0)
    program_begun r p =
        let v = whole_free c f free in
        record { free = v; errors = errors_fit_lem; work = program_starts c o (pages_bound c v.fits).0 v.programs s r p }

    -- and an erase's.
    pub erase_begun : is_read o ≡ false → is_program o ≡ false → Begun c (recorded_by c o) (Erase o 0)
    erase_begun r p =
        let v = whole_free c f free in
        record { free = v; errors = errors_fit_lem; work = erase_starts c o (pages_bound c v.fits).0 v.programs s r p }

    -- The buffer of a read or a program is long enough.
    pub long : o.kind < 2 → total_words c.setup.pages o ≤ length b
    long k =
        rw (moving_words c.setup.pages o k) (ltb-false (length b) o.count (rw (starts_well c.setup o s, lt-ltb o.kind 2 k) at room))

    -- What a read leaves,
    pub whole_read : is_read o ≡ true
        → whole c f o b
        ≡ leaving (reads_drained (with_recorded c (number_of (operation_answer c.setup o)) o)) (operation_answer c.setup o) 0 f
        (read_first f c.setup.pages o (readable_words c.setup o) (total_words c.setup.pages o) ++ drop (total_words c.setup.pages o) b)
    unfolding reading
    whole_read r =
        let n = long (omega (arith, eqb-true o.kind 0 r)) in
        driven (Read o 0 (readable_words c.setup o)) (rw r) refl refl
        ∙ ap (completed (operation_answer c.setup o))
        (read_turns c (recorded_by c o) o f b (whole_fits c f free) (readable_words c.setup o) (read_begun r) r n (total_words c.setup.pages o) (omega arith))
        ∙ rw (drained_some (total_words c.setup.pages o) c.queues.reads some, at_end c (recorded_by c o) (Read o 0 (readable_words c.setup o)) _ (whole_free c f free))

    -- a program,
    pub whole_program : is_read o ≡ false → is_program o ≡ true
        → whole c f o b
        ≡ leaving (programs_drained (with_recorded c (number_of (operation_answer c.setup o)) o)) (operation_answer c.setup o)
        (changed_first c.setup o (programming b) (total_words c.setup.pages o) f) (stored_first c.setup.pages o (programming b) (total_words c.setup.pages o) f) b
    unfolding programming_at
    whole_program r p =
        driven (Program o 0) (rw (r, p)) refl refl
        ∙ ap (completed (operation_answer c.setup o))
        (program_turns c (recorded_by c o) o f b (whole_fits c f free) (program_begun r p) r p (total_words c.setup.pages o) (omega arith))
        ∙ rw (drained_some (total_words c.setup.pages o) c.queues.programs some, at_end c (recorded_by c o) (Program o 0) _ (whole_free c f free))

    -- and an erase.
    pub whole_erase : is_read o ≡ false → is_program o ≡ false
        → whole c f o b
        ≡ leaving (with_recorded c (number_of (operation_answer c.setup o)) o) (operation_answer c.setup o)
        (changed_first c.setup o erasing (total_words c.setup.pages o) f) (stored_first c.setup.pages o erasing (total_words c.setup.pages o) f) b
    unfolding erasing_at
    whole_erase r p =
        driven (Erase o 0) (rw (r, p)) refl refl
        ∙ ap (completed (operation_answer c.setup o))
        (erase_turns c (recorded_by c o) o f b (whole_fits c f free) (erase_begun r p) r p (total_words c.setup.pages o) (omega arith))
        ∙ rw (at_end c (recorded_by c o) (Erase o 0) c.queues (whole_free c f free))

  -- What does not start is recorded, and moves no word.
  pub whole_recorded : starts o (operation_answer c.setup o) ≡ false
      → whole c f o b ≡ leaving (with_recorded c (number_of (operation_answer c.setup o)) o) (operation_answer c.setup o) 0 f b
  unfolding whole drive
  whole_recorded s = rw (free, room, free_start c o (whole_free c f free), s)
