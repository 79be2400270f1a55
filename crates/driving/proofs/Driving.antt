-- An operation by its calls, by the tests that the code makes. Assumes nothing.
use Rattle.std.specs.Prelude.{Err}
use Prim.Native.Nat.{ℕ, ◌-◌, ◌≤◌, ◌<◌, min}
use native.Mathlib.Omega.{arith}
use mathlib.Core.Path.{◌≡◌, refl, ap, subst}
use mathlib.Core.Bool.{true, false}
use mathlib.Core.Logic.{⊎_elim}
use mathlib.Core.List.{List}
use lib.Dec.{ltb}
use lib.ListN.{length}
use borrow.Author.Tests.{ltb-true, ltb-false}
use Rattle.model.specs.Places.{total_words}
use Rattle.model.specs.State.{Flash}
use Rattle.model.specs.Refusals.{accepts}
use Rattle.model.specs.Checks.{operation_answer}
use Rattle.model.specs.Steps.{start, starts}
use Rattle.model.proofs.Answers.{told_accepts}
use Rattle.model.specs.Whole.{whole_answer, short_buffer}
use Rattle.model.specs.declared.Operation.{Operation}
use Rattle.model.specs.declared.Controller.{Controller}
use Rattle.model.specs.declared.Outcome.{Outcome}
use Rattle.model.specs.Refusals.{Answer}
use Rattle.model.specs.declared.Refusal.TheVariants.{ShortBuffer}
use Rattle.model.proofs.Bool.{which}
use Rattle.model.proofs.Free.{whole_free, free_start}
use Rattle.plans.proofs.Wholes.{long}
use Rattle.registers.specs.Registers.{flag_of, setup_of, stands_for, decode}
use Rattle.validity.proofs.Taken.{taken_stands}
use Rattle.calls.specs.declared.ToldAnswer.{ToldAnswer}
use Rattle.calls.specs.Calls.{Left, start_in}
use Rattle.transfers.proofs.Inside.{few_words}
use Rattle.whole.proofs.Checked.{placed}
use Rattle.driving.specs.Drives.{Drive, turns_in, Room, starts_by, unmoved, driven_from_in, stays, driven_in}

module _ (steps : ℕ) (s : List ℕ) (f : Flash) (o : Operation) (b : List ℕ) where
  -- Refused by 1 to 4,
  pub drive_refused : (a : Answer) → a ≡ whole_answer (decode s) f → accepts a ≡ false → stays a steps s f b ≡ driven_in steps s f o b
  unfolding driven_in
  drive_refused a e h =
      let refused : accepts (whole_answer (decode s) f) ≡ false = rw e at h in
      rw (refused, e) refl

  module _ (free : accepts (whole_answer (decode s) f) ≡ true) where
    -- or by 6, it changes nothing.
    pub drive_short : short_buffer o b ≡ true → stays (Err ShortBuffer) steps s f b ≡ driven_in steps s f o b
    unfolding driven_in
    drive_short h = rw (free, h) refl

    module _ (room : short_buffer o b ≡ false) (l : Left ToldAnswer) (is : l ≡ start_in s o) where
      goes : driven_from_in steps (setup_of s).pages o l f b ≡ driven_in steps s f o b
      unfolding driven_in
      goes = rw (free, room, is) refl

      -- What does not start is recorded, or not.
      pub drive_stops : starts_by o l.told.answer ≡ false
          → record { told = unmoved l.told.answer l.told.decider steps; registers = l.registers; flash = f; buffer = b } ≡ driven_in steps s f o b
      unfolding driven_from_in
      drive_stops h = rw h at goes

      module _ (go : starts_by o l.told.answer ≡ true) (total : ℕ) (all : total ≡ total_words (setup_of s).pages o) where
        -- What starts makes its turns.
        pub drive_goes : (n : ℕ) → n ≡ min steps total → (r : Drive) → r ≡ turns_in o n (record { registers = l.registers; flash = f; buffer = b; bits = 0 })
            → record {
              told = record { answer = l.told.answer; decider = l.told.decider; bits = r.bits; left = steps - n; cut = flag_of (ltb steps total) };
              registers = r.registers;
              flash = r.flash;
              buffer = r.buffer;
            }
            ≡ driven_in steps s f o b
        unfolding driven_from_in
        drive_goes n e r t = rw (t, e, all) (rw go at goes)

        same : decode s ≡ stands_for s
        same = taken_stands s (whole_free (decode s) f free).fits

        started : starts o (operation_answer (decode s).setup o) ≡ true
        unfolding start_in
        started =
            let answer : l.told.answer ≡ (start_in s o).told.answer = ap (λ (x : Left ToldAnswer). x.told.answer) is in
            let begins : starts_by o (start_in s o).told.answer ≡ true = subst (λ (x : ℕ). starts_by o x ≡ true) answer go in
            let told : starts o (start (decode s) o).answer ≡ true = rw (told_accepts (start (decode s) o).answer) at begins in
            subst (λ (x : Outcome). starts o x.answer ≡ true) (free_start (decode s) o (whole_free (decode s) f free)) told

        pages_same : (decode s).setup.pages ≡ (setup_of s).pages
        unfolding stands_for
        pages_same = ap (λ (c : Controller). c.setup.pages) same

        -- Its words are few, and the buffer of one that uses it has room.
        pub few_total : total ≤ 131072
        few_total =
            ⊎_elim
            (λ (e : ltb 131072 total ≡ true).
            let h : 131072 < total = ltb-true 131072 total e in
            let k : 131072 < total_words (decode s).setup.pages o = rw (pages_same, ← all) h in
            absurd (let z = few_words (placed (decode s) f o free started) 131072 k in omega arith))
            (λ (e : ltb 131072 total ≡ false). ltb-false 131072 total e)
            (which (ltb 131072 total))

        pub has_room : (n : ℕ) → n ≤ total → Room o n b
        has_room n h = record {
          room = λ u.
              let k : total_words (decode s).setup.pages o ≤ length b = long (decode s) f o b free room started (ltb-true o.kind 2 u) in
              let j : total ≤ length b = rw (all, ← pages_same) k in
              omega arith;
        }
