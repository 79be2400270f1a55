-- An operation driven on registers leaves what it leaves of the controller that they stand for. Assumes nothing.
use Prim.Native.Nat.{ℕ, zero, suc, ◌≤◌, min}
use mathlib.Core.Path.{◌≡◌, refl, sym, ap, ◌∙◌}
use mathlib.Core.Bool.{true, false}
use mathlib.Core.Logic.{⊎_elim}
use mathlib.Core.List.{List}
use lib.ListN.{get_or}
use Rattle.model.specs.Kinds.{is_read, is_program}
use Rattle.model.specs.Places.{total_words}
use Rattle.model.specs.State.{Flash}
use Rattle.model.specs.Refusals.{accepts}
use Rattle.model.proofs.Answers.{told_accepts}
use Rattle.model.specs.Steps.{starts, start}
use Rattle.model.specs.Whole.{Run, WholeLeaves, stepped, with_pushed, with_popped, turn, turns, whole_answer, short_buffer}
use Rattle.model.specs.declared.Operation.{Operation}
use Rattle.model.specs.declared.Controller.{Controller}
use Rattle.model.proofs.Bool.{which}
use Rattle.model.proofs.Free.{whole_free}
use Rattle.registers.specs.Registers.{setup_of, stands_for, decode}
use Rattle.registers.proofs.Stored.{Long}
use Rattle.validity.proofs.Taken.{taken_stands}
use Rattle.calls.specs.Calls.{LeftBuffer, start_in, pop_in, step_in}
use Rattle.refinement.proofs.RefinementProof.{refines}
use Rattle.driving.specs.declared.Driven.{Driven}
use Rattle.plans.specs.Limited.{driven_from, driven}
use Rattle.driving.specs.Drives.{Drive, stepped_in, with_pushed_in, with_popped_in, turn_in, turns_in, driven_from_in, driven_in}
use Rattle.scan_promises.proofs.Lengths.{long_start, long_push, long_pop, long_step}

-- The run that a drive stands for.
abbrev pub standing : Drive → Run
standing r = record { controller = decode r.registers; flash = r.flash; buffer = r.buffer; bits = r.bits }

-- A call of a turn does to it what the model's call does, and the registers stay as many.
record Follows (r : Drive) (t : Run) : Type 0 where
  same : standing r ≡ t
  long : Long r.registers

step_follows : (r : Drive) → Long r.registers → Follows (stepped_in r) (stepped (standing r))
unfolding step_in
step_follows r l = record {
  same = rw ((refines r.registers l.size).steps r.flash) refl;
  long = long_step r.registers r.flash l;
}

push_follows : (k : ℕ) (r : Drive) → Long r.registers → Follows (with_pushed_in k r) (with_pushed k (standing r))
push_follows k r l = record {
  same = rw ((refines r.registers l.size).pushes (get_or r.buffer k 0)) refl;
  long = long_push r.registers (get_or r.buffer k 0) l;
}

pop_follows : (k : ℕ) (r : Drive) → Long r.registers → Follows (with_popped_in k r) (with_popped k (standing r))
unfolding pop_in
pop_follows k r l = record {
  same = rw (refines r.registers l.size).pops refl;
  long = long_pop r.registers l;
}

-- The calls for one word,
turn_follows : (o : Operation) (k : ℕ) (r : Drive) → Long r.registers → Follows (turn_in o k r) (turn o k (standing r))
unfolding turn_in turn
turn_follows o k r l =
    ⊎_elim
    (λ (e : is_read o ≡ true).
    let a = step_follows r l in
    let b = pop_follows k (stepped_in r) a.long in
    rw e (record { same = b.same ∙ ap (with_popped k) a.same; long = b.long }))
    (λ (e : is_read o ≡ false). rw e
    (⊎_elim
    (λ (p : is_program o ≡ true).
    let a = push_follows k r l in
    let b = step_follows (with_pushed_in k r) a.long in
    rw p (record { same = b.same ∙ ap stepped a.same; long = b.long }))
    (λ (p : is_program o ≡ false). rw p (step_follows r l))
    (which (is_program o))))
    (which (is_read o))

-- and for the first n.
turns_follow : (o : Operation) (n : ℕ) (r : Drive) → Long r.registers → Follows (turns_in o n r) (turns o n (standing r))
unfolding turns_in turns
turns_follow o zero r l = record { same = refl; long = l }
turns_follow o (suc n) r l =
    let a = turns_follow o n r l in
    let b = turn_follows o n (turns_in o n r) a.long in
    record { same = b.same ∙ ap (turn o n) a.same; long = b.long }

-- ---- the operation

pub record DrivesAs (l : LeftBuffer Driven) (m : WholeLeaves) : Type 0 where
  pub controller : decode l.registers ≡ m.result.controller
  pub flash : l.flash ≡ m.flash
  pub buffer : l.buffer ≡ m.buffer
  pub long : Long l.registers

module _ (n : ℕ) (s : List ℕ) (f : Flash) (o : Operation) (b : List ℕ) (l : Long s) (info : o.info ≤ 255) where
  from_start : (d e : ℕ) → d ≡ e → DrivesAs (driven_from_in n d o (start_in s o) f b) (driven_from n e o (start (decode s) o) f b)
  unfolding driven_from_in driven_from start_in
  from_start d e q =
      let begun = (refines s l.size).starts o info in
      ⊎_elim
      (λ (go : starts o (start (decode s) o).answer ≡ true).
      let r : Drive = record { registers = (start_in s o).registers; flash = f; buffer = b; bits = 0 } in
      let a = turns_follow o (min n (total_words d o)) r (long_start s o l) in
      let same : standing (turns_in o (min n (total_words d o)) r)
      ≡ turns o (min n (total_words e o)) (record { controller = (start (decode s) o).controller; flash = f; buffer = b; bits = 0 })
      = a.same ∙ rw (begun, q) refl in
      rw (told_accepts (start (decode s) o).answer, go) (record {
        controller = ap (λ (t : Run). t.controller) same;
        flash = ap (λ (t : Run). t.flash) same;
        buffer = ap (λ (t : Run). t.buffer) same;
        long = a.long;
      }))
      (λ (stop : starts o (start (decode s) o).answer ≡ false).
      rw (told_accepts (start (decode s) o).answer, stop) (record { controller = begun; flash = refl; buffer = refl; long = long_start s o l }))
      (which (starts o (start (decode s) o).answer))

  pub drives_as : DrivesAs (driven_in n s f o b) (driven n (decode s) f o b)
  unfolding driven_in driven stands_for
  drives_as =
      ⊎_elim
      (λ (free : accepts (whole_answer (decode s) f) ≡ true). rw free
      (⊎_elim
      (λ (short : short_buffer o b ≡ true). rw short (record { controller = refl; flash = refl; buffer = refl; long = l }))
      (λ (room : short_buffer o b ≡ false).
      let same : decode s ≡ stands_for s = taken_stands s (whole_free (decode s) f free).fits in
      rw room (from_start (setup_of s).pages (decode s).setup.pages (ap (λ (c : Controller). c.setup.pages) (sym same))))
      (which (short_buffer o b))))
      (λ (no : accepts (whole_answer (decode s) f) ≡ false). rw no (record { controller = refl; flash = refl; buffer = refl; long = l }))
      (which (accepts (whole_answer (decode s) f)))
