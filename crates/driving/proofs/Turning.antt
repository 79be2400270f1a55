-- The calls for one word, by the tests that the code makes. Assumes nothing.
use Rattle.std.specs.Prelude.{None, Some}
use Prim.Native.Nat.{ℕ, ◌+◌, ◌≤◌, ◌<◌}
use native.Mathlib.Numerals.{add-one}
use native.Mathlib.Omega.{arith}
use mathlib.Core.Path.{◌≡◌, refl, sym, ap, subst, ◌∙◌}
use mathlib.Core.Bool.{true, false}
use mathlib.Core.Logic.{⊎_elim}
use mathlib.Core.List.{List}
use lib.ListN.{length, get_or, set}
use borrow.Author.Tests.{eqb-true, lt-ltb}
use Rattle.model.specs.Kinds.{is_read, is_program}
use Rattle.model.specs.State.{Flash}
use Rattle.model.specs.Refusals.{accepts, ready_answer}
use Rattle.model.specs.Valid.{valid_with}
use Rattle.model.specs.Steps.{stalls, counted_bits, advance, step_progress, step}
use Rattle.model.specs.declared.Operation.{Operation}
use Rattle.model.specs.declared.Work.{Work}
use Rattle.model.specs.declared.Work.TheVariants.{Read, Program, Erase}
use Rattle.model.specs.State.{Progress}
use Rattle.model.specs.declared.Controller.{Controller}
use Rattle.model.proofs.Bool.{which}
use Rattle.model.proofs.Words.{changed_at_most}
use Rattle.registers.specs.Registers.{decode}
use Rattle.calls.specs.declared.ToldWord.{ToldWord}
use Rattle.calls.specs.declared.ToldStep.{ToldStep}
use Rattle.calls.specs.Calls.{Left, LeftFlash, step_in, push_in, pop_in}
use Rattle.driving.specs.Drives.{Drive, SteppedBits, stepped_bits, with_step, stepped_in, with_pushed_in, with_popped_in, turn_in, turns_in, Room}

-- ---- a step changes at most 32 bits

advance_few : (c : Controller) (f : Flash) (w : Work) → (advance c f w).result.bits ≤ 32
unfolding advance counted_bits
advance_few c f (Read o k readable) = omega arith
advance_few c f (Program o k) = changed_at_most _ _
advance_few c f (Erase o k) = changed_at_most _ _

progress_few : (c : Controller) (f : Flash) (p : Progress) → (step_progress c f p).result.bits ≤ 32
unfolding step_progress
progress_few c f None = omega arith
progress_few c f (Some w) = ⊎_elim (λ e. rw e (omega arith)) (λ e. rw e (advance_few c f w)) (which (stalls c.queues w))

step_few : (c : Controller) (f : Flash) → (step c f).result.bits ≤ 32
unfolding step
step_few c f =
    ⊎_elim (λ e. rw e (progress_few c f c.progress)) (λ e. rw e (omega arith)) (which (accepts (ready_answer (valid_with c f) c.phase)))

pub step_in_few : (s : List ℕ) (f : Flash) → (step_in s f).told.bits ≤ 32
unfolding step_in
step_in_few s f = step_few (decode s) f

-- ---- the buffer's room

module _ {o : Operation} {n : ℕ} {b : List ℕ} (r : Room o n b) where
  pub read_room : is_read o ≡ true → n ≤ length b
  read_room h = r.room (lt-ltb o.kind 2 (omega (arith, eqb-true o.kind 0 h)))

  pub program_room : is_program o ≡ true → n ≤ length b
  program_room h = r.room (lt-ltb o.kind 2 (omega (arith, eqb-true o.kind 1 h)))

-- ---- words one by one

pub turns_none : (o : Operation) (r : Drive) → r ≡ turns_in o 0 r
unfolding turns_in
turns_none o r = refl

pub turns_more : (o : Operation) (k : ℕ) (r now next : Drive) → now ≡ turns_in o k r → next ≡ turn_in o k now → next ≡ turns_in o (k + 1) r
unfolding turns_in
turns_more o k r now next e h = rw add-one (h ∙ ap (turn_in o k) e)

pub turns_end : (o : Operation) (k n : ℕ) (r now : Drive) → now ≡ turns_in o k r → k ≡ n → now ≡ turns_in o n r
turns_end o k n r now e h = e ∙ ap (λ (j : ℕ). turns_in o j r) h

-- ---- the calls for one word

pub told_few : (s : List ℕ) (f : Flash) (l : LeftFlash ToldStep) → l ≡ step_in s f → l.told.bits ≤ 32
told_few s f l e = subst (λ (x : LeftFlash ToldStep). x.told.bits ≤ 32) (sym e) (step_in_few s f)

pub read_turned : (k : ℕ) (s t u : List ℕ) (f g : Flash) (b : List ℕ) (bits r : ℕ) (w : ToldWord)
    → record { registers = t; flash = g; bits = r } ≡ stepped_bits s f bits → record { told = w; registers = u } ≡ pop_in t
    → record { registers = u; flash = g; buffer = set b k w.word; bits = r }
    ≡ with_popped_in k (stepped_in (record { registers = s; flash = f; buffer = b; bits = bits }))
read_turned k s t u f g b bits r w e p =
    let next : Left ToldWord → Drive = λ l. record { registers = l.registers; flash = g; buffer = set b k l.told.word; bits = r } in
    ap next p ∙ ap (λ (x : SteppedBits). with_popped_in k (with_step b x)) e

pub program_turned : (k : ℕ) (s t u : List ℕ) (f g : Flash) (b : List ℕ) (bits r x : ℕ)
    → record { told = x; registers = t } ≡ push_in s (get_or b k 0) → record { registers = u; flash = g; bits = r } ≡ stepped_bits t f bits
    → record { registers = u; flash = g; buffer = b; bits = r }
    ≡ stepped_in (with_pushed_in k (record { registers = s; flash = f; buffer = b; bits = bits }))
program_turned k s t u f g b bits r x p e =
    ap (with_step b) e ∙ ap (λ (l : Left ℕ). with_step b (stepped_bits l.registers f bits)) p

module _ (o : Operation) (k : ℕ) (r : Drive) where
  pub turn_reads : is_read o ≡ true → with_popped_in k (stepped_in r) ≡ turn_in o k r
  unfolding turn_in
  turn_reads h = rw h refl

  pub turn_programs : is_read o ≡ false → is_program o ≡ true → stepped_in (with_pushed_in k r) ≡ turn_in o k r
  unfolding turn_in
  turn_programs h p = rw (h, p) refl

  pub turn_erases : is_read o ≡ false → is_program o ≡ false → stepped_in r ≡ turn_in o k r
  unfolding turn_in
  turn_erases h p = rw (h, p) refl

-- The next word has its place in the buffer.
pub next_room : {o : Operation} {n : ℕ} {b : List ℕ} (k : ℕ) (c : List ℕ) → Room o n b → length c ≡ length b → k < n → Room o (k + 1) c
next_room k c r e h = record { room = λ u. let l = r.room u in omega arith }
