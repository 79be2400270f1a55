-- Registers stay as many, whatever a call of a driven operation leaves. Assumes nothing.
use Prim.Native.Nat.{ℕ}
use mathlib.Core.List.{List}
use Rattle.model.specs.State.{Flash}
use Rattle.model.specs.Refusals.{accepts}
use Rattle.model.specs.Steps.{start, push, pop, step}
use Rattle.model.specs.declared.Operation.{Operation}
use Rattle.registers.specs.Registers.{decode}
use Rattle.registers.proofs.Stored.{Long}
use Rattle.refinement.proofs.Lengths.{long_back}
use Rattle.calls.specs.Calls.{changes, start_in, push_in, pop_in, step_in}

pub long_start : (s : List ℕ) (o : Operation) → Long s → Long (start_in s o).registers
unfolding start_in
long_start s o l = let left = start (decode s) o in long_back (changes left.answer) s left.controller l

pub long_push : (s : List ℕ) (w : ℕ) → Long s → Long (push_in s w).registers
unfolding push_in
long_push s w l = let left = push (decode s) w in long_back (accepts left.answer) s left.controller l

pub long_pop : (s : List ℕ) → Long s → Long (pop_in s).registers
unfolding pop_in
long_pop s l = let left = pop (decode s) in long_back (accepts left.answer) s left.controller l

pub long_step : (s : List ℕ) (f : Flash) → Long s → Long (step_in s f).registers
unfolding step_in
long_step s f l = let left = (step (decode s) f).result in long_back (accepts left.answer) s left.controller l
