-- Registers stay as many, whatever an entry of a sheet leaves. Assumes nothing.
use Prim.Native.Nat.{ℕ}
use mathlib.Core.List.{List}
use Rattle.model.specs.State.{Flash}
use Rattle.model.specs.Refusals.{accepts}
use Rattle.model.specs.Settings.{set_default}
use Rattle.model.specs.Whole.{whole}
use Rattle.model.specs.declared.Operation.{Operation}
use Rattle.registers.specs.Registers.{decode}
use Rattle.registers.proofs.Stored.{Long}
use Rattle.refinement.proofs.Lengths.{long_back}
use Rattle.calls.specs.Calls.{changes, set_default_in, whole_in}

pub long_default : (s : List ℕ) (r : ℕ) → Long s → Long (set_default_in s r).registers
unfolding set_default_in
long_default s r l = let left = set_default (decode s) r in long_back (accepts left.answer) s left.controller l

pub long_whole : (s : List ℕ) (f : Flash) (o : Operation) (b : List ℕ) → Long s → Long (whole_in s f o b).registers
unfolding whole_in
long_whole s f o b l = let left = (whole (decode s) f o b).result in long_back (changes left.answer) s left.controller l
