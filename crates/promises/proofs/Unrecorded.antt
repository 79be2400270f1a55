-- A refusal that is not recorded leaves the controller as it was. Assumes nothing.
use Prim.Native.Nat.{ℕ}
use mathlib.Core.Path.{◌≡◌}
use mathlib.Core.Bool.{false, and-false}
use mathlib.Core.List.{List}
use Rattle.model.specs.Errors.{is_recorded, recorded}
use Rattle.model.specs.declared.Operation.{Operation}
use Rattle.model.specs.declared.Controller.{Controller}
use Rattle.model.proofs.Answers.{unrecorded_undenied}
use Rattle.promises.specs.Calls.{Start, Whole}
use Rattle.promises.specs.Refused.{left_by}

module _ (c : Controller) (o : Operation) (n : ℕ) (u : is_recorded n ≡ false) where
  pub start_unrecorded : left_by c (Start o) n ≡ c
  unfolding recorded
  start_unrecorded = rw (u, unrecorded_undenied n u, and-false)

  pub whole_unrecorded : (b : List ℕ) → left_by c (Whole o b) n ≡ c
  unfolding recorded
  whole_unrecorded b = rw (u, unrecorded_undenied n u, and-false)
