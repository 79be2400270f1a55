-- The answer is that of checks 5, 7, 8 and 9, on a state whose D is 10 to 256.
use Rattle.std.specs.Prelude.{ℕ, ◌≤◌, ◌≡◌, List}
use Rattle.model.specs.Checks.{operation_answer}
use Rattle.model.specs.declared.Operation.{Operation}
use Rattle.model.specs.Refusals.{Answer}
use Rattle.registers.specs.Registers.{stands_for}

pub record Answered (s : List ℕ) (o : Operation) (a : Answer) : Type 0 where
  pub answered : a ≡ operation_answer (stands_for s).setup o
  pub pages : (10 ≤ (stands_for s).setup.pages) × ((stands_for s).setup.pages ≤ 256)
