-- When an operation may begin. (house)
use Rattle.std.specs.Prelude.{ℕ, ◌≡◌, true, false, List}
use Rattle.model.specs.State.{is_busy}
use Rattle.model.specs.declared.Operation.{Operation}
use Rattle.model.specs.Refusals.{Answer}
use Rattle.registers.specs.Registers.{encoded, stands_for}
use Rattle.answers.specs.Answered.{Answered}

-- The registers encode a state whose D is 10 to 256, nothing is in progress, and the answer is that of checks 5, 7, 8 and 9.
pub record Begins (s : List ℕ) (o : Operation) (a : Answer) : Type 0 where
  pub encodes : encoded s ≡ true
  pub idle : is_busy (stands_for s).progress ≡ false
  pub answered : Answered s o a
