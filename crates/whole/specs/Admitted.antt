-- The registers encode a state that checks 1 to 4 of a whole operation accept, and check 6 has passed.
use Rattle.std.specs.Prelude.{ℕ, ◌≡◌, true, false, List}
use Rattle.model.specs.State.{Flash}
use Rattle.model.specs.Refusals.{accepts}
use Rattle.model.specs.Whole.{whole_answer, short_buffer}
use Rattle.model.specs.declared.Operation.{Operation}
use Rattle.registers.specs.Registers.{encoded, stands_for}

pub record Admitted (s : List ℕ) (f : Flash) (o : Operation) (b : List ℕ) : Type 0 where
  pub encodes : encoded s ≡ true
  pub free : accepts (whole_answer (stands_for s) f) ≡ true
  pub room : short_buffer o b ≡ false
