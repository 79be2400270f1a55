-- A state that has passed checks 1 to 3 of a call that is lent the image. (house)
use Rattle.std.specs.Prelude.{ℕ, ◌≡◌, true, List}
use Rattle.model.specs.State.{Flash}
use Rattle.model.specs.Refusals.{accepts, ready_answer}
use Rattle.model.specs.Valid.{valid_with}
use Rattle.registers.specs.Registers.{decode}

-- With this flash,
abbrev pub Ready : List ℕ → Flash → Type 0
Ready s f = accepts (ready_answer (valid_with (decode s) f) (decode s).phase) ≡ true

-- or with the flash that was lent where it was judged.
pub record Judged (s : List ℕ) : Type 0 where
  pub lent : Flash
  pub ready : Ready s lent
