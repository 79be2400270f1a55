-- A word moves: what is told and left, and when it can. (house)
use Rattle.std.specs.Prelude.{Some}
use Rattle.std.specs.Prelude.{ℕ, ◌+◌, ◌≡◌, true, false, cond, List, eqb, set}
use Rattle.model.specs.State.{Flash}
use Rattle.model.specs.Valid.{valid_with}
use Rattle.model.specs.Steps.{stalls}
use Rattle.model.specs.declared.Work.{Work}
use Rattle.registers.specs.Layout.{moved_at}
use Rattle.registers.specs.Registers.{encoded, stands_for, no_progress}
use Rattle.calls.specs.declared.ToldStep.{ToldStep}

-- Word k of n has moved: the last one finishes the operation.
abbrev pub told_moved : ℕ → ℕ → ℕ → ToldStep
told_moved n k bits = record { answer = 0; movement = cond (eqb (k + 1) n) 2 1; bits = bits }

abbrev pub registers_moved : List ℕ → ℕ → ℕ → List ℕ
registers_moved s n k = cond (eqb (k + 1) n) (no_progress s) (set s moved_at (k + 1))

-- The registers encode a valid state, the work is the one in progress, and a step would not wait.
pub record Moves (s : List ℕ) (f : Flash) (w : Work) : Type 0 where
  pub encodes : encoded s ≡ true
  pub valid : valid_with (stands_for s) f ≡ true
  pub running : (stands_for s).progress ≡ Some w
  pub goes : stalls (stands_for s).queues w ≡ false
