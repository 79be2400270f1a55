-- The rows before i stand for something and fit.
use mathlib.Core.Bool.{◌&&◌}
use lib.Dec.{leb}
use Rattle.model.proofs.Valid.{Tested}
use Rattle.registers.specs.Registers.{listed}
use Rattle.validity.proofs.Together.{page_stands}
use Rattle.validity.proofs.pages_hold.Given as goal

abbrev pub invariant-loop-i : goal.invariant-loop-i
invariant-loop-i l = Tested (λ b. b) (listed (page_stands l.s) 0 26) l.i (leb l.flags 1 && leb l.rights 7)
