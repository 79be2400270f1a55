-- The rows before i stand for something and fit.
use mathlib.Core.Bool.{◌&&◌}
use lib.Dec.{leb}
use Rattle.model.proofs.Valid.{Tested}
use Rattle.registers.specs.Registers.{listed}
use Rattle.validity.proofs.Together.{region_stands}
use Rattle.validity.proofs.regions_hold.Given as goal

abbrev pub invariant-loop-i : goal.invariant-loop-i
invariant-loop-i l = Tested (λ b. b) (listed (region_stands l.s) 0 8) l.i (l.ok && (leb l.flags 1 && leb l.rights 7))
