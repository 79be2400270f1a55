-- No region before i decides.
use Prim.Native.Nat.{◌%◌}
use lib.ListN.{get_or}
use Rattle.model.proofs.Rights.{Undecided}
use Rattle.registers.specs.Layout.{default_at}
use Rattle.registers.specs.Registers.{regions_of}
use Rattle.lookups.proofs.data_ruling.Given as goal

abbrev pub invariant-loop-i : goal.invariant-loop-i
invariant-loop-i l = Undecided (regions_of l.s) (get_or l.s default_at 0 % 256) l.p l.i
