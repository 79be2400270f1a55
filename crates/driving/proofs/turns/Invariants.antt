-- The calls for the first k words are made.
use Prim.Native.Nat.{◌≤◌, ◌*◌}
use mathlib.Core.Path.{◌≡◌}
use lib.ListN.{length}
use Rattle.model.specs.State.{flash}
use Rattle.driving.specs.Drives.{turns_in}
use Rattle.driving.proofs.turns.Given as goal

abbrev pub invariant-loop-k : goal.invariant-loop-k
invariant-loop-k l =
    (l.bits ≤ 32 * l.k)
    × (record { registers = l.s; flash = flash l.image; buffer = l.buffer; bits = l.bits }
    ≡ turns_in l.o l.k (record { registers = l.initial.s; flash = flash l.initial.image; buffer = l.initial.buffer; bits = 0 }))
