-- The bytes of the first i words are copied.
use Rattle.std.proofs.Common.{◌≡◌, ◌*◌, length, take}
use Rattle.slots.specs.Code.{payload_bytes}
use Rattle.slots.proofs.payload_bytes.Given as goal

abbrev pub invariant-loop-i : goal.invariant-loop-i
invariant-loop-i l = record { size : length l.bytes ≡ 56; front : take (4 * l.i) l.bytes ≡ take (4 * l.i) (payload_bytes l.image l.p) }
