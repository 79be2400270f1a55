-- The groups laid, and those of what is left, are those of the number.
use Rattle.std.proofs.Common.{◌≡◌, ◌<◌, ◌≤◌, ◌++◌, length, take}
use Rattle.scan_queue.specs.Payload.{groups}
use Rattle.payloads.proofs.groups_of.Given as goal

abbrev pub invariant-loop-rest : goal.invariant-loop-rest
invariant-loop-rest l = record {
  low : l.rest < 268435456;
  four : length l.groups.bytes ≡ 4;
  few : l.groups.count ≤ 4;
  same : take l.groups.count l.groups.bytes ++ groups 4 l.rest ≡ groups 4 l.fn.v;
}

abbrev pub decreases-loop-rest : goal.decreases-loop-rest
decreases-loop-rest l = l.rest
