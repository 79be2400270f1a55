use Rattle.std.proofs.Common.{◌≤◌, ◌+◌, length}
use Rattle.slots.specs.Code.{payload_bytes}
use Rattle.slots.proofs.Reading.{payload_long}
use Rattle.scans.proofs.HandedOut.{told_scan, mark_cut, mark_scan}
use Rattle.scans.proofs.hand_out.Goals as goal

pub scan_bytes-bytes-requires : goal.scan_bytes-bytes-requires
scan_bytes-bytes-requires c = (c.requires.2, rw (c.payload_bytes-payload.ensures, payload_long c.args.image.now c.args.plan.place) c.requires.3)

pub returns-in_err-zero : goal.returns-in_err-zero
returns-in_err-zero c = rw c.from_residual.ensures (mark_cut _ _ _ c.zero.ensures c.in_err-zero.was)

pub returns : goal.returns
returns c =
    let a = c.args in
    let f = a.plan.found in
    let inside : f.start + f.count ≤ length (payload_bytes a.image.now a.plan.place) = rw (payload_long a.image.now a.plan.place) c.requires.3 in
    mark_scan _ _ _ c.zero.ensures _
    (told_scan f.serial f.start f.count (payload_bytes a.image.now a.plan.place) _ inside (rw c.payload_bytes-payload.ensures at c.scan_bytes-bytes.ensures))
    _ c.in_ok-zero.was
