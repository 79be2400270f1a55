use Rattle.std.proofs.Common.{arith}
use Rattle.slots.proofs.Holding.{slot_unused, slot_dirty, slot_broken, slot_waiting, slot_taken, slot_odd}
use Rattle.slots.proofs.slot_at.Goals as goal

pub returns-then-are_blank : goal.returns-then-are_blank
returns-then-are_blank c = slot_unused c.args.image.now c.args.p _ (omega arith) c.if-image-p-ne0.true c.requires c.if-are_blank.ensures

pub returns-else-are_blank : goal.returns-else-are_blank
returns-else-are_blank c = slot_dirty c.args.image.now c.args.p _ (omega arith) c.if-image-p-ne0.true c.requires c.if-are_blank.ensures

pub returns-in-None : goal.returns-in-None
returns-in-None c = slot_broken c.args.image.now c.args.p c.if-image-p-ne0.false c.in-None.ensures

pub returns-in-Some : goal.returns-in-Some
returns-in-Some c = slot_waiting c.args.image.now c.args.p c.if-image-p-ne0.false c.in-Some.found c.in-Some.ensures c.if-mark.true

pub returns-in-Some-2 : goal.returns-in-Some-2
returns-in-Some-2 c = slot_taken c.args.image.now c.args.p c.if-image-p-ne0.false c.in-Some.found c.in-Some.ensures c.if-mark-eq0.true

pub returns-in-Some-3 : goal.returns-in-Some-3
returns-in-Some-3 c =
    slot_odd c.args.image.now c.args.p c.if-image-p-ne0.false c.in-Some.found c.in-Some.ensures c.if-mark.false c.if-mark-eq0.false
