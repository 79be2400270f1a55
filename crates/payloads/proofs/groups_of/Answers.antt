use Rattle.std.proofs.Common.{length-set, ◌∙◌, arith}
use Rattle.payloads.proofs.Laying.{group_room, group_laid}
use Rattle.payloads.proofs.groups_of.Goals as goal

pub loop-rest-preserved : goal.loop-rest-preserved
loop-rest-preserved c =
    let l = c.loop-rest in
    let more = c.loop-rest-test.true in
    record {
      low = omega arith;
      four = length-set _ _ _ ∙ l.invariant.four;
      few = omega (arith, group_room _ _ _ _ l.invariant.four l.invariant.few l.invariant.same);
      same = group_laid _ _ _ _ l.invariant.four l.invariant.few l.invariant.same more l.invariant.low;
    }
