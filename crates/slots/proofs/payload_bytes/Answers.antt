use Rattle.std.proofs.Common.{◌≡◌, ◌<◌, ◌*◌, ◌∙◌, length, ap, refl, arith}
use Rattle.slots.proofs.Reading.{copied, put_long, all_copied}
use Rattle.slots.proofs.payload_bytes.Goals as goal

pub loop-i-preserved : goal.loop-i-preserved
loop-i-preserved c =
    let l = c.loop-i in
    let below : l.i < 14 = omega arith in
    let w = c.copy_from_slice.ensures.after ∙ c.to_le_bytes.ensures in
    let four : length c.copy_from_slice.new.self ≡ 4 = ap length w ∙ refl in
    record {
      size = put_long l.bytes c.copy_from_slice.new.self (4 * l.i) _ (omega arith) (omega arith) ∙ l.invariant.size;
      front = copied c.args.image.now l.bytes c.args.p l.i _ _ c.requires below l.invariant.size (omega arith) l.invariant.front _ w;
    }

pub returns : goal.returns
returns c =
    all_copied c.args.image.now c.loop-i.bytes c.args.p c.loop-i.i (omega arith) c.loop-i.invariant.size c.loop-i.invariant.front
