use Rattle.std.proofs.Common.{rules, ◌≡◌, ◌≤◌, length, take, length-take-le, sym, arith}
use Rattle.payloads.proofs.Laying.{all_laid}
use Rattle.payloads.proofs.laid_bytes.Goals as goal

pub returns : goal.returns
returns c =
    let g = c.groups_of-groups in
    let four : length g.result.bytes ≡ 4 = search rules in
    let n : length (take g.result.count g.result.bytes) ≡ g.result.count = length-take-le _ _ (omega (arith, g.ensures.most)) in
    let short : length c.args.scan.bytes.now ≤ 48 = omega arith in
    all_laid c.args.scan.serial (take g.result.count g.result.bytes) c.args.scan.bytes.now c.copy_from_slice.new.self c.copy_from_slice-2.new.self g.result.count
    g.ensures.are short c.copy_from_slice.ensures.after c.copy_from_slice-2.ensures.after (sym n)
