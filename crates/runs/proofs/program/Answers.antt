use Prim.Native.Nat.{◌+◌, ◌-◌}
use mathlib.Core.Path.{◌≡◌, ◌∙◌}
use native.Mathlib.Omega.{arith}
use lib.ListN.{get_or, take, drop}
use Rattle.std.proofs.lemmas.List.{get_or-take, get_or-drop}
use Rattle.plans.specs.Plan.{programming}
use Rattle.runs.proofs.Storing.{part_none, part_more, storing_all}
use Rattle.runs.proofs.program.Goals as goal

pub loop-i-init : goal.loop-i-init
loop-i-init c =
    let same : (c.args.at + c.args.count) - c.args.at ≡ c.args.count = omega arith in
    rw same (part_none (programming c.args.buffer.now) c.args.at c.args.from c.args.count c.args.image.now (omega arith))

pub overflow_add-bits : goal.overflow_add-bits
overflow_add-bits c = omega (arith, c.loop-i.invariant.size, c.loop-i.invariant.all.few, c.changed_bits-bits.ensures.1)

pub loop-i-preserved : goal.loop-i-preserved
loop-i-preserved c =
    let b = c.args.buffer.now in
    let n = c.loop-i.i in
    let word : get_or (take ((c.args.from + c.args.count) - c.args.from) (drop c.args.from b)) n 0 ≡ get_or b (c.args.from + n) 0 =
    get_or-take ((c.args.from + c.args.count) - c.args.from) (drop c.args.from b) n 0 (omega (arith, c.loop-i.invariant.size)) ∙ get_or-drop c.args.from b n 0 in
    part_more _ _ _ _ _ _ _ _ _ _ (omega arith) (omega (arith, c.loop-i.invariant.size)) c.loop-i.invariant (rw word at c.programmed-new.ensures) c.changed_bits-bits.ensures.0

pub returns-clause-value : goal.returns-clause-value
returns-clause-value c = (storing_all (omega (arith, c.loop-i.invariant.size)) c.loop-i.invariant.all).0

pub returns-clause-image_after : goal.returns-clause-image_after
returns-clause-image_after c =
    let same : (c.args.at + c.args.count) - c.args.at ≡ c.args.count = omega arith in
    rw same ((storing_all {m = c.args.count} (omega (arith, c.loop-i.invariant.size)) c.loop-i.invariant.all).1)
