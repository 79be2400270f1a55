use Prim.Native.Nat.{◌+◌, ◌-◌}
use mathlib.Core.Path.{◌≡◌, refl}
use native.Mathlib.Omega.{arith}
use Rattle.plans.specs.Plan.{erasing}
use Rattle.runs.proofs.Storing.{part_none, part_more, storing_all}
use Rattle.runs.proofs.erase.Goals as goal

pub loop-stored-init : goal.loop-stored-init
loop-stored-init c =
    let same : (c.args.at + c.args.count) - c.args.at ≡ c.args.count = omega arith in
    rw same (part_none erasing c.args.at 0 c.args.count c.args.image.now c.requires.0)

pub overflow_add-bits : goal.overflow_add-bits
overflow_add-bits c = omega (arith, c.loop-stored.invariant.size, c.loop-stored.invariant.all.few, c.changed_bits-bits.ensures.1)

pub loop-stored-preserved : goal.loop-stored-preserved
loop-stored-preserved c = part_more _ _ _ _ _ _ _ _ _ _ c.requires.0 (omega (arith, c.loop-stored.invariant.size)) c.loop-stored.invariant refl c.changed_bits-bits.ensures.0

pub returns-clause-value : goal.returns-clause-value
returns-clause-value c = (storing_all (omega (arith, c.loop-stored.invariant.size)) c.loop-stored.invariant.all).0

pub returns-clause-image_after : goal.returns-clause-image_after
returns-clause-image_after c =
    let same : (c.args.at + c.args.count) - c.args.at ≡ c.args.count = omega arith in
    rw same ((storing_all {m = c.args.count} (omega (arith, c.loop-stored.invariant.size)) c.loop-stored.invariant.all).1)
