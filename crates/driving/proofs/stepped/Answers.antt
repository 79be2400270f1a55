-- `driving::stepped` meets its contract. Assumes nothing.
use Rattle.std.proofs.Common.{ap, arith}
use Rattle.driving.specs.Drives.{add_bits}
use Rattle.driving.proofs.Turning.{told_few}
use Rattle.driving.proofs.stepped.Goals as goal

pub overflow_add-result : goal.overflow_add-result
overflow_add-result c = let few = told_few _ _ _ c.step-stepped.ensures in rw c.from.ensures (omega (arith, few))

pub returns : goal.returns
returns c =
    let few = told_few _ _ _ c.step-stepped.ensures in
    rw c.from.ensures (ap (add_bits c.args.bits) c.step-stepped.ensures, omega (arith, few))
