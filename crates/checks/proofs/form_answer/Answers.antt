-- `checks::form_answer` meets its contract: each kind's tests are those of the definition. Assumes nothing.
use Rattle.std.proofs.Common.{arith}
use mathlib.Core.Bool.{and-true, and-false, or-false}
use Rattle.model.specs.Checks.{malformed}
use Rattle.model.proofs.Checks.{malformed_moving, malformed_unknown}
use Rattle.checks.proofs.form_answer.Goals as goal

pub returns-in-2 : goal.returns-in-2
unfolding malformed
returns-in-2 c = simp (c.check.ensures, c.unaligned-place.ensures, c.is_information.ensures, c.no_partition-partition.ensures, c.in-2.is, and-true, or-false)

pub returns-in-3 : goal.returns-in-3
unfolding malformed
returns-in-3 c = simp (c.check-in-3.ensures, c.unaligned-place.ensures, c.no_partition-partition.ensures, c.in-3.is, and-false, or-false)

pub returns-in-0 : goal.returns-in-0
unfolding malformed
returns-in-0 c =
    rw (
      c.check-in-0.ensures,
      c.bad_count-count.ensures,
      c.unaligned-place.ensures,
      c.is_information.ensures,
      c.no_partition-partition.ensures,
      malformed_moving c.args.o (omega arith),
    )

pub returns-in-4-to-255 : goal.returns-in-4-to-255
returns-in-4-to-255 c = rw (c.check-in-4-to-255.ensures, malformed_unknown c.args.o (omega arith))
