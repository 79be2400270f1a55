-- The first words are stored, and their bits are counted.
use Rattle.plans.specs.Plan.{programming}
use Rattle.runs.proofs.Storing.{PartStoring}
use Rattle.runs.proofs.program.Given as goal

abbrev pub invariant-loop-i : goal.invariant-loop-i
invariant-loop-i l = PartStoring (programming l.buffer) l.at l.from l.count l.fn.image l.i l.stored-items l.bits
