-- The first words are stored, and their bits are counted.
use Rattle.plans.specs.Plan.{erasing}
use Rattle.runs.proofs.Storing.{PartStoring}
use Rattle.runs.proofs.erase.Given as goal

abbrev pub invariant-loop-stored : goal.invariant-loop-stored
invariant-loop-stored l = PartStoring erasing l.at 0 l.count l.fn.image l.stored-index l.stored-items l.bits
