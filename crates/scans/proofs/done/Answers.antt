use Rattle.scans.specs.Jobs.{jobs}
use Rattle.scans.proofs.done.Goals as goal

pub returns-in-Puts : goal.returns-in-Puts
unfolding jobs
returns-in-Puts c = rw c.in-Puts.is c.put.ensures

pub returns-in-Erases : goal.returns-in-Erases
unfolding jobs
returns-in-Erases c = rw c.in-Erases.is c.erase_and_put.ensures
