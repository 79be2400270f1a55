-- `validity::running_fits` meets its contract. Assumes nothing.
use Rattle.model.specs.Valid.{running_fits}
use Rattle.registers.specs.Registers.{stands_for}
use Rattle.validity.proofs.running_fits.Goals as goal

pub returns-in-None : goal.returns-in-None
unfolding running_fits stands_for
returns-in-None c = rw (c.program_count.ensures, c.in-None.is)

pub returns-in-Some : goal.returns-in-Some
unfolding running_fits stands_for
returns-in-Some c = rw (c.work_fits.ensures, c.in-Some.is)
