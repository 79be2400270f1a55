use Rattle.scans.proofs.Jobs.{one_job}
use Rattle.scans.proofs.run.Goals as goal

pub returns : goal.returns
returns c = rw c.then_some.ensures (one_job _ _ _ (record { operation = c.args.o; words = c.args.words.now }) _ c.drive-told.ensures)
