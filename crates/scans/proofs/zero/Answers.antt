use Rattle.scans.proofs.zero.Goals as goal

pub returns : goal.returns
returns c = rw c.operation.ensures at c.run.ensures
