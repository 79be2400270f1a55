-- `inputs::clear` meets its contract. Assumes nothing.
use Rattle.inputs.proofs.Configured.{clear_left}
use Rattle.inputs.proofs.clear.Goals as goal

pub returns : goal.returns
returns c = clear_left c.args.s.now c.valid-valid.ensures c.empty_record.ensures c.check.ensures
