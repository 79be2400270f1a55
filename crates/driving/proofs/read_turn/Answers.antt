-- `driving::read_turn` meets its contract. Assumes nothing.
use Rattle.driving.proofs.Turning.{read_turned}
use Rattle.driving.proofs.read_turn.Goals as goal

pub returns : goal.returns
returns c =
    rw c.from.ensures
    (read_turned c.args.k _ _ _ _ _ c.args.buffer.now _ _ _ c.stepped-sum.ensures.0 c.pop-popped.ensures, c.stepped-sum.ensures.1)
