use Rattle.std.proofs.Common.{arith}
use Rattle.numbers.proofs.Laws.{value_step, value_small}
use Rattle.numbers.proofs.+groups_value.Goals as goal

pub returns-clause-small : goal.returns-clause-small
returns-clause-small t c = omega (arith, value_step c.args.s.now c.args.at c.args.k (omega arith), value_small c.args.s.now c.args.at c.args.k (omega arith), c.from.ensures, c.groups_value-high.ensures.value)
