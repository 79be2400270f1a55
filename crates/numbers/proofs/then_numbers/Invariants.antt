-- As many more are read as turns are over.
use Rattle.std.proofs.Common.{◌≡◌}
use Rattle.numbers.specs.Number.{then_numbers}
use Rattle.numbers.proofs.then_numbers.Given as goal

abbrev pub invariant-loop : goal.invariant-loop
invariant-loop l = l.last ≡ then_numbers l.s l.counter l.fn.prior
