-- `rounds::host_goes` meets its contract. Assumes nothing.
use Rattle.std.proofs.Common.{ℕ, ◌+◌, ◌<◌, ap, ◌∙◌, get_or, arith}
use Rattle.model.specs.State.{flash}
use borrow.Author.Tests.{ltb-true}
use Rattle.rounds.proofs.Served.{going_ready, before_step, left_host_goes}
use Rattle.rounds.proofs.host_goes.Goals as goal

pub ready_read-word-requires : goal.ready_read-word-requires
ready_read-word-requires c = going_ready _ _ c.requires.contested.moves

pub overflow_add-lost : goal.overflow_add-lost
overflow_add-lost c = rw c.lost-lost.ensures (omega (arith, ltb-true (get_or c.args.s.now (135 + c.args.bank) 0) 5 c.requires.below))

pub returns-clause-left : goal.returns-clause-left
returns-clause-left c =
    rw (c.put_lost.ensures, c.lost-lost.ensures) (ap (before_step c.args.s.now (flash c.args.image.now) c.args.bank) c.ready_read-word.ensures.told ∙ left_host_goes c.requires.contested _)
