-- `rounds::step_goes` meets its contract. Assumes nothing.
use Rattle.std.proofs.Common.{ap, ◌∙◌}
use Rattle.rounds.proofs.Served.{going_ready, instead, left_step_goes}
use Rattle.rounds.proofs.step_goes.Goals as goal

pub ready_step-stepped-requires : goal.ready_step-stepped-requires
ready_step-stepped-requires c = going_ready _ _ c.requires.moves

pub returns-clause-left : goal.returns-clause-left
returns-clause-left c = rw c.put_lost.ensures (ap (instead _) c.ready_step-stepped.ensures ∙ left_step_goes c.requires)
