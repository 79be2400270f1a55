-- `rounds::step_alone` meets its contract. Assumes nothing.
use Rattle.std.proofs.Common.{ap, ◌∙◌}
use Rattle.rounds.specs.Turns.{unserved_host}
use Rattle.rounds.proofs.Served.{beside, left_alone}
use Rattle.rounds.proofs.step_alone.Goals as goal

pub returns-clause-left : goal.returns-clause-left
returns-clause-left c = ap (beside (unserved_host 0)) c.step-stepped.ensures ∙ left_alone _ _
