-- `rounds::host_alone` meets its contract. Assumes nothing.
use Rattle.std.proofs.Common.{ap, ◌∙◌}
use Rattle.rounds.proofs.Served.{lone, left_host_alone}
use Rattle.rounds.proofs.host_alone.Goals as goal

pub returns-clause-left : goal.returns-clause-left
returns-clause-left c = ap (lone _ _) c.host_read-word.ensures.told ∙ left_host_alone _ _ _
