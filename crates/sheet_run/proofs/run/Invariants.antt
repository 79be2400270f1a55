-- As many entries have run as turns are over.
use Rattle.model.specs.State.{flash}
use Rattle.sheet_effects.proofs.Running.{Running}
use Rattle.sheet_run.proofs.run.Given as goal

abbrev pub invariant-loop-place : goal.invariant-loop-place
invariant-loop-place l = Running l.sheet l.initial.s (flash l.initial.image) l.initial.row l.place-index l.s (flash l.image) l.row l.n
