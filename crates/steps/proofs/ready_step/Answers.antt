-- `steps::ready_step` meets its contract. Assumes nothing.
use Rattle.std.proofs.Common.{sym, ◌∙◌}
use Rattle.steps.proofs.Left.{step_moves}
use Rattle.steps.proofs.ready_step.Goals as goal

pub advance-requires : goal.advance-requires
advance-requires c =
    step_moves _ _ c.requires _ (sym c.progress.ensures ∙ c.in-Some.is) (sym c.stalls.ensures ∙ c.if-stalls.false)
