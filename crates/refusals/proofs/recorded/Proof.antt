-- `refusals::recorded` meets its contract. Assumes nothing.
use mathlib.Core.Path.{sym, ◌∙◌}
use Rattle.model.specs.Errors.{recorded}
use Rattle.refusals.proofs.recorded.Statement.{statement}
use Rattle.refusals.proofs.recorded.Tie as tie

pub recorded_spec : {M : Type 1} → statement M
unfolding recorded
recorded_spec =
    tie.close (tie.spec
    (λ c κs. tt)
    (λ c κs. tt)
    (λ c. simp (← c.before.before.before.before.before.before.number_of-n.ensures, sym c.before.before.before.before.before.is_recorded.ensures ∙ c.before.before.before.before.if-is_recorded.true))
    (λ c. simp (← c.before.before.number_of-n.ensures, sym c.before.is_recorded.ensures ∙ c.if-is_recorded.false)))
