-- `validity::rest_fits` meets its contract. Assumes nothing.
use Rattle.registers.specs.Registers.{stands_for}
use Rattle.validity.specs.Rest.{rest_fits}
use Rattle.validity.proofs.rest_fits.Statement.{statement}
use Rattle.validity.proofs.rest_fits.Tie as tie

pub rest_fits_spec : {M : Type 1} → statement M
unfolding rest_fits stands_for
rest_fits_spec =
    tie.close (tie.spec
    (λ c κs. tt)
    (λ c κs. tt)
    (λ c κs. tt)
    (λ c κs. tt)
    (λ c κs. tt)
    (λ c κs. tt)
    (λ c κs. tt)
    (λ c κs. tt)
    (λ c κs. tt)
    (λ c κs. tt)
    (λ c κs. tt)
    (λ c κs. tt)
    (λ c κs. tt)
    (λ c.
    let m = c.before.before.before.before.before.before in
    let r = m.before.before in
    rw (
      c.running_fits-running.ensures,
      c.before.progress_fits-held.ensures,
      c.before.before.queues_fit-queued.ensures,
      c.before.before.before.errors_fit-told.ensures,
      c.before.before.before.before.rights_fit-other.ensures,
      c.before.before.before.before.before.default_rights.ensures,
      m.pages_fit-pages.ensures,
      m.before.pages.ensures,
      r.is_ready-ready.ensures,
      r.before.errors-errors.ensures,
      r.before.before.progress-progress.ensures,
      r.before.before.before.phase-phase.ensures,
      r.before.before.before.before.physical_fits-physical.ensures,
    )))
