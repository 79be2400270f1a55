-- `validity::valid` meets its contract. Assumes nothing.
use mathlib.Core.Path.{◌∙◌}
use Rattle.validity.proofs.Taken.{valid_holds, valid_fails}
use Rattle.validity.proofs.valid.Statement.{statement}
use Rattle.validity.proofs.valid.Tie as tie

pub valid_spec : {M : Type 1} → statement M
valid_spec =
    tie.close (tie.spec
    (λ c κs. tt)
    (λ c κs. tt)
    (λ c κs. tt)
    (λ c κs. tt)
    (λ c κs. tt)
    (λ c. c.rest_fits.ensures ∙ valid_holds c.before.before.before.before.before.before.args.s.now (rw (
      c.before.before.pages_hold-pages.ensures,
      c.before.before.before.regions_hold-regions.ensures,
      c.before.before.before.before.progress_encoded-running.ensures,
      c.before.before.before.before.before.plain_encoded-plain.ensures,
    ) at c.before.if-plain-running.true))
    (λ c. valid_fails c.before.before.before.before.before.args.s.now (rw (
      c.before.pages_hold-pages.ensures,
      c.before.before.regions_hold-regions.ensures,
      c.before.before.before.progress_encoded-running.ensures,
      c.before.before.before.before.plain_encoded-plain.ensures,
    ) at c.if-plain-running.false)))
