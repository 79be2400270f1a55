-- `validity::valid_with` meets its contract. Assumes nothing.
use mathlib.Core.Path.{ap, sym, ◌∙◌}
use Rattle.model.specs.State.{flash_fits}
use Rattle.model.specs.Valid.{valid_with}
use Rattle.model.specs.declared.Controller.{Controller}
use Rattle.registers.specs.Registers.{stands_for}
use Rattle.validity.proofs.Taken.{taken_stands}
use Rattle.validity.proofs.valid_with.Statement.{statement}
use Rattle.validity.proofs.valid_with.Tie as tie

pub valid_with_spec : {M : Type 1} → statement M
unfolding valid_with flash_fits stands_for
valid_with_spec =
    tie.close (tie.spec
    (λ c κs. tt)
    (λ c κs. tt)
    (λ c κs. tt)
    (λ c. let t = c.before.before in let ok = sym t.before.valid.ensures ∙ t.if-valid.true in let d = ap (λ (k : Controller). k.setup.pages) (taken_stands t.before.before.before.args.s.now ok) in simp (
      c.image_words.ensures,
      c.before.pages.ensures,
      ok,
      d,
    ))
    (λ c. simp (sym c.before.valid.ensures ∙ c.if-valid.false)))
