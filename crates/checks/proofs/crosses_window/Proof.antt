-- `checks::crosses_window` meets its contract. Assumes nothing.
use mathlib.Core.Path.{◌≡◌, sym, ◌∙◌}
use borrow.Author.Tests.{eqb-true}
use borrow.Author.Rules.{rules}
use native.Mathlib.Omega.{arith}
use Rattle.model.specs.Checks.{crosses_window}
use Rattle.model.proofs.Checks.{count_bound}
use Rattle.checks.proofs.crosses_window.Statement.{statement}
use Rattle.checks.proofs.crosses_window.Tie as tie

pub crosses_window_spec : {M : Type 1} → statement M
unfolding crosses_window
crosses_window_spec =
    tie.close (tie.spec
    (λ c κs. tt)
    (λ c. search rules)
    (λ c. search rules)
    (λ c. search rules)
    (λ c. search rules)
    (λ c.
    let t = c.before.before.before in
    let s = t.before.before in
    let one : s.args.o.kind ≡ 1 = eqb-true _ _ (sym t.before.is_program.ensures ∙ t.if-is_program.true) in
    omega (arith, count_bound s.args.o s.requires (omega arith)))
    (λ c. simp (sym c.before.before.before.before.is_program.ensures ∙ c.before.before.before.if-is_program.true))
    (λ c. simp (sym c.before.is_program.ensures ∙ c.if-is_program.false)))
