-- `places::right_needed` meets its contract. Assumes nothing.
use mathlib.Core.Path.{sym, ◌∙◌}
use borrow.Author.Rules.{rules}
use Rattle.places.proofs.right_needed.Statement.{statement}
use Rattle.places.proofs.right_needed.Tie as tie

pub right_needed_spec : {M : Type 1} → statement M
right_needed_spec =
    tie.close (tie.spec
    (λ c κs. tt)
    (λ c. (simp (sym c.before.is_read.ensures ∙ c.if-is_read.true), search rules))
    (λ c κs. tt)
    (λ c. (simp (sym c.before.is_program.ensures ∙ c.if-is_program.true, sym c.before.before.before.is_read.ensures ∙ c.before.before.if-is_read.false), search rules))
    (λ c. (simp (sym c.before.is_program.ensures ∙ c.if-is_program.false, sym c.before.before.before.is_read.ensures ∙ c.before.before.if-is_read.false), search rules)))
