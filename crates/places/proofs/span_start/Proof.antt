-- `places::span_start` meets its contract. Assumes nothing.
use mathlib.Core.Path.{sym, ◌∙◌}
use borrow.Author.Rules.{rules}
use Rattle.places.proofs.span_start.Statement.{statement}
use Rattle.places.proofs.span_start.Tie as tie

pub span_start_spec : {M : Type 1} → statement M
span_start_spec =
    tie.close (tie.spec
    (λ c κs. tt)
    (λ c κs. tt)
    (λ c κs. search rules)
    (λ c. simp (c.page_start.ensures, c.before.page_of.ensures.0, sym c.before.before.before.is_page_erase.ensures ∙ c.before.before.if-is_page_erase.true))
    (λ c. simp (sym c.before.is_page_erase.ensures ∙ c.if-is_page_erase.false)))
