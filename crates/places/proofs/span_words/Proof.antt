-- `places::span_words` meets its contract. Assumes nothing.
use mathlib.Core.Path.{sym, ◌∙◌}
use Rattle.places.proofs.span_words.Statement.{statement}
use Rattle.places.proofs.span_words.Tie as tie

pub span_words_spec : {M : Type 1} → statement M
span_words_spec =
    tie.close (tie.spec
    (λ c κs. tt)
    (λ c. simp (sym c.before.is_page_erase.ensures ∙ c.if-is_page_erase.true))
    (λ c. simp (sym c.before.is_page_erase.ensures ∙ c.if-is_page_erase.false)))
