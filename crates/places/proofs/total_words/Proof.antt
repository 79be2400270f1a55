-- `places::total_words` meets its contract. Assumes nothing.
use mathlib.Core.Path.{sym, ◌∙◌}
use borrow.Author.Rules.{rules}
use Rattle.model.specs.Places.{total_words}
use Rattle.places.proofs.total_words.Statement.{statement}
use Rattle.places.proofs.total_words.Tie as tie

pub total_words_spec : {M : Type 1} → statement M
unfolding total_words
total_words_spec =
    tie.close (tie.spec
    (λ c κs. tt)
    (λ c κs. tt)
    (λ c. search rules)
    (λ c. search rules)
    (λ c. simp (sym c.before.is_information.ensures ∙ c.if-is_information.true, sym c.before.before.before.is_bank_erase.ensures ∙ c.before.before.if-is_bank_erase.true))
    (λ c. search rules)
    (λ c. simp (sym c.before.is_information.ensures ∙ c.if-is_information.false, sym c.before.before.before.is_bank_erase.ensures ∙ c.before.before.if-is_bank_erase.true))
    (λ c κs. tt)
    (λ c. search rules)
    (λ c. simp (c.span_words.ensures, sym c.before.before.is_bank_erase.ensures ∙ c.before.if-is_bank_erase.false)))
