-- `spans::allowed_words` meets its contract. Assumes nothing.
use mathlib.Core.Path.{◌∙◌}
use borrow.Author.Rules.{rules}
use Rattle.model.proofs.Rights.{allowed_by, none_before, some_before, all_before}
use Rattle.spans.proofs.allowed_words.Statement.{statement}
use Rattle.spans.proofs.allowed_words.Tie as tie

pub allowed_words_spec : {M : Type 1} → statement M
allowed_words_spec =
    tie.close (tie.spec
    (λ c κs. tt)
    (λ c κs. tt)
    (λ c. search rules)
    (λ c. search rules)
    (λ c. search rules)
    (λ c κs. tt)
    (λ c κs. search rules)
    (λ c. search rules)
    (λ c κs. tt)
    (λ c.
    let w = c.before in
    let s = w.before.before.before.before in
    none_before _ _ _ c.if-lead-skipped.true
    ∙ allowed_by _ _ s.before.span_start-start.ensures s.span_words-words.ensures w.before.before.page_of-first.ensures.0 w.before.leading_pages-lead.ensures.0
    w.word_in_page-skipped.ensures.0)
    (λ c. search rules)
    (λ c.
    let w = c.before.before in
    let s = w.before.before.before.before in
    some_before _ _ _ c.if-before-words.true
    ∙ allowed_by _ _ s.before.span_start-start.ensures s.span_words-words.ensures w.before.before.page_of-first.ensures.0 w.before.leading_pages-lead.ensures.0
    w.word_in_page-skipped.ensures.0)
    (λ c.
    let w = c.before.before in
    let s = w.before.before.before.before in
    all_before _ _ _ c.if-before-words.false
    ∙ allowed_by _ _ s.before.span_start-start.ensures s.span_words-words.ensures w.before.before.page_of-first.ensures.0 w.before.leading_pages-lead.ensures.0
    w.word_in_page-skipped.ensures.0))
