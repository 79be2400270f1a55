-- `spans::page_answer` meets its contract. Assumes nothing.
use borrow.Author.Rules.{rules}
use Rattle.spans.proofs.OnePage.{answer_one}
use Rattle.spans.proofs.page_answer.Statement.{statement}
use Rattle.spans.proofs.page_answer.Tie as tie

pub page_answer_spec : {M : Type 1} → statement M
page_answer_spec =
    tie.close (tie.spec
    (λ c κs. tt)
    (λ c κs. tt)
    (λ c κs. tt)
    (λ c κs. tt)
    (λ c κs. tt)
    (λ c κs. search rules)
    (λ c κs. tt)
    (λ c.
    let r = c.before.before.before in
    rw (
      c.check.ensures,
      c.before.grants.ensures,
      c.before.before.right_needed.ensures.0,
      r.ruling_at-ruling.ensures,
      r.before.page_of-page.ensures.0,
      r.before.before.span_start.ensures,
      r.before.before.before.is_information-information.ensures,
    ) (answer_one _ r.before.before.before.before.requires)))
