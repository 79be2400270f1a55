-- `spans::bank_answer` meets its contract. Assumes nothing.
use Rattle.model.specs.Rights.{denied, decider_of}
use Rattle.registers.specs.Registers.{stands_for}
use Rattle.spans.proofs.bank_answer.Statement.{statement}
use Rattle.spans.proofs.bank_answer.Tie as tie

pub bank_answer_spec : {M : Type 1} → statement M
unfolding denied decider_of stands_for
bank_answer_spec =
    tie.close (tie.spec
    (λ c κs. tt)
    (λ c κs. tt)
    (λ c κs. tt)
    (λ c κs. c.bank_of-bank.ensures.1)
    (λ c κs. tt)
    (λ c. simp (
      c.check.ensures,
      c.before.bank_closed.ensures,
      c.before.before.bank_of-bank.ensures.0,
      c.before.before.before.page_of.ensures.0,
      c.before.before.before.before.pages-d.ensures,
      c.before.before.before.before.before.before.requires,
    )))
