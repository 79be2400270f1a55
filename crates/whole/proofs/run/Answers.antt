-- `whole::run` meets its contract. Assumes nothing.
use Rattle.std.proofs.Common.{◌≡◌, true, sym, ◌∙◌, rules, arith}
use Rattle.model.specs.State.{flash}
use Rattle.model.specs.Refusals.{accepts}
use Rattle.model.specs.Whole.{whole_answer}
use Rattle.model.proofs.Answers.{passed}
use Rattle.registers.specs.Registers.{stands_for, decode}
use Rattle.whole.proofs.Completed.{answer_refused, answer_short, admitted, answer_answered, run_answered}
use Rattle.whole.proofs.run.Goals as goal

pub answered-requires : goal.answered-requires
unfolding stands_for
answered-requires c =
    let a = c.args in (
      admitted a.s.now (flash a.image.now) a.o a.buffer.now (rw (sym c.whole_answer.ensures ∙ c.in_ok-whole_answer.was))
          (sym c.short_buffer.ensures ∙ passed _ _ (sym c.check.ensures ∙ c.in_ok-check.was)),
      c.operation_answer-answer.ensures,
    )

pub returns-in_err-whole_answer-clause-answer : goal.returns-in_err-whole_answer-clause-answer
returns-in_err-whole_answer-clause-answer c =
    let a = c.args in
    let w = answer_refused a.s.now (flash a.image.now) a.o a.buffer.now (sym c.whole_answer.ensures ∙ c.in_err-whole_answer.was) in
    search rules

pub returns-in_err-check-clause-answer : goal.returns-in_err-check-clause-answer
returns-in_err-check-clause-answer c =
    let a = c.args in
    let free : accepts (whole_answer (decode a.s.now) (flash a.image.now)) ≡ true = rw (sym c.whole_answer.ensures ∙ c.in_ok-whole_answer.was) in
    grind (arith, answer_short a.s.now (flash a.image.now) a.o a.buffer.now free)

pub returns-clause-answer : goal.returns-clause-answer
unfolding stands_for
returns-clause-answer c =
    let a = c.args in
    c.answered.ensures.answer
    ∙ c.operation_answer-answer.ensures
    ∙ answer_answered a.s.now (flash a.image.now) a.o a.buffer.now (rw (sym c.whole_answer.ensures ∙ c.in_ok-whole_answer.was))
    (sym c.short_buffer.ensures ∙ passed _ _ (sym c.check.ensures ∙ c.in_ok-check.was))

pub returns-clause-left : goal.returns-clause-left
unfolding stands_for
returns-clause-left c =
    let a = c.args in
    rw c.operation_answer-answer.ensures at c.answered.ensures.left
    ∙ run_answered a.s.now (flash a.image.now) a.o a.buffer.now (rw (sym c.whole_answer.ensures ∙ c.in_ok-whole_answer.was))
    (sym c.short_buffer.ensures ∙ passed _ _ (sym c.check.ensures ∙ c.in_ok-check.was))
