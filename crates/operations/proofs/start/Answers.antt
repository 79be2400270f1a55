-- `operations::start` meets its contract. Assumes nothing.
use Rattle.std.proofs.Common.{sym, ◌∙◌}
use Rattle.operations.proofs.Left.{start_begins, answer_early, answer_goes, start_goes}
use Rattle.operations.proofs.start.Goals as goal

pub started-requires : goal.started-requires
started-requires c = start_begins _ _ (sym c.start_answer-first.ensures ∙ c.in-Ok.is) c.operation_answer-told.ensures

pub returns-in-Err-clause-answer : goal.returns-in-Err-clause-answer
returns-in-Err-clause-answer c = answer_early _ _ (sym c.start_answer-first.ensures ∙ c.in-Err.is)

pub returns-in-Ok-clause-answer : goal.returns-in-Ok-clause-answer
returns-in-Ok-clause-answer c = answer_goes _ _ (sym c.start_answer-first.ensures ∙ c.in-Ok.is) c.operation_answer-told.ensures

pub returns-in-Ok-clause-left : goal.returns-in-Ok-clause-left
returns-in-Ok-clause-left c = start_goes _ _ (sym c.start_answer-first.ensures ∙ c.in-Ok.is) c.operation_answer-told.ensures c.started.ensures
