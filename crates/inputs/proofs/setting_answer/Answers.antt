-- `inputs::setting_answer` meets its contract. Assumes nothing.
use Rattle.std.proofs.Common.{sym, ◌∙◌}
use Rattle.std.proofs.lemmas.Bool.{not-false}
use Rattle.std.proofs.lemmas.Result.{err_from_is_err_and}
use Rattle.model.proofs.Answers.{passed}
use Rattle.inputs.proofs.Configured.{answer_busy}
use Rattle.inputs.proofs.setting_answer.Goals as goal

pub returns-in_err-check-2 : goal.returns-in_err-check-2
returns-in_err-check-2 c =
    let p = err_from_is_err_and c.from_residual-in_err-check-2.result c.from_residual-in_err-check-2.ensures.1 in
    let valid = sym c.valid.ensures ∙ not-false _ (passed _ _ (sym c.check.ensures ∙ c.in_ok-check.was)) in
    rw (p.1, p.2) (answer_busy _ _ valid (sym c.in_err-check-2.was ∙ c.check-2.ensures ∙ rw (c.is_some-busy.ensures, c.progress.ensures)))
