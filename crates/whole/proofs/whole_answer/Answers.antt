-- `whole::whole_answer` meets its contract. Assumes nothing.
use Rattle.std.proofs.Common.{sym, ◌∙◌}
use Rattle.whole.proofs.Completed.{ready}
use Rattle.whole.proofs.whole_answer.Goals as goal

pub returns : goal.returns
returns c =
    rw (
      c.check.ensures,
      c.program_count-programs.ensures,
      c.read_count-reads.ensures,
      c.is_some-busy.ensures,
      c.progress.ensures,
    ) (ready _ _ (sym c.ready_with.ensures ∙ c.in_ok-ready_with.was))
