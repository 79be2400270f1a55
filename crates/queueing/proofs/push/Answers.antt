-- `queueing::push` meets its contract. Assumes nothing.
use Rattle.std.proofs.Common.{Some, refl, sym, ap, ◌∙◌}
use Rattle.queueing.proofs.Pushed.{push_joins}
use Rattle.queueing.proofs.push.Goals as goal

pub returns : goal.returns
returns c =
    push_joins c.args.s.now c.args.word (sym c.ready.ensures ∙ c.in_ok-ready.was)
    (sym c.progress.ensures ∙ c.in-Some-Program.is ∙ ap Some c.in-Some-Program.field-0-is)
    (rw (c.pushed_all.ensures, c.programs-programs.ensures) at (sym c.check.ensures ∙ c.in_ok-check.was))
    (rw (c.is_full.ensures, c.programs-programs.ensures) at (sym c.check-2.ensures ∙ c.in_ok-check-2.was))
    (rw (c.put_programs.ensures, c.push.ensures, c.programs-programs.ensures) refl)
