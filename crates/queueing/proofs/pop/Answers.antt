-- `queueing::pop` meets its contract. Assumes nothing.
use Rattle.std.proofs.Common.{refl, sym, ◌∙◌}
use Rattle.queueing.proofs.Popped.{pop_takes}
use Rattle.queueing.proofs.pop.Goals as goal

pub returns : goal.returns
returns c =
    pop_takes c.args.s.now (rw c.valid.ensures at (sym c.check.ensures ∙ c.in_ok-check.was))
    (rw c.read_count.ensures at (sym c.check-2.ensures ∙ c.in_ok-check-2.was))
    (rw (c.oldest-word.ensures, c.reads-reads.ensures) refl)
    (rw (c.put_reads.ensures, c.pop.ensures, c.reads-reads.ensures) refl)
