-- `rounds::competes` meets its contract. Assumes nothing.
use mathlib.Core.Path.{sym, ◌∙◌}
use Rattle.rounds.proofs.Going.{ready_moves}
use Rattle.rounds.proofs.competes.Statement.{statement}
use Rattle.rounds.proofs.competes.Tie as tie

pub competes_spec : {M : Type 1} → statement M
competes_spec =
    tie.close (tie.spec
    (λ c κs. tt)
    (λ c κs. tt)
    (λ c κs. tt)
    (λ c κs. tt)
    (λ c κs.
    let j = c.requires in
    record { lent = j.lent; moves = sym (ready_moves _ _ j.ready) ∙ (sym c.would_move.ensures ∙ c.if-would_move.true) })
    (λ c.
    rw (c.next_bank.ensures.0, c.bank_of-host.ensures.0, c.page_of.ensures.0, c.pages.ensures)
    (rw (sym c.would_move.ensures ∙ c.if-would_move.true)))
    (λ c. rw (sym c.would_move.ensures ∙ c.if-would_move.false)))
