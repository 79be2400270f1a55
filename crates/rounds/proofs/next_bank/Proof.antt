-- `rounds::next_bank` meets its contract. Assumes nothing.
use native.Mathlib.Omega.{arith}
use Rattle.rounds.proofs.Going.{going_place, going_bank}
use Rattle.rounds.proofs.next_bank.Statement.{statement}
use Rattle.rounds.proofs.next_bank.Tie as tie

pub next_bank_spec : {M : Type 1} → statement M
next_bank_spec =
    tie.close (tie.spec
    (λ c κs. tt)
    (λ c κs. tt)
    (λ c κs. tt)
    (λ c κs.
    let p = going_place c.requires in
    rw (c.operation-op.ensures, c.pages-d.ensures) (p.0, p.1, p.2, omega (arith, p.3, c.moved-moved.ensures)))
    (λ c κs. tt)
    (λ c. (
      rw (c.bank_of_word.ensures.0, c.place_of.ensures, c.moved-moved.ensures, c.operation-op.ensures, c.pages-d.ensures)
          (going_bank c.requires),
      c.bank_of_word.ensures.1,
    )))
