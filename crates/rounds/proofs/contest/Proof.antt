-- `rounds::contest` meets its contract. Assumes nothing.
use Prim.Native.Nat.{ℕ, ◌+◌}
use native.Mathlib.Omega.{arith}
use mathlib.Core.Path.{◌∙◌}
use lib.ListN.{get_or}
use borrow.Author.Rules.{rules}
use borrow.Author.Tests.{lt-ltb, le-ltb}
use Rattle.model.specs.State.{flash}
use Rattle.rounds.specs.Turns.{Contested}
use Rattle.rounds.proofs.Served.{answer_contest_host, left_contest_host, answer_contest_step, left_contest_step}
use Rattle.rounds.proofs.contest.Statement.{statement}
use Rattle.rounds.proofs.contest.Tie as tie

-- The step would move a word in the bank that was found.
found : (d : tie.After-next_bank-bank) →
    let v = d.args in
    Contested v.s.now (flash v.image.now) d.next_bank-bank.result
found d = record { moves = d.requires; same = d.next_bank-bank.ensures.0; small = d.next_bank-bank.ensures.1 }

-- The lost count of that bank.
abbrev count : tie.After-next_bank-bank → ℕ
count d = get_or d.args.s.now (135 + d.next_bank-bank.result) 0

pub contest_spec : {M : Type 1} → statement M
contest_spec =
    tie.close (tie.spec
    (λ c κs. record { lent = _; moves = c.requires })
    (λ c. search rules)
    (λ c κs. c.next_bank-bank.ensures.1)
    (λ c κs.
    let i = c.before in
    (found i.before.before, lt-ltb (count i.before.before) 5 (omega (arith, i.lost.ensures))))
    (λ c. search rules)
    (λ c.
    let i = c.before.before in
    let below = lt-ltb (count i.before.before) 5 (omega (arith, i.lost.ensures)) in (
      c.host_goes.ensures.0 ∙ answer_contest_host (found i.before.before) _ below,
      c.host_goes.ensures.1 ∙ left_contest_host (found i.before.before) _ below,
    ))
    (λ c κs. found c.before.before.before.before)
    (λ c. search rules)
    (λ c.
    let i = c.before.before.before.before.before in
    let due = le-ltb (count i.before.before) 5 (omega (arith, i.lost.ensures)) in (
      c.step_goes.ensures.0 ∙ answer_contest_step (found i.before.before) _ due,
      c.step_goes.ensures.1 ∙ left_contest_step (found i.before.before) _ due,
    )))
