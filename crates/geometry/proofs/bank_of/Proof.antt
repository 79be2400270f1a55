-- `geometry::bank_of` meets its contract. Assumes nothing.
use native.Mathlib.Omega.{arith}
use borrow.Author.Rules.{rules}
use borrow.Author.Tests.{lt-ltb, le-ltb}
use Rattle.geometry.proofs.bank_of.Statement.{statement}
use Rattle.geometry.proofs.bank_of.Tie as tie

pub bank_of_spec : {M : Type 1} → statement M
bank_of_spec =
    tie.close
    (tie.spec
    (λ c. (simp (lt-ltb c.before.before.args.p.0 c.before.before.args.d (omega arith)), search rules))
    (λ c. (simp (le-ltb c.before.before.args.p.0 c.before.before.args.d (omega arith)), search rules)))
