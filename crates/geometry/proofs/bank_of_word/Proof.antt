-- `geometry::bank_of_word` meets its contract. Assumes nothing.
use Prim.Native.Nat.{◌+◌, ◌*◌}
use native.Mathlib.Omega.{arith}
use borrow.Author.Rules.{rules}
use borrow.Author.Tests.{lt-ltb, le-ltb}
use Rattle.geometry.proofs.bank_of_word.Statement.{statement}
use Rattle.geometry.proofs.bank_of_word.Tie as tie

pub bank_of_word_spec : {M : Type 1} → statement M
bank_of_word_spec =
    tie.close
    (tie.spec
    (λ c. search rules)
    (λ c. search rules)
    (λ c. search rules)
    (λ c. (simp (lt-ltb c.before.before.args.w.0 ((c.before.before.args.d + 13) * 256) (omega arith)), search rules))
    (λ c. (simp (le-ltb c.before.before.args.w.0 ((c.before.before.args.d + 13) * 256) (omega arith)), search rules)))
