-- `words::read_word` meets its contract. Assumes nothing.
use mathlib.Core.Path.{◌≡◌}
use mathlib.Core.Bool.{true, false}
use lib.Dec.{ltb}
use borrow.Author.Tests.{lt-ltb, le-ltb}
use borrow.Author.Rules.{rules}
use Rattle.model.specs.Steps.{read_word}
use Rattle.words.proofs.read_word.Statement.{statement}
use Rattle.words.proofs.read_word.Tie as tie

pub read_word_spec : {M : Type 1} → statement M
unfolding read_word
read_word_spec =
    tie.close (tie.spec
    (λ c κs. search rules)
    (λ c. let true_word : ltb c.before.before.before.args.k c.before.before.before.args.readable ≡ true = lt-ltb _ _ c.before.if-k-readable.true in rw (true_word, c.delivered.ensures))
    (λ c. let past : ltb c.before.before.args.k c.before.before.args.readable ≡ false = le-ltb _ _ c.if-k-readable.false in rw past))
