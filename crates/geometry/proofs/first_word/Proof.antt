-- `geometry::first_word` meets its contract. Assumes nothing.
use borrow.Author.Rules.{rules}
use Rattle.geometry.proofs.first_word.Statement.{statement}
use Rattle.geometry.proofs.first_word.Tie as tie

mul_t2 : tie.Need-overflow_mul-result
mul_t2 c = search rules

returns : tie.Need-returns
returns c = search rules

pub first_word_spec : {M : Type 1} → statement M
first_word_spec = tie.close (tie.spec mul_t2 returns)
