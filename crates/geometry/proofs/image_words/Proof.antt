-- `geometry::image_words` meets its contract. Assumes nothing.
use borrow.Author.Rules.{rules}
use Rattle.geometry.proofs.image_words.Statement.{statement}
use Rattle.geometry.proofs.image_words.Tie as tie

pub image_words_spec : {M : Type 1} → statement M
image_words_spec = tie.close (tie.spec (λ c. search rules) (λ c. search rules) (λ c. search rules) (λ c. search rules))
