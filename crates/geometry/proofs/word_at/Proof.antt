-- `geometry::word_at` meets its contract. Assumes nothing.
use mathlib.Core.Path.{ap}
use native.Mathlib.Omega.{arith}
use borrow.Author.Rules.{rules}
use Rattle.model.specs.Geometry.{word_at}
use Rattle.geometry.proofs.word_at.Statement.{statement}
use Rattle.geometry.proofs.word_at.Tie as tie

pub word_at_spec : {M : Type 1} → statement M
unfolding word_at
word_at_spec =
    tie.close
    (tie.spec
    (λ c κs. tt)
    (λ c κs. search rules)
    (λ c κs. search rules)
    (λ c κs. tt)
    (λ c. omega (arith, ap (λ w. w.0) c.before.before.first_word-first.ensures))
    (λ c.
    let q = c.before.before.before in
    rw (c.before.before.first_word-first.ensures, q.image_page-q.ensures.0, q.before.page_of-p.ensures.0, c.before.word_in_page-word.ensures.0)))
