-- `steps::advance_erase` meets its contract. Assumes nothing.
use mathlib.Core.Path.{sym}
use borrow.Author.Rules.{rules}
use Rattle.steps.proofs.Left.{moves_place, moves_inside, moves_small, left_erase}
use Rattle.steps.proofs.advance_erase.Statement.{statement}
use Rattle.steps.proofs.advance_erase.Tie as tie

pub advance_erase_spec : {M : Type 1} → statement M
advance_erase_spec =
    tie.close (tie.spec
    (λ c κs. tt)
    (λ c κs. tt)
    (λ c κs. rw c.pages-d.ensures (moves_place c.requires))
    (λ c κs. rw (c.place_of-place.ensures, c.pages-d.ensures) (moves_inside c.requires))
    (λ c κs. moves_small c.requires)
    (λ c. search rules)
    (λ c.
    rw (c.moved.ensures.0, c.moved.ensures.1, c.erase_word-changed.ensures.0.0, c.erase_word-changed.ensures.1)
    (rw (c.place_of-place.ensures, c.total_words-n.ensures, c.pages-d.ensures)
    (sym (left_erase c.args.s.now _ c.args.op c.args.k c.requires)))))
