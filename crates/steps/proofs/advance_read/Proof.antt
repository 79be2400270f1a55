-- `steps::advance_read` meets its contract. Assumes nothing.
use mathlib.Core.Path.{sym}
use Rattle.steps.proofs.Left.{moves_place, moves_inside, moves_small, read_room, left_read}
use Rattle.steps.proofs.advance_read.Statement.{statement}
use Rattle.steps.proofs.advance_read.Tie as tie

pub advance_read_spec : {M : Type 1} → statement M
advance_read_spec =
    tie.close (tie.spec
    (λ c κs. tt)
    (λ c κs. tt)
    (λ c κs. rw c.pages-d.ensures (moves_place c.requires))
    (λ c κs. rw (c.place_of-place.ensures, c.pages-d.ensures) (moves_inside c.requires))
    (λ c κs. tt)
    (λ c κs. rw c.reads-reads.ensures (read_room c.requires))
    (λ c κs. tt)
    (λ c κs. moves_small c.requires)
    (λ c.
    rw (c.moved.ensures.0, c.moved.ensures.1, c.put_reads.ensures, c.push.ensures, c.reads-reads.ensures)
    (rw (c.read_word-word.ensures, c.place_of-place.ensures, c.total_words-n.ensures, c.pages-d.ensures)
    (sym (left_read c.args.s.now _ c.args.op c.args.k c.args.readable c.requires)))))
