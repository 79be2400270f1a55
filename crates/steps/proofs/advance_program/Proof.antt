-- `steps::advance_program` meets its contract. Assumes nothing.
use mathlib.Core.Path.{sym}
use borrow.Author.Rules.{rules}
use Rattle.steps.proofs.Left.{moves_place, moves_inside, moves_small, program_waits, left_program}
use Rattle.steps.proofs.advance_program.Statement.{statement}
use Rattle.steps.proofs.advance_program.Tie as tie

pub advance_program_spec : {M : Type 1} → statement M
advance_program_spec =
    tie.close (tie.spec
    (λ c κs. tt)
    (λ c κs. tt)
    (λ c κs. rw c.pages-d.ensures (moves_place c.requires))
    (λ c κs. tt)
    (λ c κs. rw c.programs-programs.ensures (program_waits c.requires))
    (λ c κs. rw (c.place_of-place.ensures, c.pages-d.ensures) (moves_inside c.requires))
    (λ c κs. rw c.programs-programs.ensures (program_waits c.requires))
    (λ c κs. tt)
    (λ c κs. moves_small c.requires)
    (λ c. search rules)
    (λ c.
    rw (c.moved.ensures.0, c.moved.ensures.1, c.put_programs.ensures, c.pop.ensures, c.program_word-bits.ensures.0.0)
    (rw (c.program_word-bits.ensures.1, c.oldest-word.ensures, c.programs-programs.ensures)
    (rw (
      c.place_of-place.ensures,
      c.total_words-n.ensures,
      c.pages-d.ensures,
    )
    (sym (left_program c.args.s.now _ c.args.op c.args.k c.requires))))))
