-- `answers::readable` meets its contract. Assumes nothing.
use mathlib.Core.Path.{◌≡◌, sym, ◌∙◌}
use mathlib.Core.Bool.{true}
use native.Mathlib.Omega.{arith}
use Rattle.model.specs.Rights.{readable_words}
use Rattle.model.specs.Refusals.{number_of, is_denied_read}
use Rattle.model.proofs.DeniedReads.{denied_read_span}
use Rattle.answers.proofs.readable.Statement.{statement}
use Rattle.answers.proofs.readable.Tie as tie

pub readable_spec : {M : Type 1} → statement M
unfolding readable_words
readable_spec =
    tie.close (tie.spec
    (λ c κs. tt)
    (λ c κs.
    let d : is_denied_read c.before.before.args.o (number_of c.before.before.args.answer) ≡ true = sym c.before.is_denied_read.ensures ∙ c.if-is_denied_read.true in
    omega (arith, denied_read_span _ _ c.before.before.requires d))
    (λ c. rw (sym c.before.before.is_denied_read.ensures ∙ c.before.if-is_denied_read.true) c.allowed_words.ensures)
    (λ c. rw (sym c.before.is_denied_read.ensures ∙ c.if-is_denied_read.false)))
