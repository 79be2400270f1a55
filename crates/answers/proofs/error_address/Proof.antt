-- `answers::error_address` meets its contract. Assumes nothing.
use mathlib.Core.Path.{◌≡◌, sym, ◌∙◌}
use mathlib.Core.Bool.{true}
use native.Mathlib.Omega.{arith}
use Rattle.model.specs.Rights.{readable_words}
use Rattle.model.specs.Refusals.{number_of, is_denied_read}
use Rattle.model.specs.Errors.{error_address}
use Rattle.model.proofs.DeniedReads.{denied_read_span, denied_read_address}
use Rattle.answers.proofs.error_address.Statement.{statement}
use Rattle.answers.proofs.error_address.Tie as tie

-- In the branch of a denied read.
told : (c : tie.Then-is_denied_read) → let a = c.before.before.args in is_denied_read a.o (number_of a.answer) ≡ true
told c = sym c.before.is_denied_read.ensures ∙ c.if-is_denied_read.true

pub error_address_spec : {M : Type 1} → statement M
unfolding error_address readable_words
error_address_spec =
    tie.close (tie.spec
    (λ c κs. tt)
    (λ c κs. omega (arith, denied_read_span _ _ c.before.before.requires.answered (told c)))
    (λ c κs. tt)
    (λ c.
    let s = c.before.before.before.before in
    let at = denied_read_address _ _ s.requires.answered (told c.before.before) s.requires.pages.0 s.requires.pages.1 in
    omega (arith, c.before.allowed_words-before.ensures, c.span_address-first_denied.ensures.0))
    (λ c. simp (told c.before.before, c.span_address-first_denied.ensures.0, c.before.allowed_words-before.ensures))
    (λ c. rw (sym c.before.before.is_denied_read.ensures ∙ c.before.if-is_denied_read.false)))
