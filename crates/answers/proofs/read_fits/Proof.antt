-- `answers::read_fits` meets its contract. Assumes nothing.
use mathlib.Core.Path.{◌≡◌, sym, ◌∙◌}
use mathlib.Core.Bool.{Bool, true, false, ◌&&◌, ◌||◌, not}
use native.Mathlib.Omega.{arith}
use borrow.Author.Tests.{eqb-true, not-true}
use Rattle.model.specs.Kinds.{is_read}
use Rattle.model.specs.Rights.{readable_words}
use Rattle.model.specs.Refusals.{accepts, is_denied}
use Rattle.model.specs.Checks.{malformed, out_of_range, operation_answer}
use Rattle.model.specs.declared.Operation.{Operation}
use Rattle.model.specs.declared.Setup.{Setup}
use Rattle.model.proofs.Bool.{and_left, and_right, by_test}
use Rattle.model.proofs.Checks.{span_words_le, formed}
use Rattle.model.proofs.DeniedReads.{read_asked}
use Rattle.registers.specs.Registers.{stands_for}
use Rattle.answers.proofs.read_fits.Statement.{statement}
use Rattle.answers.proofs.read_fits.Tie as tie

-- A read that passes 5 and 7.
abbrev Asked : Setup → Operation → Bool
Asked s o = is_read o && (not (malformed o) && not (out_of_range s.pages o))

module _ (s : Setup) (o : Operation) (e : Bool) where
  unasked : Asked s o ≡ false → false ≡ (is_read o && ((accepts (operation_answer s o) || is_denied (operation_answer s o)) && e))
  unasked h = by_test (is_read o) (λ r. rw (r, read_asked s o r, rw r at h)) (λ r. rw r)

  asked : Asked s o ≡ true → e ≡ (is_read o && ((accepts (operation_answer s o) || is_denied (operation_answer s o)) && e))
  asked h = let r : is_read o ≡ true = and_left (is_read o) _ h in rw (r, read_asked s o r, and_right (is_read o) _ h)

-- What the code tests.
tested : (c : tie.After-out_of_range-outside) → let a = c.before.before.before.before.before.args in
    (c.before.before.before.before.is_read-read.result && (c.before.before.accepts-formed.result && not c.out_of_range-outside.result))
    ≡ Asked (stands_for a.s.now).setup a.o
unfolding stands_for
tested c =
    let f = c.before.before in
    rw (c.out_of_range-outside.ensures, c.before.pages.ensures, f.accepts-formed.ensures, f.before.form_answer.ensures, f.before.before.is_read-read.ensures, formed)

passed : (c : tie.Else-not-read-formed) → let a = c.before.before.before.before.before.before.args in Asked (stands_for a.s.now).setup a.o ≡ true
passed c = sym (tested c.before) ∙ c.if-not-read-formed.false

pub read_fits_spec : {M : Type 1} → statement M
unfolding readable_words
read_fits_spec =
    tie.close (tie.spec
    (λ c κs. tt)
    (λ c κs. tt)
    (λ c κs. tt)
    (λ c κs. tt)
    (λ c κs. tt)
    (λ c.
    let a = c.before.before.before.before.before.before.args in
    unasked (stands_for a.s.now).setup a.o _ (sym (tested c.before) ∙ c.if-not-read-formed.true))
    (λ c κs.
    let o = c.before.before.before.before.before.before.args.o in
    let r = eqb-true o.kind 0 (and_left (is_read o) _ (passed c)) in
    let m = not-true (malformed o) (and_left (not (malformed o)) _ (and_right (is_read o) _ (passed c))) in
    omega (arith, span_words_le o m (rw r)))
    (λ c.
    let a = c.before.before.before.before.before.before.before.args in
    rw c.allowed_words.ensures (asked (stands_for a.s.now).setup a.o _ (passed c.before))))
