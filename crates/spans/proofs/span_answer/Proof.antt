-- `spans::span_answer` meets its contract. Assumes nothing.
use Prim.Native.Nat.{◌<◌, ◌≤◌}
use borrow.Author.Tests.{lt-ltb, le-ltb}
use borrow.Author.Rules.{rules}
use Rattle.model.specs.Places.{span_words}
use Rattle.model.specs.Rights.{allowed_words, denied, decider_of}
use Rattle.registers.specs.Registers.{stands_for}
use Rattle.spans.proofs.span_answer.Statement.{statement}
use Rattle.spans.proofs.span_answer.Tie as tie

returns : tie.Need-returns-then-allowed-words
unfolding denied decider_of
returns c =
    let w = c.before.before.before.before in
    let a = w.before.before.args in
    let fewer : allowed_words (stands_for a.s.now).setup a.o < span_words a.o =
    rw (w.before.span_words-words.ensures, w.allowed_words-allowed.ensures) at c.before.before.before.if-allowed-words.true in
    simp (
      c.ruling_at-ruling.ensures,
      c.before.is_information-information.ensures,
      c.before.before.span_address-page.ensures.0,
      w.allowed_words-allowed.ensures,
      lt-ltb _ _ fewer,
      w.before.before.requires.0,
    )

returns_2 : tie.Need-returns
unfolding denied
returns_2 c =
    let a = c.before.before.before.args in
    let all : span_words a.o ≤ allowed_words (stands_for a.s.now).setup a.o =
    rw (c.before.before.span_words-words.ensures, c.before.allowed_words-allowed.ensures) at c.if-allowed-words.false in
    rw (c.before.before.before.requires.0, le-ltb _ _ all)

pub span_answer_spec : {M : Type 1} → statement M
span_answer_spec =
    tie.close (tie.spec
    (λ c κs. tt)
    (λ c κs. search rules)
    (λ c κs. tt)
    (λ c κs. tt)
    (λ c. search rules)
    (λ c κs. tt)
    returns
    returns_2)
