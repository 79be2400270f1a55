-- `places::place_of` meets its contract. Assumes nothing.
use mathlib.Core.Path.{sym, ap, ◌∙◌}
use borrow.Author.Rules.{rules}
use native.Mathlib.Omega.{arith}
use Rattle.model.specs.Places.{place_of}
use Rattle.model.specs.declared.BusWord.{BusWord}
use Rattle.model.proofs.Places.{span_address_fits, bank_words_le}
use Rattle.places.proofs.place_of.Statement.{statement}
use Rattle.places.proofs.place_of.Tie as tie

pub place_of_spec : {M : Type 1} → statement M
unfolding place_of
place_of_spec =
    tie.close (tie.spec
    (λ c κs. tt)
    (λ c κs. tt)
    (λ c κs. tt)
    (λ c κs. search rules)
    (λ c κs. search rules)
    (λ c.
    let t = c.before.before.before.before.before in
    let s = t.before.before.before in
    let bank = sym t.before.is_bank_erase.ensures ∙ t.if-is_bank_erase.true in
    let first = ap (λ (w : BusWord). w.0) c.before.first_word-first.ensures in
    omega (arith, first, c.before.before.data_image_page.ensures.1, bank_words_le s.args.d s.args.o s.requires.1 bank))
    (λ c. simp (
      c.before.first_word-first.ensures,
      c.before.before.data_image_page.ensures.0,
      c.before.before.before.bank_of-bank.ensures.0,
      c.before.before.before.before.page_of.ensures.0,
      sym c.before.before.before.before.before.before.is_bank_erase.ensures ∙ c.before.before.before.before.before.if-is_bank_erase.true,
    ))
    (λ c κs. tt)
    (λ c κs. tt)
    (λ c.
    let t = c.before.before in
    let s = t.before.before.before in
    let span = sym t.before.is_bank_erase.ensures ∙ t.if-is_bank_erase.false in
    omega (arith, c.span_address-at.ensures.0, span_address_fits s.args.d s.args.o s.args.k s.requires.0 s.requires.1 s.requires.2 span s.requires.3))
    (λ c κs. search rules)
    (λ c. simp (
      c.word_at.ensures,
      c.before.span_address-at.ensures.0,
      c.before.before.is_information-information.ensures,
      sym c.before.before.before.before.is_bank_erase.ensures ∙ c.before.before.before.if-is_bank_erase.false,
    )))
