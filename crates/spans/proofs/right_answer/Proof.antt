-- `spans::right_answer` meets its contract. Assumes nothing.
use Prim.Native.Nat.{◌≤◌}
use mathlib.Core.Path.{◌≡◌, sym, ap, ◌∙◌}
use mathlib.Core.Bool.{false}
use native.Mathlib.Omega.{arith}
use Rattle.model.specs.Kinds.{is_bank_erase}
use Rattle.model.specs.Places.{span_words}
use Rattle.model.specs.declared.ByteAddress.{ByteAddress}
use Rattle.model.proofs.Checks.{span_words_bound}
use Rattle.spans.proofs.right_answer.Statement.{statement}
use Rattle.spans.proofs.right_answer.Tie as tie

-- What is left is the span of a read, a program or a page erase, with some words and not too many.
span : (d : tie.Else-is_bank_erase) → is_bank_erase d.before.before.args.o ≡ false
span d = sym d.before.is_bank_erase.ensures ∙ d.if-is_bank_erase.false

few : (d : tie.Else-is_bank_erase) → let o = d.before.before.args.o in (1 ≤ span_words o) × (span_words o ≤ 1024)
few d = span_words_bound _ d.before.before.requires (span d)

pub right_answer_spec : {M : Type 1} → statement M
right_answer_spec =
    tie.close (tie.spec
    (λ c κs. tt)
    (λ c κs. sym c.before.is_bank_erase.ensures ∙ c.if-is_bank_erase.true)
    (λ c. c.bank_answer.ensures)
    (λ c κs. tt)
    (λ c κs. tt)
    (λ c. omega (arith, c.span_words.ensures, few c.before.before.before))
    (λ c. omega (arith, c.span_words.ensures, few c.before.before.before))
    (λ c κs.
    let w = c.before in
    let d = w.before.before.before in
    let start = ap (λ (a : ByteAddress). a.0) w.before.before.span_start-start.ensures in
    record { span = span d; some = (few d).0; inside = omega (arith, start, w.span_words.ensures, c.if-start-span_words-le-PAGE_BYTES.true) })
    (λ c. c.page_answer.ensures)
    (λ c κs. let d = c.before.before.before.before in (span d, omega (arith, few d)))
    (λ c. c.span_answer.ensures))
