-- `answers::program_fits` meets its contract. Assumes nothing.
use mathlib.Core.Path.{◌≡◌, refl, sym, ◌∙◌}
use mathlib.Core.Bool.{true, false, ◌&&◌}
use lib.ListN.{get_or}
use Rattle.model.specs.Kinds.{is_program}
use Rattle.model.specs.Checks.{malformed, out_of_range, operation_answer}
use Rattle.model.specs.declared.Refusal.TheVariants.{Malformed}
use Rattle.model.proofs.Answers.{check_passed}
use Rattle.model.proofs.Bool.{and_left, and_right}
use Rattle.registers.specs.Layout.{pages_at}
use Rattle.registers.specs.Registers.{stands_for}
use Rattle.spans.proofs.OnePage.{program_denied}
use Rattle.answers.proofs.Programs.{form_refused, by_grant}
use Rattle.answers.proofs.program_fits.Statement.{statement}
use Rattle.answers.proofs.program_fits.Tie as tie

-- What passed the first test is a program, and well formed.
asked : (d : tie.After-accepts-formed) → (d.before.before.is_program-program.result && d.accepts-formed.result) ≡ true →
    let o = d.before.before.before.args.o in
    (is_program o ≡ true) × (malformed o ≡ false)
asked d h =
    let p = d.before.before.is_program-program in
    let f = d.accepts-formed in
    (sym p.ensures ∙ and_left p.result f.result h, check_passed _ Malformed (rw d.before.form_answer.ensures at (sym f.ensures ∙ and_right p.result f.result h)))

-- What the test for its range answered.
outside : (d : tie.After-out_of_range) →
    let a = d.before.before.before.before.before.before.args in
    d.out_of_range.result ≡ out_of_range (get_or a.s.now pages_at 0) a.o
outside d = rw d.before.pages.ensures at d.out_of_range.ensures

returns : tie.Need-returns-then-not-program-formed
returns c =
    let f = c.before in
    let p = f.before.before.is_program-program in
    form_refused _ f.before.before.before.args.o
    (rw (p.ensures, f.accepts-formed.ensures, f.before.form_answer.ensures) at c.if-not-program-formed.true)

returns_2 : tie.Need-returns-then-out_of_range
unfolding operation_answer stands_for
returns_2 c =
    let r = c.before in
    let k = asked r.before.before.before r.before.before.if-not-program-formed.false in
    rw (k.0, k.1, sym (outside r) ∙ c.if-out_of_range.true)

returns_3 : tie.Need-returns-then-crosses_window
unfolding operation_answer stands_for
returns_3 c =
    let w = c.before in
    let r = w.before.before in
    let k = asked r.before.before.before r.before.before.if-not-program-formed.false in
    rw (k.0, k.1, sym (outside r) ∙ w.before.if-out_of_range.false, sym w.crosses_window.ensures ∙ c.if-crosses_window.true)

returns_4 : tie.Need-returns
unfolding operation_answer stands_for
returns_4 c =
    let w = c.before.before.before.before in
    let r = w.before.before in
    let k = asked r.before.before.before r.before.before.if-not-program-formed.false in
    let one = sym w.crosses_window.ensures ∙ c.if-crosses_window.false in
    let g = rw c.page_of.ensures.0 at c.page_grants.ensures in
    rw (k.0, k.1, sym (outside r) ∙ w.before.if-out_of_range.false, one, program_denied _ k.0 k.1 one _) (g ∙ by_grant _ _)

pub program_fits_spec : {M : Type 1} → statement M
program_fits_spec =
    tie.close (tie.spec
    (λ c κs. tt)
    (λ c κs. tt)
    (λ c κs. tt)
    returns
    (λ c κs. tt)
    (λ c κs. tt)
    returns_2
    (λ c κs. let r = c.before in (asked r.before.before.before r.before.before.if-not-program-formed.false).1)
    returns_3
    (λ c κs. tt)
    (λ c κs. tt)
    returns_4)
