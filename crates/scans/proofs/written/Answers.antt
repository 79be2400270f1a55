use Rattle.std.proofs.Common.{◌≡◌, ℕ, List, Ok, refl, ap, ◌∙◌}
use Rattle.std.proofs.lemmas.Result.{err_from_is_err_and}
use Rattle.model.specs.State.{flash}
use Rattle.scan_queue.specs.Decisions.{refusal_number, refusal_of}
use Rattle.scan_plans.specs.declared.WritePlan.{WritePlan}
use Rattle.scan_plans.specs.declared.WritePlan.TheVariants.{Puts, Erases}
use Rattle.scan_plans.specs.Plans.{decision_of}
use Rattle.scans.specs.Jobs.{jobs, jobs_in}
use Rattle.scans.specs.Scans.{write_told}
use Rattle.scans.proofs.Passed.{image_short, both_pages, write_goes, write_refused_lem}
use Rattle.scans.proofs.written.Goals as goal

accepted : (bytes : List ℕ) (plan : WritePlan) → refusal_of (decision_of bytes (Ok plan)) ≡ 0
accepted bytes (Puts p serial) = refl
accepted bytes (Erases q serial) = refl

pub returns-in_err-pages_answer : goal.returns-in_err-pages_answer
returns-in_err-pages_answer c =
    let a = c.args in
    let p = err_from_is_err_and c.from_residual.result c.from_residual.ensures.1 in
    rw (p.1, p.2)
    (write_refused_lem a.s.now (flash a.image.now) a.a a.b (refusal_number c.in_err-pages_answer.field-0.0) c.in_err-pages_answer.ensures.told a.steps c.in_err-pages_answer.ensures.refused a.bytes.now)

pub for_write-requires : goal.for_write-requires
for_write-requires c =
    let a = c.args in
    rw (c.page_word-high.ensures, c.higher.ensures, c.page_word-low.ensures, c.lower.ensures, c.pages-d.ensures)
    (both_pages a.s.now (flash a.image.now) a.a a.b 0 c.in_ok-pages_answer.ensures.told refl)

pub returns-in_err-plan : goal.returns-in_err-plan
unfolding jobs jobs_in
returns-in_err-plan c =
    let a = c.args in
    let p = err_from_is_err_and c.from_residual-in_err-plan.result c.from_residual-in_err-plan.ensures.1 in
    rw (p.1, p.2)
    (write_goes a.s.now (flash a.image.now) a.a a.b 0 c.in_ok-pages_answer.ensures.told refl a.steps a.bytes.now _
    (rw (c.page_word-high.ensures, c.higher.ensures, c.page_word-low.ensures, c.lower.ensures, c.pages-d.ensures) at c.in_err-plan.ensures.is) _ c.pages-d.ensures)

pub done-requires : goal.done-requires
done-requires c =
    let a = c.args in
    (c.in_ok-plan.ensures.inside, image_short a.s.now (flash a.image.now) a.a a.b 0 c.in_ok-pages_answer.ensures.told refl)

pub returns : goal.returns
returns c =
    let a = c.args in
    ap (write_told 0) c.done.ensures
    ∙ (rw (accepted a.bytes.now c.in_ok-plan.plan) at
    (write_goes a.s.now (flash a.image.now) a.a a.b 0 c.in_ok-pages_answer.ensures.told refl a.steps a.bytes.now _
    (rw (c.page_word-high.ensures, c.higher.ensures, c.page_word-low.ensures, c.lower.ensures, c.pages-d.ensures) at c.in_ok-plan.ensures.is) _ c.pages-d.ensures))
