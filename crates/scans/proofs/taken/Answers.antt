use Rattle.std.proofs.Common.{◌≡◌, None, Some, refl, ap, ◌∙◌, arith}
use Rattle.std.proofs.lemmas.Result.{err_from_is_err_and}
use Rattle.model.specs.State.{flash}
use Rattle.scan_queue.specs.declared.ScanRefusal.TheVariants.{NoScan}
use Rattle.scan_queue.specs.Decisions.{refusal_number}
use Rattle.scan_queue.specs.Payload.{Scan}
use Rattle.scans.specs.Scans.{scan_told}
use Rattle.scans.proofs.HandedOut.{hands, nothing_waits}
use Rattle.scans.proofs.Passed.{image_short, both_pages, take_none, take_goes, take_refused}
use Rattle.scans.proofs.taken.Goals as goal

pub returns-in_err-pages_answer : goal.returns-in_err-pages_answer
returns-in_err-pages_answer c =
    let a = c.args in
    let p = err_from_is_err_and c.from_residual.result c.from_residual.ensures.1 in
    rw (p.1, p.2)
    (take_refused a.s.now (flash a.image.now) a.a a.b (refusal_number c.in_err-pages_answer.field-0.0) c.in_err-pages_answer.ensures.told a.steps c.in_err-pages_answer.ensures.refused)

pub for_take-requires : goal.for_take-requires
for_take-requires c =
    let a = c.args in
    rw (c.page_word-high.ensures, c.higher.ensures, c.page_word-low.ensures, c.lower.ensures, c.pages-d.ensures)
    (both_pages a.s.now (flash a.image.now) a.a a.b 0 c.in_ok-pages_answer.ensures.told refl)

pub returns-in_err-plan : goal.returns-in_err-plan
returns-in_err-plan c =
    let a = c.args in
    let p = err_from_is_err_and c.from_residual-in_err-plan.result c.from_residual-in_err-plan.ensures.1 in
    let none : c.for_take.result ≡ None = grind arith in
    let why : c.in_err-plan.field-0.0 ≡ NoScan = grind arith in
    rw (p.1, p.2, why)
    (take_none a.s.now (flash a.image.now) a.a a.b 0 c.in_ok-pages_answer.ensures.told refl a.steps _ refl
    (nothing_waits a.image.now _ (rw (none, c.page_word-high.ensures, c.higher.ensures, c.page_word-low.ensures, c.lower.ensures, c.pages-d.ensures) at c.for_take.ensures)))

pub hand_out-requires : goal.hand_out-requires
hand_out-requires c =
    let a = c.args in
    let some : c.for_take.result ≡ Some c.in_ok-plan.plan = grind arith in
    let h = hands a.image.now c.in_ok-plan.plan _ (rw some at c.for_take.ensures) in
    (h.out.inside, image_short a.s.now (flash a.image.now) a.a a.b 0 c.in_ok-pages_answer.ensures.told refl, h.out.fits, h.out.lies)

pub returns : goal.returns
returns c =
    let a = c.args in
    let some : c.for_take.result ≡ Some c.in_ok-plan.plan = grind arith in
    let h = hands a.image.now c.in_ok-plan.plan _
    (rw (some, c.page_word-high.ensures, c.higher.ensures, c.page_word-low.ensures, c.lower.ensures, c.pages-d.ensures) at c.for_take.ensures) in
    c.hand_out.ensures
    ∙ take_goes a.s.now (flash a.image.now) a.a a.b 0 c.in_ok-pages_answer.ensures.told refl a.steps h.entry h.others h.is _ c.in_ok-plan.plan.place c.pages-d.ensures h.out.place _
    (ap (λ (x : Scan). scan_told x.serial x.bytes) h.out.scan)
