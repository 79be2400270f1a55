use Rattle.scan_plans.proofs.Writing.{too_short, too_long, too_high, to_unused, no_page, to_page}
use Rattle.std.proofs.Common.{◌≡◌, None, Some, arith}
use Rattle.std.proofs.lemmas.Result.{err_from_is_err_and}
use Rattle.scan_queue.specs.declared.ScanRefusal.TheVariants.{Full}
use Rattle.scan_plans.proofs.for_write.Goals as goal
use Rattle.scan_plans.proofs.for_write.Goals.{then-count-eq0-via-then-count-eq0, then-count-eq0-via-else-count-eq0+then-count-gt-WIDE_MAX_LENGTH}

pub returns-then-count-eq0 : goal.returns-then-count-eq0
returns-then-count-eq0 c =
    elim c.then-count-eq0.branch [
      | then-count-eq0-via-then-count-eq0 w ↦ too_short c.args.image.now c.args.a c.args.b c.args.bytes.now w.if-count-eq0.true
      | then-count-eq0-via-else-count-eq0+then-count-gt-WIDE_MAX_LENGTH w ↦
          too_long c.args.image.now c.args.a c.args.b c.args.bytes.now w.if-count-gt-WIDE_MAX_LENGTH.true
    ]

pub returns-then-seen-ge-MAX_SERIAL : goal.returns-then-seen-ge-MAX_SERIAL
returns-then-seen-ge-MAX_SERIAL c =
    too_high c.args.image.now c.args.a c.args.b c.args.bytes.now c.survey_both-seen.result c.survey_both-seen.ensures c.if-seen-ge-MAX_SERIAL.true

pub returns-in-Some : goal.returns-in-Some
returns-in-Some c =
    to_unused c.args.image.now c.args.a c.args.b c.args.bytes.now c.survey_both-seen.result c.survey_both-seen.ensures
    (omega arith) (omega arith) (omega arith) c.in-Some.place c.in-Some.is c.requires

pub returns-in_err-page : goal.returns-in_err-page
returns-in_err-page c =
    let p = err_from_is_err_and c.from_residual.result c.from_residual.ensures.1 in
    let none : c.page_to_erase.result ≡ None = grind arith in
    let why : c.in_err-page.field-0.0 ≡ Full = grind arith in
    rw (p.1, p.2, why)
    (no_page c.args.image.now c.args.a c.args.b c.args.bytes.now c.survey_both-seen.result c.survey_both-seen.ensures
    (omega arith) (omega arith) (omega arith) c.in_default.is c.page_to_erase.result c.page_to_erase.ensures none)

pub returns : goal.returns
returns c =
    let some : c.page_to_erase.result ≡ Some c.in_ok-page.page = grind arith in
    to_page c.args.image.now c.args.a c.args.b c.args.bytes.now c.survey_both-seen.result c.survey_both-seen.ensures
    (omega arith) (omega arith) (omega arith) c.in_default.is c.page_to_erase.result c.page_to_erase.ensures c.in_ok-page.page some c.requires
