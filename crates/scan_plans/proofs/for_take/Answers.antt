use Rattle.scan_plans.proofs.Handing.{nothing_waits, oldest_inside, never, found_taken}
use Rattle.scan_plans.proofs.for_take.Goals as goal

pub returns-in_err-place : goal.returns-in_err-place
returns-in_err-place c =
    rw c.from_residual.ensures (nothing_waits c.args.image.now c.args.a c.args.b c.requires c.survey_both.result c.survey_both.ensures c.in_err-place.was)

pub payload_at-requires : goal.payload_at-requires
payload_at-requires c =
    oldest_inside c.args.image.now c.args.a c.args.b c.requires c.survey_both.result c.survey_both.ensures c.in_ok-place.field-0 c.in_ok-place.was

pub returns-in_err-found : goal.returns-in_err-found
returns-in_err-found c =
    absurd (never c.args.image.now c.args.a c.args.b c.requires c.survey_both.result c.survey_both.ensures c.in_ok-place.field-0 c.in_ok-place.was c.in_err-found.ensures)

pub returns : goal.returns
returns c =
    found_taken c.args.image.now c.args.a c.args.b c.requires c.survey_both.result c.survey_both.ensures c.in_ok-place.field-0 c.in_ok-place.was
    c.in_ok-found.found c.in_ok-found.ensures
