use Rattle.scan_plans.proofs.Writing.{waits_by}
use Rattle.scan_plans.proofs.none_waits.Goals as goal

pub returns : goal.returns
returns c = waits_by c.args.image.now _ c.survey_page.result c.none.result c.is_none.result c.survey_page.ensures c.none.ensures c.is_none.ensures
