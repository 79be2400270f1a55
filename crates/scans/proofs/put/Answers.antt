use Rattle.std.proofs.Common.{[], ◌∷◌, ◌∙◌}
use Rattle.scan_plans.specs.Plans.{scan_with}
use Rattle.scans.specs.Jobs.{fill_job, zero_job}
use Rattle.scans.proofs.Jobs.{first_cut, first_done}
use Rattle.scans.proofs.put.Goals as goal

pub returns-in_err-left : goal.returns-in_err-left
returns-in_err-left c =
    let a = c.args in
    rw c.from_residual.ensures
    (first_cut _ _ _ (fill_job a.d a.p (scan_with a.scan.serial a.scan.bytes.now)) _
    (rw (c.operation.ensures, c.payload_words-words.ensures) at c.run.ensures) (zero_job a.d a.p ∷ []) c.in_err-left.was)

pub returns : goal.returns
returns c =
    let a = c.args in
    c.zero.ensures
    ∙ first_done _ _ _ (fill_job a.d a.p (scan_with a.scan.serial a.scan.bytes.now)) _
    (rw (c.operation.ensures, c.payload_words-words.ensures) at c.run.ensures) (zero_job a.d a.p ∷ []) c.in_ok-left.left c.in_ok-left.was
