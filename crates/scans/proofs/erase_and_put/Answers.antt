use Rattle.std.proofs.Common.{[], ◌∷◌, ◌∙◌}
use Rattle.scan_plans.specs.Plans.{scan_with}
use Rattle.scans.specs.Jobs.{erase_job, fill_job, zero_job}
use Rattle.scans.proofs.Jobs.{first_cut, first_done}
use Rattle.scans.proofs.erase_and_put.Goals as goal

pub returns-in_err-left : goal.returns-in_err-left
returns-in_err-left c =
    let a = c.args in
    rw c.from_residual.ensures
    (first_cut _ _ _ (erase_job a.d a.q) _ (rw c.operation.ensures at c.run.ensures)
    (fill_job a.d a.q (scan_with a.scan.serial a.scan.bytes.now) ∷ zero_job a.d a.q ∷ []) c.in_err-left.was)

pub returns : goal.returns
returns c =
    let a = c.args in
    c.put.ensures
    ∙ first_done _ _ _ (erase_job a.d a.q) _ (rw c.operation.ensures at c.run.ensures)
    (fill_job a.d a.q (scan_with a.scan.serial a.scan.bytes.now) ∷ zero_job a.d a.q ∷ []) c.in_ok-left.left c.in_ok-left.was
