use Prim.Native.Nat.{ℕ, ◌*◌}
use mathlib.Core.Path.{ap, ◌∙◌}
use native.Mathlib.Omega.{arith}
use Rattle.model.proofs.Valid.{tested_none, tested_all}
use Rattle.validity.proofs.Together.{regions_more, regions_stand}
use Rattle.validity.proofs.regions_hold.Goals as goal

pub loop-i-init : goal.loop-i-init
loop-i-init c = tested_none

pub loop-i-preserved : goal.loop-i-preserved
loop-i-preserved c = regions_more c.args.s.now c.loop-i.i c.loop-i.flags c.loop-i.rights c.loop-i.ok (omega arith) c.loop-i.invariant (ap (λ (n : ℕ). 2 * n) c.pages.ensures) c.region_row-row.ensures c.region.ensures c.ends_by-ok.ensures

pub returns : goal.returns
returns c = tested_all (omega arith) c.loop-i.invariant ∙ regions_stand c.args.s.now
