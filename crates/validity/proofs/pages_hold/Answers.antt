use mathlib.Core.Path.{◌∙◌}
use native.Mathlib.Omega.{arith}
use Rattle.model.proofs.Valid.{tested_none, tested_all}
use Rattle.validity.proofs.Together.{pages_more, pages_stand}
use Rattle.validity.proofs.pages_hold.Goals as goal

pub loop-i-init : goal.loop-i-init
loop-i-init c = tested_none

pub loop-i-preserved : goal.loop-i-preserved
loop-i-preserved c = pages_more c.args.s.now c.loop-i.i c.loop-i.flags c.loop-i.rights (omega arith) c.loop-i.invariant c.page_row-row.ensures

pub returns : goal.returns
returns c = tested_all (omega arith) c.loop-i.invariant ∙ pages_stand c.args.s.now
