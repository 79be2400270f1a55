use mathlib.Core.Path.{◌≡◌, sym, ◌∙◌}
use native.Mathlib.Omega.{arith}
use Rattle.model.proofs.Rights.{passed_none, passed_more, passed_until, passed_all}
use Rattle.spans.proofs.leading_pages.Goals as goal

pub loop-i-init : goal.loop-i-init
loop-i-init c = passed_none

pub loop-i-preserved : goal.loop-i-preserved
loop-i-preserved c = passed_more (omega arith) c.loop-i.invariant (sym c.page_grants.ensures ∙ c.if-not-page_grants.false)

pub returns-then-not-page_grants : goal.returns-then-not-page_grants
returns-then-not-page_grants c =
    (passed_until (omega arith) c.loop-i.invariant (sym c.page_grants.ensures ∙ c.if-not-page_grants.true), omega arith)

pub returns : goal.returns
returns c =
    let done : c.loop-i.i ≡ c.args.count = omega arith in
    (sym done ∙ passed_all done c.loop-i.invariant, omega arith)
