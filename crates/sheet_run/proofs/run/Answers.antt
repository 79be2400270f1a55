use Rattle.std.proofs.Common.{◌≡◌, sym, ◌∙◌, ◌<◌, arith, get_or-take}
use Rattle.model.specs.State.{flash}
use Rattle.expansions.proofs.Goods.{good_room}
use Rattle.sheet_effects.proofs.Running.{running_none, running_more, runs_few, runs_there, run_good, run_bad}
use Rattle.sheet_run.proofs.Placed.{runs_at, front_long}
use Rattle.sheet_run.proofs.run.Goals as goal

pub expand-requires : goal.expand-requires
expand-requires c = good_room _ _ (sym c.in-Ok.is ∙ c.judge-verdict.ensures)

pub slice_bounds-places-end : goal.slice_bounds-places-end
slice_bounds-places-end c =
    let few = runs_few _ _ (sym c.in-Ok.is ∙ c.judge-verdict.ensures) in
    let long = c.expand.array_long in
    omega arith

pub slice_bounds-place-items-end : goal.slice_bounds-place-items-end
slice_bounds-place-items-end c = sym (front_long _ _ (sym c.in-Ok.is ∙ c.judge-verdict.ensures) _ c.expand.array_long)

pub loop-place-init : goal.loop-place-init
loop-place-init c = running_none

pub loop-place-preserved : goal.loop-place-preserved
loop-place-preserved c =
    let good = sym c.in-Ok.is ∙ c.judge-verdict.ensures in
    let i = c.loop-place.place-index in
    let h : i < c.in-Ok.count = rw (front_long _ _ good c.expand.new.places c.expand.array_long) at c.loop-place-test.true in
    let at = get_or-take c.in-Ok.count c.expand.new.places i 0 h ∙ runs_at _ _ good c.expand.ensures i h in
    running_more (runs_there _ _ good i h) c.loop-place.invariant c.perform-line.result (rw at at c.perform-line.ensures) c.write-n.ensures.0 c.write-n.ensures.1

pub returns-in-Err : goal.returns-in-Err
returns-in-Err c =
    rw c.in-Err.is (run_bad c.args.sheet.now c.args.s.now (flash c.args.image.now) c.args.row.now _ (sym c.in-Err.is ∙ c.judge-verdict.ensures))

pub returns-after-loop-place : goal.returns-after-loop-place
returns-after-loop-place c =
    let good = sym c.in-Ok.is ∙ c.judge-verdict.ensures in
    let all = front_long _ _ good c.expand.new.places c.expand.array_long in
    let e : c.loop-place.place-index ≡ c.in-Ok.count = omega arith in
    run_good _ _ good e c.loop-place.invariant
