use Prim.Native.Nat.{ℕ}
use mathlib.Core.Path.{◌≡◌, ap, sym, ◌∙◌}
use native.Mathlib.Omega.{arith}
use lib.ListN.{length}
use Rattle.model.specs.State.{region_off}
use Rattle.model.specs.Rights.{decides}
use Rattle.model.specs.declared.Region.{Region}
use Rattle.model.specs.declared.Decider.TheVariants as by
use Rattle.model.proofs.Rights.{undecided_none, undecided_more, decided, undecided_all}
use Rattle.registers.specs.Registers.{regions_of}
use Rattle.registers.proofs.Listed.{region_at_lem, regions_length}
use Rattle.lookups.proofs.data_ruling.Goals as goal

pub loop-i-init : goal.loop-i-init
loop-i-init c = undecided_none

pub loop-i-preserved : goal.loop-i-preserved
loop-i-preserved c =
    let long = regions_length c.args.s.now in
    let it = region_at_lem c.args.s.now c.loop-i.i region_off (omega arith) ∙ sym c.region-g.ensures in
    undecided_more region_off (omega arith) c.loop-i.invariant (ap (decides c.args.p) it ∙ sym c.decides.ensures ∙ c.if-decides.false)

pub returns-then-decides : goal.returns-then-decides
returns-then-decides c =
    let long = regions_length c.args.s.now in
    let it = region_at_lem c.args.s.now c.loop-i.i region_off (omega arith) ∙ sym c.region-g.ensures in
    ap (λ (g : Region). record { rights = g.rights; decider = by.Region c.loop-i.i }) (sym it)
    ∙ decided region_off (omega arith) c.loop-i.invariant (ap (decides c.args.p) it ∙ sym c.decides.ensures ∙ c.if-decides.true)

pub returns-after-loop-i : goal.returns-after-loop-i
returns-after-loop-i c =
    let long = regions_length c.args.s.now in
    ap (λ (n : ℕ). record { rights = n; decider = by.Default }) c.default_rights.ensures ∙ undecided_all (omega arith) c.loop-i.invariant
