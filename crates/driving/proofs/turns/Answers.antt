use mathlib.Core.Path.{◌∙◌}
use native.Mathlib.Omega.{arith}
use Rattle.driving.proofs.Turning.{turns_none, turns_more, turns_end, next_room}
use Rattle.driving.proofs.turns.Goals as goal

pub loop-k-init : goal.loop-k-init
loop-k-init c = (omega arith, turns_none _ _)

pub turn-bits-requires : goal.turn-bits-requires
turn-bits-requires c =
    (next_room c.loop-k.k _ c.requires.0 c.loop-k.auto.buffer (omega arith), omega (arith, c.requires.1, c.loop-k.invariant.0))

pub loop-k-preserved : goal.loop-k-preserved
loop-k-preserved c =
    (omega (arith, c.turn-bits.ensures.1, c.loop-k.invariant.0), turns_more _ _ _ _ _ c.loop-k.invariant.1 c.turn-bits.ensures.0)

pub returns : goal.returns
returns c = turns_end _ _ _ _ _ c.loop-k.invariant.1 (omega arith)
