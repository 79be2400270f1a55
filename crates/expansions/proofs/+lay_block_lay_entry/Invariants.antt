-- The bytes left fall at each call.
use Rattle.std.proofs.Common.{◌+◌, ◌-◌, length}
use Rattle.sheets.specs.Sheet.{block_at}
use Rattle.expansions.proofs.Turns.{Turning}
use Rattle.expansions.proofs.+lay_block_lay_entry.Given as goal

abbrev pub decreases-lay_block : goal.decreases-lay_block
decreases-lay_block l = length l.s.now - l.at

abbrev pub decreases-lay_entry : goal.decreases-lay_entry
decreases-lay_entry l = length l.s.now - l.next

-- The first turns after one are laid.
abbrev pub invariant-lay_entry-loop-again : goal.invariant-lay_entry-loop-again
invariant-lay_entry-loop-again l = Turning (block_at l.s l.inner (l.depth + 1)) l.further l.initial.count l.initial.places l.again l.places l.count

abbrev pub decreases-lay_entry-loop-again : goal.decreases-lay_entry-loop-again
decreases-lay_entry-loop-again l = l.further - l.again
