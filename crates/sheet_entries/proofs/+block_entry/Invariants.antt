-- The bytes left fall at each call.
use Rattle.std.proofs.Common.{◌-◌, length}
use Rattle.sheet_entries.proofs.+block_entry.Given as goal

abbrev pub decreases-block : goal.decreases-block
decreases-block l = length l.s.now - l.at

abbrev pub decreases-entry : goal.decreases-entry
decreases-entry l = length l.s.now - l.next
