-- Fewer groups are left at each call.
use Rattle.numbers.proofs.+groups_value.Given as goal

abbrev pub decreases-groups_value : goal.decreases-groups_value
decreases-groups_value l = l.k
