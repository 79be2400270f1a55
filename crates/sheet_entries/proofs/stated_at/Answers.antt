use Rattle.std.proofs.Common.{arith}
use Rattle.std.proofs.lemmas.Grind.{common_steps}
use Rattle.sheets.specs.Sheet.{stated_at, operation_at, kind_at, partition_at, type_at, address_at, count_at}
use Rattle.sheet_entries.proofs.stated_at.Goals as goal

pub returns : goal.returns
unfolding stated_at operation_at kind_at partition_at type_at address_at count_at
returns c = grind (arith, common_steps)
