use Rattle.std.proofs.Common.{arith}
use Rattle.sheets.proofs.Loading.{loading_none, loading_more, loading_all}
use Rattle.sheet_entries.proofs.load.Goals as goal

pub loop-word-init : goal.loop-word-init
loop-word-init c = loading_none

pub loop-word-preserved : goal.loop-word-preserved
loop-word-preserved c = loading_more c.loop-word.invariant c.then_number-last.ensures c.value_of.ensures

pub returns : goal.returns
returns c = loading_all (omega arith) c.loop-word.invariant
