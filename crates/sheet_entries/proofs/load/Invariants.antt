-- The first words are there.
use Rattle.sheets.proofs.Loading.{Loading}
use Rattle.sheet_entries.proofs.load.Given as goal

abbrev pub invariant-loop-word : goal.invariant-loop-word
invariant-loop-word l = Loading l.s l.initial.words l.at l.word-index l.last l.words
