-- The first i pages have the right.
use Rattle.model.specs.Rights.{page_grants}
use Rattle.model.proofs.Rights.{Passed}
use Rattle.registers.specs.Registers.{stands_for}
use Rattle.spans.proofs.leading_pages.Given as goal

abbrev pub invariant-loop-i : goal.invariant-loop-i
invariant-loop-i l = Passed (page_grants (stands_for l.s).setup l.o) l.from.0 l.count l.i
