use Rattle.registers.specs.Registers.{stands_for}
use Rattle.scan_pages.specs.Pages.{pages_serve}
use Rattle.scan_pages.proofs.serve.Goals as goal

pub returns : goal.returns
unfolding pages_serve stands_for
returns c = simp (c.allows.ensures, c.allows-2.ensures, c.from.ensures, c.from-2.ensures, c.from-pages.ensures, c.pages.ensures)
