-- The slots from the j-th on are seen.
use Rattle.std.proofs.Common.{◌≡◌, drop}
use Rattle.scan_queue.specs.Slots.{slots_from}
use Rattle.survey.specs.Survey.{surveyed}
use Rattle.survey.proofs.survey_page.Given as goal

abbrev pub invariant-loop-j : goal.invariant-loop-j
invariant-loop-j l = l.t ≡ surveyed l.image (drop l.j (slots_from 16 l.q)) l.fn.s
