-- What a scan call asks of the controller: whole operations, by their calls, for as many steps as there are. (02, L11)
use Rattle.std.specs.Prelude.{ℕ, ◌+◌, cond, List, [], ◌∷◌, Option, None, Some}
use Rattle.model.specs.State.{Flash}
use Rattle.model.specs.declared.Operation.{Operation}
use Rattle.registers.specs.Registers.{is_on}
use Rattle.calls.specs.Calls.{LeftFlash, LeftBuffer}
use Rattle.driving.specs.declared.Driven.{Driven}
use Rattle.driving.specs.Drives.{driven_in}
use Rattle.scan_queue.specs.Payload.{Scan, words_of, written}
use Rattle.scan_queue.specs.Decisions.{Decision, Refused, Puts, Erases, Marks}
use Rattle.scan_pages.specs.Pages.{word_address}

-- A whole operation, with the words that it is lent.
pub record Job : Type 0 where
  pub operation : Operation
  pub words : List ℕ

-- The page that holds a word is erased. (It is lent a buffer that it does not use.)
abbrev pub erase_job : ℕ → ℕ → Job
erase_job d w = record {
  operation = record { kind = 2; partition = 0; info = 0; address = record { 0 = word_address d w }; count = 0 };
  words = 0 ∷ [];
}

-- These words are programmed from a word on.
abbrev pub program_job : ℕ → ℕ → ℕ → List ℕ → Job
program_job d w n ws = record {
  operation = record { kind = 1; partition = 0; info = 0; address = record { 0 = word_address d w }; count = n };
  words = ws;
}

-- 'Writing programs words 2 to 15 in order, then the seal as 0'; taking 'programs its mark as 0'.
abbrev pub fill_job : ℕ → ℕ → Scan → Job
fill_job d p s = program_job d (p + 2) 14 (words_of (written s))

abbrev pub zero_job : ℕ → ℕ → Job
zero_job d w = program_job d w 1 (0 ∷ [])

unfoldable pub jobs : ℕ → Decision → List Job
jobs d (Refused k) = []
jobs d (Puts p s) = fill_job d p s ∷ zero_job d p ∷ []
jobs d (Erases q s) = erase_job d q ∷ fill_job d q s ∷ zero_job d q ∷ []
jobs d (Marks p) = zero_job d (p + 1) ∷ []

-- The power was cut in it: no steps are left to tell.
abbrev pub stopped : LeftBuffer Driven → LeftFlash (Option ℕ)
stopped l = record { told = None; registers = l.registers; flash = l.flash }

-- One after the other, each with the steps that those before left. Where the power is cut no other begins. The steps that are left
-- in the end, `None` where it was cut.
unfoldable pub jobs_in : ℕ → List ℕ → Flash → List Job → LeftFlash (Option ℕ)
jobs_in steps s f [] = record { told = Some steps; registers = s; flash = f }
jobs_in steps s f (j ∷ js) =
    cond (is_on (driven_in steps s f j.operation j.words).told.cut)
    (stopped (driven_in steps s f j.operation j.words))
    (jobs_in (driven_in steps s f j.operation j.words).told.left
    (driven_in steps s f j.operation j.words).registers
    (driven_in steps s f j.operation j.words).flash js)
