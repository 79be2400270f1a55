-- 'None changes anything': a scan call whose answer is not 0 leaves every register and word, is not cut, and a take hands out zeros.
-- (02, L11)
use Rattle.std.specs.Prelude.{ℕ, ◌≡◌, List}
use Rattle.model.specs.State.{Flash}
use Rattle.scans.specs.Scans.{write_refused, write_in, no_scan, take_in}

-- Whatever registers, flash, pages and bytes are, with any number of steps.
pub record Refusals : Type 0 where
  pub writes : (n : ℕ) (s : List ℕ) (f : Flash) (a b : ℕ) (bytes : List ℕ) → ((write_in n s f a b bytes).told.answer ≡ 0 → ⊥)
      → write_in n s f a b bytes ≡ write_refused (write_in n s f a b bytes).told.answer s f
  pub takes : (n : ℕ) (s : List ℕ) (f : Flash) (a b : ℕ) → ((take_in n s f a b).told.answer ≡ 0 → ⊥)
      → take_in n s f a b ≡ record { told = no_scan (take_in n s f a b).told.answer 0; registers = s; flash = f }
