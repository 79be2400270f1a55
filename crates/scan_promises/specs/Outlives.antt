-- 'Cut the power between any two steps: the waiting list found after reset, initialising and the same settings is the one before the
-- call or the one after it, in order.' (02, L11)
use Rattle.std.specs.Prelude.{ℕ, suc, ◌≤◌, ◌≡◌, true, ◌⊎◌, List, [], ◌∷◌, ◌++◌, map, length}
use Rattle.model.specs.Geometry.{pages_fit}
use Rattle.model.specs.State.{Flash}
use Rattle.promises.specs.Calls.{Call}
use Rattle.registers.specs.Layout.{register_count}
use Rattle.registers.specs.Registers.{decode}
use Rattle.scan_queue.specs.Payload.{Below, Scan}
use Rattle.scan_queue.specs.Cuts.{Write, Take, list_after}
use Rattle.scan_pages.specs.Pages.{pages_answer}
use Rattle.scans.specs.Scans.{write_in, no_scan, take_in}
use Rattle.scan_promises.specs.PowerCut.{low_word, high_word, listed, takes, handed}
use Rattle.scan_promises.specs.Reboots.{all_settings, powered_on}

-- Before the call: the setup is that of D 10 to 256 and these settings, and refusals 1 to 4 and 16 do not apply. (Which registers were
-- powered on, and on which flash, is the same for the setup: `RebootsOn`.)
pub record Serving (d : ℕ) (ks : List Call) (s : List ℕ) (f : Flash) (a b : ℕ) : Type 0 where
  pub pages : pages_fit d ≡ true
  pub settings : all_settings ks ≡ true
  pub size : length s ≡ register_count
  pub setup : (decode s).setup ≡ (decode (powered_on d ks s f)).setup
  pub serves : pages_answer (decode s) f a b ≡ 0

-- A list is found: takes, as many as it is long and one more, hand out its scans in order, and then 19.
abbrev pub Finds : List ℕ → Flash → ℕ → ℕ → List Scan → Type 0
Finds u g a b l = takes (suc (length l)) u g a b ≡ map handed l ++ (no_scan 19 0 ∷ [])

-- After the call with n steps, and power on: the pages serve, and one of the two lists is found; the one after it if there were steps
-- enough.
pub record FoundAgain (enough n : ℕ) (u : List ℕ) (g : Flash) (a b : ℕ) (before after : List Scan) : Type 0 where
  pub serves : pages_answer (decode u) g a b ≡ 0
  pub finds : Finds u g a b before ⊎ Finds u g a b after
  pub done : enough ≤ n → Finds u g a b after

-- Whatever the cut left in the registers, t.
pub record Outlives : Type 0 where
  pub writes : (d : ℕ) (ks : List Call) (s : List ℕ) (f : Flash) (a b : ℕ) → Serving d ks s f a b
      → (n : ℕ) (bytes t : List ℕ) → Below 256 bytes → length t ≡ register_count
      → FoundAgain 271 n (powered_on d ks t (write_in n s f a b bytes).flash) (write_in n s f a b bytes).flash a b
      (listed s f a b) (list_after f.words (low_word s a b) (high_word s a b) (Write bytes))
  pub takes : (d : ℕ) (ks : List Call) (s : List ℕ) (f : Flash) (a b : ℕ) → Serving d ks s f a b
      → (n : ℕ) (t : List ℕ) → length t ≡ register_count
      → FoundAgain 1 n (powered_on d ks t (take_in n s f a b).flash) (take_in n s f a b).flash a b
      (listed s f a b) (list_after f.words (low_word s a b) (high_word s a b) Take)
