-- 'Cut the power between any two steps: the waiting list found .. is the one before the call or the one after it, in order.'
-- (02, L11)
use Rattle.std.specs.Prelude.{ℕ, zero, suc, ◌≤◌, ◌≡◌, ◌⊎◌, List, [], ◌∷◌, ◌++◌, map, length, true}
use Rattle.model.specs.State.{Flash}
use Rattle.model.specs.Refusals.{accepts}
use Rattle.model.specs.Whole.{whole_answer}
use Rattle.registers.specs.Layout.{register_count}
use Rattle.registers.specs.Registers.{setup_of, decode}
use Rattle.scan_queue.specs.Payload.{Below, Scan}
use Rattle.scan_queue.specs.Slots.{places, waiting_list}
use Rattle.scan_queue.specs.Cuts.{Write, Take, list_after}
use Rattle.scan_pages.specs.Pages.{page_word, lower, higher, pages_answer}
use Rattle.scans.specs.declared.ToldScan.{ToldScan}
use Rattle.scans.specs.Scans.{write_in, no_scan, scan_told, take_in}

-- The waiting list in two pages.
abbrev pub low_word : List ℕ → ℕ → ℕ → ℕ
low_word s a b = page_word (setup_of s).pages (lower a b)

abbrev pub high_word : List ℕ → ℕ → ℕ → ℕ
high_word s a b = page_word (setup_of s).pages (higher a b)

abbrev pub listed : List ℕ → Flash → ℕ → ℕ → List Scan
listed s f a b = waiting_list f.words (places (low_word s a b) (high_word s a b))

-- Of a write of any bytes, with any number of steps: the list before, or that list with the new scan at its end (the list before if
-- the write is refused with 17 or 18). With a step for each word it is the latter.
pub record WriteCut (n : ℕ) (s : List ℕ) (f : Flash) (a b : ℕ) (bytes : List ℕ) : Type 0 where
  pub cut : (listed s (write_in n s f a b bytes).flash a b ≡ listed s f a b)
      ⊎ (listed s (write_in n s f a b bytes).flash a b ≡ list_after f.words (low_word s a b) (high_word s a b) (Write bytes))
  pub done : 271 ≤ n → listed s (write_in n s f a b bytes).flash a b ≡ list_after f.words (low_word s a b) (high_word s a b) (Write bytes)

-- Of a take: the list before, or that list without its first.
pub record TakeCut (n : ℕ) (s : List ℕ) (f : Flash) (a b : ℕ) : Type 0 where
  pub cut : (listed s (take_in n s f a b).flash a b ≡ listed s f a b)
      ⊎ (listed s (take_in n s f a b).flash a b ≡ list_after f.words (low_word s a b) (high_word s a b) Take)
  pub done : 1 ≤ n → listed s (take_in n s f a b).flash a b ≡ list_after f.words (low_word s a b) (high_word s a b) Take

-- Whatever registers, flash and pages are, past refusals 1 to 4 and 16.
pub record PowerCut : Type 0 where
  pub writes : (n : ℕ) (s : List ℕ) (f : Flash) (a b : ℕ) (bytes : List ℕ) → length s ≡ register_count → Below 256 bytes
      → pages_answer (decode s) f a b ≡ 0 → WriteCut n s f a b bytes
  pub takes : (n : ℕ) (s : List ℕ) (f : Flash) (a b : ℕ) → length s ≡ register_count → pages_answer (decode s) f a b ≡ 0 → TakeCut n s f a b

-- ---- what is found: a take hands out the first of the list; then the next take finds the rest

pub record TakeGives (s : List ℕ) (f : Flash) (a b : ℕ) : Type 0 where
  -- If none waits it is refused with 19 and leaves everything;
  pub none : listed s f a b ≡ [] → take_in 1 s f a b ≡ record { told = no_scan 19 0; registers = s; flash = f }
  -- else it hands out the first by value,
  pub gives : (x : Scan) (l : List Scan) → listed s f a b ≡ x ∷ l → (take_in 1 s f a b).told ≡ scan_told x.serial x.bytes
  -- leaves the rest,
  pub rest : listed s (take_in 1 s f a b).flash a b ≡ list_after f.words (low_word s a b) (high_word s a b) Take
  -- and registers with which the next call on the same pages comes to them too.
  pub again : pages_answer (decode (take_in 1 s f a b).registers) (take_in 1 s f a b).flash a b ≡ 0
  pub setup : (decode (take_in 1 s f a b).registers).setup ≡ (decode s).setup
  pub size : length (take_in 1 s f a b).registers ≡ register_count

-- k takes, each on what the one before left: what they tell.
unfoldable pub takes : ℕ → List ℕ → Flash → ℕ → ℕ → List ToldScan
takes zero s f a b = []
takes (suc k) s f a b = (take_in 1 s f a b).told ∷ takes k (take_in 1 s f a b).registers (take_in 1 s f a b).flash a b

abbrev pub handed : Scan → ToldScan
handed x = scan_told x.serial x.bytes

-- Takes hand out the waiting list from its first on, and then 19.
pub record FoundOn (s : List ℕ) (f : Flash) (a b : ℕ) : Type 0 where
  pub one : TakeGives s f a b
  pub all : takes (suc (length (listed s f a b))) s f a b ≡ map handed (listed s f a b) ++ (no_scan 19 0 ∷ [])

abbrev pub Found : Type 0
Found = (s : List ℕ) (f : Flash) (a b : ℕ) → length s ≡ register_count → pages_answer (decode s) f a b ≡ 0 → FoundOn s f a b

-- ---- after a reboot

-- Whatever registers stand for a free controller with the same setup serve the same pages, and have the same list: so do those after
-- reset, initialising and the same settings.
pub record SameFound (s t : List ℕ) (g : Flash) (a b : ℕ) : Type 0 where
  pub serves : pages_answer (decode t) g a b ≡ 0
  pub list : listed t g a b ≡ listed s g a b

abbrev pub SameSetup : Type 0
SameSetup =
    (s t : List ℕ) (f g : Flash) (a b : ℕ) → length s ≡ register_count → pages_answer (decode s) f a b ≡ 0
    → accepts (whole_answer (decode t) g) ≡ true → (decode t).setup ≡ (decode s).setup → SameFound s t g a b
