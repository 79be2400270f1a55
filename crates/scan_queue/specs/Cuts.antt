-- The steps of a write and of a take in order, what the first of them leave where the power is cut, and the list that a call that
-- is not cut leaves. (02, L11)
use Rattle.std.specs.Prelude.{List, [], ◌∷◌, ◌++◌, ℕ, zero, suc, ◌+◌, get_or, set, take}
use Rattle.std.specs.Int.Bits.{bit_and}
use Rattle.scan_queue.specs.Payload.{Scan, words_of, written}
use Rattle.scan_queue.specs.Slots.{blank, places, waiting_list}
use Rattle.scan_queue.specs.Decisions.{Decision, Refused, Puts, Erases, Marks, new_scan, write, take_oldest}

-- ---- steps

-- One word: erased, or programmed, which clears bits alone.
pub data Step : Type 0 where
  Erase : ℕ → Step
  Program : ℕ → ℕ → Step

abbrev pub does : Step → List ℕ → List ℕ
does (Erase k) m = set m k blank
does (Program k w) m = set m k (bit_and (get_or m k 0) w)

unfoldable pub run : List Step → List ℕ → List ℕ
run [] m = m
run (s ∷ ss) m = run ss (does s m)

-- n words from word k on, lowest first.
unfoldable pub erases : ℕ → ℕ → List Step
erases zero k = []
erases (suc n) k = Erase k ∷ erases n (suc k)

unfoldable pub programs : List ℕ → ℕ → List Step
programs [] k = []
programs (w ∷ ws) k = Program k w ∷ programs ws (suc k)

-- ---- the steps of a call

-- None, or these and then the last one.
pub data Plan : Type 0 where
  NoSteps : Plan
  Steps : List Step → Step → Plan

-- Words 2 to 15 of the slot at p, in order.
abbrev pub fills : Scan → ℕ → List Step
fills s p = programs (words_of (written s)) (p + 2)

-- 'Writing programs words 2 to 15 in order, then the seal as 0.' Taking 'programs its mark as 0'.
abbrev pub plan : Decision → Plan
plan (Refused k) = NoSteps
plan (Puts p s) = Steps (fills s p) (Program p 0)
plan (Erases q s) = Steps (erases 256 q ++ fills s q) (Program q 0)
plan (Marks p) = Steps [] (Program (p + 1) 0)

abbrev pub steps_of : Plan → List Step
steps_of NoSteps = []
steps_of (Steps ss s) = ss ++ (s ∷ [])

pub data ScanCall : Type 0 where
  Write : List ℕ → ScanCall
  Take : ScanCall

abbrev pub plan_of : List ℕ → ℕ → ℕ → ScanCall → Plan
plan_of m a b (Write bytes) = plan (write m a b bytes)
plan_of m a b Take = plan (take_oldest m a b)

-- The image after a call,
unfoldable pub after : List ℕ → ℕ → ℕ → ScanCall → List ℕ
after m a b c = run (steps_of (plan_of m a b c)) m

-- and after its first n steps: 'cut the power between any two steps'.
unfoldable pub cut : ℕ → List ℕ → ℕ → ℕ → ScanCall → List ℕ
cut n m a b c = run (take n (steps_of (plan_of m a b c))) m

-- ---- the list that a call leaves

abbrev pub when_done : {A : Type 0} → Plan → A → A → A
when_done NoSteps old new = old
when_done (Steps ss s) old new = new

abbrev pub tail : List Scan → List Scan
tail [] = []
tail (s ∷ l) = l

-- A write that is not refused adds the new scan at the end; a take takes the first away, if there is one.
abbrev pub list_after : List ℕ → ℕ → ℕ → ScanCall → List Scan
list_after m a b (Write bytes) =
    when_done (plan (write m a b bytes)) (waiting_list m (places a b)) (waiting_list m (places a b) ++ (new_scan m a b bytes ∷ []))
list_after m a b Take = tail (waiting_list m (places a b))
