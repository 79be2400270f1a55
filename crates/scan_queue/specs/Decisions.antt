-- What a write and a take do, by the words of the two pages alone: looking at slots is reading the image. (02, L11)
-- a is the first word of the lower page, b that of the higher.
use Rattle.std.specs.Prelude.{Bool, true, false, cond, ◌&&◌, List, [], ◌∷◌, ℕ, suc, ltb, leb, length, Option, None, Some, is_none}
use Rattle.model.specs.Refusals as answers
use Rattle.scan_queue.specs.declared.ScanRefusal.{ScanRefusal}
use Rattle.scan_queue.specs.declared.ScanRefusal.TheVariants.{Controller, BadPages, Full, BadScan, NoScan}
use Rattle.scan_queue.specs.Payload.{Scan}
use Rattle.scan_queue.specs.Slots.{waits, is_unused, slot_at, slots_from, places, Entry, queue, highest}

-- `Refused` does nothing. `Puts` programs a scan into the slot at a word and seals it. `Erases` erases the page that starts at a
-- word first, and puts the scan into its first slot. `Marks` marks the slot at a word as taken.
pub data Decision : Type 0 where
  Refused : ScanRefusal → Decision
  Puts : ℕ → Scan → Decision
  Erases : ℕ → Scan → Decision
  Marks : ℕ → Decision

abbrev pub refusal_number : ScanRefusal → ℕ
refusal_number (Controller r) = answers.refusal_number r
refusal_number BadPages = 16
refusal_number Full = 17
refusal_number BadScan = 18
refusal_number NoScan = 19

-- The refusal's number, 0 if none.
abbrev pub refusal_of : Decision → ℕ
refusal_of (Refused r) = refusal_number r
refusal_of (Puts p s) = 0
refusal_of (Erases q s) = 0
refusal_of (Marks p) = 0

-- ---- a write

abbrev pub or_at : Bool → ℕ → Option ℕ → Option ℕ
or_at true p r = Some p
or_at false p r = r

-- 'The unused slot of lowest place.'
unfoldable pub first_unused : List ℕ → List ℕ → Option ℕ
first_unused m [] = None
first_unused m (p ∷ ps) = or_at (is_unused (slot_at m p)) p (first_unused m ps)

-- A page 'with no waiting slot'.
unfoldable pub none_waits : List ℕ → List ℕ → Bool
none_waits m [] = true
none_waits m (p ∷ ps) = is_none (waits (slot_at m p)) && none_waits m ps

-- 'A scan goes to the unused slot of lowest place. If none is left, the lower-numbered page with no waiting slot is erased first;
-- if both have one, and only then, 17.'
abbrev pub into : List ℕ → ℕ → ℕ → Scan → Option ℕ → Decision
into m a b s (Some p) = Puts p s
into m a b s None =
    cond (none_waits m (slots_from 16 a)) (Erases a s) (cond (none_waits m (slots_from 16 b)) (Erases b s) (Refused Full))

-- 'A new one is one above the highest sealed, or 1, settled before any erase.'
abbrev pub new_scan : List ℕ → ℕ → ℕ → List ℕ → Scan
new_scan m a b bytes = record { serial = suc (highest m (places a b)); bytes = bytes }

-- 'A serial or length out of range is 18, checked before 17 and any erase.'
unfoldable pub write : List ℕ → ℕ → ℕ → List ℕ → Decision
write m a b bytes =
    cond (ltb (suc (highest m (places a b))) 268435456 && leb 1 (length bytes) && leb (length bytes) 48)
    (into m a b (new_scan m a b bytes) (first_unused m (places a b)))
    (Refused BadScan)

-- ---- a take: 'the oldest waiting scan .. if none waits, 19'

abbrev pub taking : List Entry → Decision
taking [] = Refused NoScan
taking (e ∷ l) = Marks e.place

unfoldable pub take_oldest : List ℕ → ℕ → ℕ → Decision
take_oldest m a b = taking (queue m (places a b))
