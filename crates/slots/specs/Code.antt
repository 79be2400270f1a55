-- What the code's answers mean in the definitions' terms.
use Rattle.std.specs.Prelude.{ℕ, ◌+◌, ◌≤◌, ◌≡◌, List, length, take, drop, Option, None, Some, option_map}
use Rattle.scan_queue.specs.Payload.{Scan, max_length, bytes_of}
use Rattle.scan_queue.specs.Slots.{words_at}
use Rattle.scan_queue.specs.Slots as Slots
use Rattle.slots.specs.declared.Found.{Found}
use Rattle.slots.specs.declared.Class.{Class}
use Rattle.slots.specs.declared.Class.TheVariants.{Unused, Dead, Waiting, Taken, Odd}

-- The 56 bytes of words 2 to 15 of the slot at p.
unfoldable pub payload_bytes : List ℕ → ℕ → List ℕ
payload_bytes m p = bytes_of (words_at 14 m (p + 2))

-- The scan that was found in these bytes.
abbrev pub to_scan : List ℕ → Found → Scan
to_scan l f = record { serial = f.serial; bytes = take f.count (drop f.start l) }

-- Its bytes lie among them.
abbrev pub Lies : List ℕ → Option Found → Type 0
Lies l None = Unit {0}
Lies l (Some f) = (f.count ≤ max_length) × (f.start + f.count ≤ length l)

pub record HeldAs (l : List ℕ) (p : Option Scan) (r : Option Found) : Type 0 where
  pub is : option_map (to_scan l) r ≡ p
  pub lies : Lies l r

abbrev pub to_slot : List ℕ → Class → Slots.Slot
to_slot l Unused = Slots.Slot.Unused
to_slot l Dead = Slots.Slot.Dead
to_slot l (Waiting f) = Slots.Slot.Waiting (to_scan l f)
to_slot l (Taken f) = Slots.Slot.Taken (to_scan l f)
to_slot l (Odd f) = Slots.Slot.Odd (to_scan l f)
