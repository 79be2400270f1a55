-- The slots of two pages, what each of them is, and the list of the scans that wait. (02, L11)
use Rattle.std.specs.Prelude.{Bool, true, false, cond, List, [], ◌∷◌, ◌++◌, ℕ, zero, suc, ◌+◌, ◌≤◌, max, leb, eqb, length, get_or, Option, None, Some}
use Rattle.scan_queue.specs.Payload.{Scan, all, bytes_of, payload_of}

-- A word of ones.
abbrev pub blank : ℕ
blank = 0xFFFFFFFF

-- n words of the image from word p on.
unfoldable pub words_at : ℕ → List ℕ → ℕ → List ℕ
words_at zero m p = []
words_at (suc n) m p = get_or m p 0 ∷ words_at n m (suc p)

-- ---- one slot

-- `Waiting`, `Taken` and `Odd` are sealed; `Odd` has a mark that is neither all ones nor 0.
pub data Slot : Type 0 where
  Unused : Slot
  Dead : Slot
  Waiting : Scan → Slot
  Taken : Scan → Slot
  Odd : Scan → Slot

-- 'Waiting if word 1 is all ones, taken if it is 0'.
abbrev pub sealed_of : ℕ → Option Scan → Slot
sealed_of mark None = Dead
sealed_of mark (Some s) = cond (eqb mark blank) (Waiting s) (cond (eqb mark 0) (Taken s) (Odd s))

-- 'Sealed if word 0 is 0 and words 2 to 15 are well formed .. A wholly blank slot is unused, any other dead.' The slot starts at
-- word p.
unfoldable pub slot_at : List ℕ → ℕ → Slot
slot_at m p =
    cond (eqb (get_or m p 0) 0) (sealed_of (get_or m (p + 1) 0) (payload_of (bytes_of (words_at 14 m (p + 2)))))
    (cond (all blank (words_at 16 m p)) Unused Dead)

-- What waits in a slot.
abbrev pub waits : Slot → Option Scan
waits Unused = None
waits Dead = None
waits (Waiting s) = Some s
waits (Taken s) = None
waits (Odd s) = None

-- The serial of a sealed slot; 0 of any other.
abbrev pub serial_of : Slot → ℕ
serial_of Unused = 0
serial_of Dead = 0
serial_of (Waiting s) = s.serial
serial_of (Taken s) = s.serial
serial_of (Odd s) = s.serial

abbrev pub is_unused : Slot → Bool
is_unused Unused = true
is_unused Dead = false
is_unused (Waiting s) = false
is_unused (Taken s) = false
is_unused (Odd s) = false

-- ---- the places of slots, by the word that each starts at

-- The pages that start at words a and b lie in the image, the lower first.
pub record Pages (m : List ℕ) (a b : ℕ) : Type 0 where
  pub apart : a + 256 ≤ b
  pub inside : b + 256 ≤ length m

-- 'Each page has 16 slots of 64 bytes': n slots from word p on.
unfoldable pub slots_from : ℕ → ℕ → List ℕ
slots_from zero p = []
slots_from (suc n) p = p ∷ slots_from n (p + 16)

-- All 32, lowest place first.
unfoldable pub places : ℕ → ℕ → List ℕ
places a b = slots_from 16 a ++ slots_from 16 b

-- ---- the waiting list: 'the oldest is the lowest serial, then the lowest place'

pub record Entry : Type 0 where
  pub place : ℕ
  pub scan : Scan

abbrev pub cons : ℕ → Option Scan → List Entry → List Entry
cons p None l = l
cons p (Some s) l = record { place = p; scan = s } ∷ l

-- What waits at some places, in their order.
unfoldable pub entries : (ℕ → Option Scan) → List ℕ → List Entry
entries f [] = []
entries f (p ∷ ps) = cons p (f p) (entries f ps)

-- Before the first whose serial is not lower: of one serial, the lower place stays in front.
unfoldable pub insert : Entry → List Entry → List Entry
insert x [] = x ∷ []
insert x (y ∷ l) = cond (leb x.scan.serial y.scan.serial) (x ∷ y ∷ l) (y ∷ insert x l)

unfoldable pub sorted : List Entry → List Entry
sorted [] = []
sorted (x ∷ l) = insert x (sorted l)

-- Oldest first.
unfoldable pub queue : List ℕ → List ℕ → List Entry
queue m ps = sorted (entries (λ p. waits (slot_at m p)) ps)

-- The scans alone, without their places.
unfoldable pub scans : List Entry → List Scan
scans [] = []
scans (e ∷ l) = e.scan ∷ scans l

unfoldable pub waiting_list : List ℕ → List ℕ → List Scan
waiting_list m ps = scans (queue m ps)

-- The highest serial of a sealed slot, 0 if there is none: so the next is one above it in either case.
unfoldable pub highest : List ℕ → List ℕ → ℕ
highest m [] = 0
highest m (p ∷ ps) = max (serial_of (slot_at m p)) (highest m ps)
