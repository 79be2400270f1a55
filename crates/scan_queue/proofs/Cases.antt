-- The sentences of the definitions, worked out on single slots and on two pages that start at words 0 and 256. Assumes nothing.
use mathlib.Core.Path.{◌≡◌, refl}
use mathlib.Core.List.{List, [], ◌∷◌, ◌++◌}
use Prim.Native.Nat.{ℕ, ◌*◌}
use lib.ListN.{replicate, set}
use Rattle.std.proofs.Common.{Ok, Err}
use Rattle.numbers.specs.Number.{continued, last_group, groups_value, shortest, number_between, number_at, limited, number_to, then_number}
use Rattle.scan_queue.specs.declared.ScanRefusal.{ScanRefusal}
use Rattle.scan_queue.specs.declared.ScanRefusal.TheVariants.{Full, BadScan, NoScan}
use Rattle.scan_queue.specs.Payload.{Scan, max_serial, groups, bytes_of, words_of, all, serial_in, length_in, body_of, payload_of, written}
use Rattle.scan_queue.specs.Slots.{Entry, Unused, Dead, Waiting, Taken, Odd, blank, words_at, slot_at, slots_from, places, entries, insert, sorted, queue, highest}
use Rattle.scan_queue.specs.Decisions.{Decision, Refused, Puts, Erases, refusal_of, first_unused, none_waits, write, take_oldest}

abbrev pub scan : ℕ → List ℕ → Scan
scan n l = record { serial = n; bytes = l }

-- Words 2 to 15 of a scan: serial 1, length 3, its bytes, ones.
words : words_of (written (scan 1 (7 ∷ 8 ∷ 9 ∷ [])))
    ≡ 0x08070301 ∷ 0xFFFFFF09 ∷ replicate 12 blank
unfolding words_of written groups
words = refl

-- A serial of four groups.
words_4 : words_of (written (scan 0xFFFFFFF (7 ∷ []))) ≡ 0x7FFFFFFF ∷ 0xFFFF0701 ∷ replicate 12 blank
unfolding words_of written groups
words_4 = refl

-- 0 in two groups is not the shortest form; five groups are too many.
forms : (number_to (128 ∷ 0 ∷ []) max_serial 0 ≡ Err 0) × (number_to (0 ∷ 5 ∷ []) max_serial 0 ≡ Ok (record { value = 0; next = 1 })) × (number_to (255 ∷ 255 ∷ 255 ∷ 255 ∷ 1 ∷ []) max_serial 0 ≡ Err 0)
unfolding continued last_group groups_value shortest number_between number_at limited number_to
forms = (refl, refl, refl)

-- ---- what a slot is

-- A sealed slot with this mark, and a scan with this serial, below 256, whose one byte is the serial.
abbrev pub slot : ℕ → ℕ → List ℕ
slot mark n = 0 ∷ mark ∷ words_of (written (scan n (n ∷ [])))

-- Word 2 in the place of the one written.
with_word_2 : ℕ → List ℕ
with_word_2 w = 0 ∷ blank ∷ w ∷ replicate 13 blank

-- Sealed: waiting if its mark is all ones, taken if it is 0, else neither.
marks : (slot_at (slot blank 5) 0 ≡ Waiting (scan 5 (5 ∷ []))) × (slot_at (slot 0 5) 0 ≡ Taken (scan 5 (5 ∷ []))) × (slot_at (slot 0xFFFF0000 5) 0 ≡ Odd (scan 5 (5 ∷ [])))
unfolding continued last_group groups_value shortest number_between number_at limited number_to then_number bytes_of all serial_in length_in body_of payload_of words_at slot_at groups words_of written
marks = (refl, refl, refl)

-- Not sealed: wholly blank, or dead, though its words 2 to 15 may be well formed.
unsealed_slots : (slot_at (replicate 16 blank) 0 ≡ Unused) × (slot_at (set (slot blank 5) 0 blank) 0 ≡ Dead) × (slot_at (set (slot blank 5) 0 1) 0 ≡ Dead)
unfolding continued last_group groups_value shortest number_between number_at limited number_to then_number bytes_of all serial_in length_in body_of payload_of words_at slot_at groups words_of written
unsealed_slots = (refl, refl, refl)

-- Serial 0 is well formed. Serial 0 in two groups is not, nor are a length of 0 or of 49, or another byte than ones after the scan.
forms_of_slots : (slot_at (with_word_2 0xFF070100) 0 ≡ Waiting (scan 0 (7 ∷ []))) × (slot_at (with_word_2 0x07010080) 0 ≡ Dead) × (slot_at (with_word_2 0xFFFF0001) 0 ≡ Dead)
    × (slot_at (with_word_2 0xFFFF3101) 0 ≡ Dead) × (slot_at (with_word_2 0xFE070101) 0 ≡ Dead)
unfolding continued last_group groups_value shortest number_between number_at limited number_to then_number bytes_of all serial_in length_in body_of payload_of words_at slot_at with_word_2
forms_of_slots = (refl, refl, refl, refl, refl)

-- ---- the order, and where a scan goes

-- The lowest serial first; of one serial, the lowest place.
blanks : ℕ → List ℕ
blanks n = replicate (16 * n) blank

mixed : List ℕ
mixed = slot blank 3 ++ slot blank 2 ++ slot 0 9 ++ slot blank 3 ++ blanks 27 ++ slot blank 4

entry : ℕ → ℕ → Entry
entry p n = record { place = p; scan = scan n (n ∷ []) }

in_order : queue mixed (places 0 256) ≡ entry 16 2 ∷ entry 0 3 ∷ entry 48 3 ∷ entry 496 4 ∷ []
unfolding continued last_group groups_value shortest number_between number_at limited number_to then_number bytes_of all serial_in length_in body_of payload_of words_at slot_at groups words_of written slots_from places entries insert sorted queue blanks mixed entry
in_order = refl

-- One above the highest sealed, taken or odd ones too, into the unused slot of lowest place, though both pages wait.
next : (write mixed 0 256 (7 ∷ []) ≡ Puts 64 (scan 10 (7 ∷ []))) × (write (slot 0xFFFF0000 9 ++ blanks 30 ++ slot blank 5) 0 256 (7 ∷ []) ≡ Puts 16 (scan 10 (7 ∷ [])))
unfolding continued last_group groups_value shortest number_between number_at limited number_to then_number bytes_of all serial_in length_in body_of payload_of words_at slot_at groups words_of written slots_from places highest first_unused write blanks mixed
next = (refl, refl)

-- 18 for a length of 0 or 49 and for serial 2^28, also if the queue is full. One that waits in each page, and 30 dead slots, are full.
dead : ℕ → List ℕ
dead n = replicate (16 * n) 0

crowded : List ℕ
crowded = slot blank 1 ++ dead 30 ++ slot blank 2

-- Refused by this refusal, which has this number.
abbrev refused_by : Decision → ScanRefusal → ℕ → Type 0
refused_by d r n = (d ≡ Refused r) × (refusal_of d ≡ n)

refused : refused_by (write crowded 0 256 (7 ∷ [])) Full 17 × refused_by (write crowded 0 256 []) BadScan 18 × refused_by (write crowded 0 256 (replicate 49 7)) BadScan 18
    × refused_by (write (0 ∷ blank ∷ words_of (written (scan max_serial (7 ∷ []))) ++ blanks 31) 0 256 (7 ∷ [])) BadScan 18 × refused_by (take_oldest (blanks 32) 0 256) NoScan 19
unfolding continued last_group groups_value shortest number_between number_at limited number_to then_number bytes_of all serial_in length_in body_of payload_of words_at slot_at groups words_of written slots_from places highest first_unused none_waits write entries sorted queue take_oldest blanks dead crowded
refused = ((refl, refl), (refl, refl), (refl, refl), (refl, refl), (refl, refl))

-- The lower page is erased if nothing waits there, dead slots or not, and the higher one only if something does.
chosen : (write (dead 32) 0 256 (7 ∷ []) ≡ Erases 0 (scan 1 (7 ∷ []))) × (write (slot blank 1 ++ dead 31) 0 256 (7 ∷ []) ≡ Erases 256 (scan 2 (7 ∷ [])))
unfolding continued last_group groups_value shortest number_between number_at limited number_to then_number bytes_of all serial_in length_in body_of payload_of words_at slot_at groups words_of written slots_from places highest first_unused none_waits write dead
chosen = (refl, refl)
