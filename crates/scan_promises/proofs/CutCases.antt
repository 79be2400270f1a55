-- Cuts, worked out on the words of two pages that start at words 0 and 256. Assumes nothing.
use mathlib.Core.Path.{◌≡◌, refl}
use mathlib.Core.List.{List, [], ◌∷◌, ◌++◌}
use Prim.Native.Nat.{ℕ, zero, suc}
use lib.ListN.{replicate, set}
use Rattle.numbers.specs.Number.{continued, last_group, groups_value, shortest, number_between, number_at, limited, number_to, then_number}
use Rattle.scan_queue.specs.Payload.{Scan, groups, bytes_of, words_of, all, serial_in, length_in, body_of, payload_of, written}
use Rattle.scan_queue.specs.Slots.{blank, words_at, slot_at, slots_from, places, entries, insert, sorted, queue, scans, waiting_list, highest}
use Rattle.scan_queue.specs.Decisions.{Erases, first_unused, none_waits, write, take_oldest}
use Rattle.scan_queue.specs.Cuts.{run, erases, programs, Write, Take, after, cut}
use Rattle.scan_queue.proofs.Cases.{scan, slot}

fresh : List ℕ
fresh = replicate 512 blank

-- The first scan on blank pages: cut before its seal it does not wait; with it, it does.
unsealed : waiting_list (cut 14 fresh 0 256 (Write (7 ∷ 8 ∷ 9 ∷ []))) (places 0 256) ≡ []
unfolding words_at slot_at slots_from places entries insert sorted queue scans waiting_list highest run erases programs first_unused none_waits write take_oldest after cut continued last_group groups_value shortest number_between number_at limited number_to then_number groups bytes_of words_of all serial_in length_in body_of payload_of written fresh
unsealed = refl

sealed : waiting_list (cut 15 fresh 0 256 (Write (7 ∷ 8 ∷ 9 ∷ []))) (places 0 256) ≡ scan 1 (7 ∷ 8 ∷ 9 ∷ []) ∷ []
unfolding words_at slot_at slots_from places entries insert sorted queue scans waiting_list highest run erases programs first_unused none_waits write take_oldest after cut continued last_group groups_value shortest number_between number_at limited number_to then_number groups bytes_of words_of all serial_in length_in body_of payload_of written fresh
sealed = refl

two : waiting_list (after (after fresh 0 256 (Write (7 ∷ []))) 0 256 (Write (8 ∷ 9 ∷ []))) (places 0 256) ≡ scan 1 (7 ∷ []) ∷ scan 2 (8 ∷ 9 ∷ []) ∷ []
unfolding words_at slot_at slots_from places entries insert sorted queue scans waiting_list highest run erases programs first_unused none_waits write take_oldest after cut continued last_group groups_value shortest number_between number_at limited number_to then_number groups bytes_of words_of all serial_in length_in body_of payload_of written fresh
two = refl

-- Why an erase must reach a slot's seal before its mark: the mark erased first brings a taken scan back.
taken : List ℕ
taken = after (after fresh 0 256 (Write (7 ∷ []))) 0 256 Take

back_again : (waiting_list taken (places 0 256) ≡ []) × (waiting_list (set taken 1 blank) (places 0 256) ≡ scan 1 (7 ∷ []) ∷ [])
unfolding words_at slot_at slots_from places entries insert sorted queue scans waiting_list highest run erases programs first_unused none_waits write take_oldest after cut continued last_group groups_value shortest number_between number_at limited number_to then_number groups bytes_of words_of all serial_in length_in body_of payload_of written fresh taken
back_again = (refl, refl)

-- A full queue: 16 taken scans in the lower page, 16 that wait in the higher. The next write erases the lower page, and a cut in
-- that erase finds the 16 that wait.
page : ℕ → ℕ → ℕ → List ℕ
page mark zero n = []
page mark (suc k) n = slot mark n ++ page mark k (suc n)

full : List ℕ
full = page 0 16 1 ++ page blank 16 17

sixteen : ℕ → ℕ → List Scan
sixteen zero n = []
sixteen (suc k) n = scan n (n ∷ []) ∷ sixteen k (suc n)

erased_first : write full 0 256 (7 ∷ []) ≡ Erases 0 (scan 33 (7 ∷ []))
unfolding words_at slot_at slots_from places highest first_unused none_waits write continued last_group groups_value shortest number_between number_at limited number_to then_number groups bytes_of words_of all serial_in length_in body_of payload_of written page full
erased_first = refl

cut_in_erase : waiting_list (cut 16 full 0 256 (Write (7 ∷ []))) (places 0 256) ≡ sixteen 16 17
unfolding words_at slot_at slots_from places entries insert sorted queue scans waiting_list highest run erases programs first_unused none_waits write take_oldest after cut continued last_group groups_value shortest number_between number_at limited number_to then_number groups bytes_of words_of all serial_in length_in body_of payload_of written page full sixteen
cut_in_erase = refl

erase_done : waiting_list (cut 271 full 0 256 (Write (7 ∷ []))) (places 0 256) ≡ sixteen 16 17 ++ (scan 33 (7 ∷ []) ∷ [])
unfolding words_at slot_at slots_from places entries insert sorted queue scans waiting_list highest run erases programs first_unused none_waits write take_oldest after cut continued last_group groups_value shortest number_between number_at limited number_to then_number groups bytes_of words_of all serial_in length_in body_of payload_of written page full sixteen
erase_done = refl
