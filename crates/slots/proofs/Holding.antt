-- What the bytes of a slot hold, and what the slot is, by the tests that the code makes. Assumes nothing.
use mathlib.Core.Path.{◌≡◌, refl, sym, subst, ◌∙◌}
use mathlib.Core.Bool.{Bool, true, false, ◌&&◌}
use mathlib.Core.List.{List}
use Prim.Native.Nat.{ℕ, ◌+◌, ◌≤◌}
use lib.Dec.{leb}
use lib.ListN.{length, get_or, take, drop}
use borrow.Author.Tests.{leb-true, eq-eqb, ne_eqb}
use Rattle.std.specs.Prelude.{Option, None, Some, Ok, Err, option_map}
use Rattle.std.specs.Bool.{then_some}
use Rattle.std.specs.Result.{result_ok}
use Rattle.model.proofs.Bool.{and_left, and_right}
use Rattle.numbers.specs.declared.Numeral.{Numeral}
use Rattle.numbers.specs.Number.{Parsed, number_to, then_number}
use Rattle.numbers.proofs.Laws.{Goes, number_to_goes, number_to_small}
use Rattle.scan_queue.specs.Payload.{max_serial, max_length, all, serial_in, length_in, body_of, payload_of}
use Rattle.scan_queue.specs.Slots.{Slot, sealed_of, slot_at, blank}
use Rattle.slots.specs.Code.{payload_bytes, to_scan, HeldAs}
use Rattle.slots.proofs.Reading.{words_are}
use Rattle.slots.specs.declared.Found.{Found}

-- ---- the bytes

abbrev pub whole : List ℕ → Numeral → Bool
whole l n = leb 1 n.value && (leb (n.next + n.value) (length l) && all 255 (drop (n.next + n.value) l))

pub body_is : (l : List ℕ) (serial : ℕ) (n : Numeral) (w : Bool) → w ≡ whole l n → n.value ≤ max_length
    → HeldAs l (body_of l serial (Ok n)) (then_some w (record { serial = serial; start = n.next; count = n.value }))
unfolding body_of
body_is l serial n true e h = record {
  is = rw (← e) refl;
  lies = (h, leb-true _ _ (and_left (leb (n.next + n.value) (length l)) _ (and_right (leb 1 n.value) _ (sym e))));
}
body_is l serial n false e h = record { is = rw (← e) refl; lies = tt }

module _ (l : List ℕ) (first : Parsed) (read : first ≡ number_to l max_serial 0) where
  pub no_serial : result_ok first ≡ None → payload_of l ≡ None
  unfolding payload_of serial_in length_in then_number body_of
  no_serial h = go first read h
    where
      go : (r : Parsed) → r ≡ number_to l max_serial 0 → result_ok r ≡ None → payload_of l ≡ None
      go (Ok n) e h = cc
      go (Err p) e h = rw (← e) refl

  module _ (serial : Numeral) (is : result_ok first ≡ Some serial) (second : Parsed) (next : second ≡ number_to l max_length serial.next) where
    serial_is : serial_in l ≡ Ok serial
    unfolding serial_in
    serial_is = sym read ∙ go first is
      where
        go : (r : Parsed) → result_ok r ≡ Some serial → r ≡ Ok serial
        go (Ok n) h = cc
        go (Err p) h = cc

    second_is : length_in l ≡ second
    unfolding length_in then_number
    second_is = rw serial_is (sym next)

    pub no_count : result_ok second ≡ None → payload_of l ≡ None
    unfolding payload_of body_of
    no_count h = rw (second_is, serial_is) (go second h)
      where
        go : (r : Parsed) → result_ok r ≡ None → body_of l serial.value r ≡ None
        go (Ok n) h = cc
        go (Err p) h = refl

    module _ (count : Numeral) (counted : result_ok second ≡ Some count) where
      second_ok : second ≡ Ok count
      second_ok = go second counted
        where
          go : (r : Parsed) → result_ok r ≡ Some count → r ≡ Ok count
          go (Ok n) h = cc
          go (Err p) h = cc

      pub payload_is : payload_of l ≡ body_of l serial.value (Ok count)
      unfolding payload_of
      payload_is = rw (second_is, serial_is, second_ok) refl

      pub room : (count.next ≤ length l) × (count.value ≤ max_length)
      room =
          let read : number_to l max_length serial.next ≡ Ok count = sym next ∙ second_ok in
          let g : Goes l serial.next (Ok count) = subst (Goes l serial.next) read (number_to_goes l max_length serial.next) in
          (g.1, rw read at (number_to_small l max_length serial.next))

-- ---- slots

module _ (m : List ℕ) (p : ℕ) where
  pub slot_unused : (n : ℕ) → n ≡ 16 → (get_or m p 0 ≡ 0 → ⊥) → p + 16 ≤ length m → true ≡ all blank (take n (drop p m)) → Slot.Unused ≡ slot_at m p
  unfolding slot_at
  slot_unused n k e h b = rw (ne_eqb (get_or m p 0) 0 e, words_are 16 m p h, ← k, ← b) refl

  pub slot_dirty : (n : ℕ) → n ≡ 16 → (get_or m p 0 ≡ 0 → ⊥) → p + 16 ≤ length m → false ≡ all blank (take n (drop p m)) → Slot.Dead ≡ slot_at m p
  unfolding slot_at
  slot_dirty n k e h b = rw (ne_eqb (get_or m p 0) 0 e, words_are 16 m p h, ← k, ← b) refl

  module _ (seal : get_or m p 0 ≡ 0) where
    slot_sealed : (r : Option Found) → HeldAs (payload_bytes m p) (payload_of (payload_bytes m p)) r
        → slot_at m p ≡ sealed_of (get_or m (p + 1) 0) (option_map (to_scan (payload_bytes m p)) r)
    unfolding slot_at payload_bytes
    slot_sealed r held = rw (eq-eqb (get_or m p 0) 0 seal, held.is) refl

    pub slot_broken : HeldAs (payload_bytes m p) (payload_of (payload_bytes m p)) None → Slot.Dead ≡ slot_at m p
    slot_broken held = sym (slot_sealed None held)

    module _ (f : Found) (held : HeldAs (payload_bytes m p) (payload_of (payload_bytes m p)) (Some f)) where
      pub slot_waiting : get_or m (p + 1) 0 ≡ blank → Slot.Waiting (to_scan (payload_bytes m p) f) ≡ slot_at m p
      slot_waiting e = sym (slot_sealed (Some f) held ∙ rw e refl)

      pub slot_taken : get_or m (p + 1) 0 ≡ 0 → Slot.Taken (to_scan (payload_bytes m p) f) ≡ slot_at m p
      slot_taken e = sym (slot_sealed (Some f) held ∙ rw e refl)

      pub slot_odd : (get_or m (p + 1) 0 ≡ blank → ⊥) → (get_or m (p + 1) 0 ≡ 0 → ⊥) → Slot.Odd (to_scan (payload_bytes m p) f) ≡ slot_at m p
      slot_odd e g = sym (slot_sealed (Some f) held ∙ rw (ne_eqb (get_or m (p + 1) 0) blank e, ne_eqb (get_or m (p + 1) 0) 0 g) refl)
