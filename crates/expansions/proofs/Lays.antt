-- What each way through `lay_block` and `lay_entry` lays. Assumes nothing.
use Prim.Native.Nat.{ℕ, ◌+◌, ◌-◌, ◌≤◌, ◌<◌}
use native.Mathlib.Omega.{arith}
use mathlib.Core.Path.{◌≡◌, refl, ap, sym, ◌∙◌}
use mathlib.Core.Bool.{true, false, cond, ◌&&◌}
use mathlib.Core.List.{List, [], ◌++◌}
use lib.ListN.{length, set, length-append}
use lib.Seq.{sets}
use lib.Dec.{ltb, eqb}
use Rattle.numbers.specs.Number.{Parsed, number_at, number_to, value_of, next_of}
use Rattle.sheets.specs.Sheet.{stated_at, copies, followed, block_at, entry_at, places_of}
use Rattle.sheets.specs.Sheet.Meaning.{Runs}
use Rattle.sheets.proofs.Loading.{sets_append}
use Rattle.expansions.specs.declared.Laid.{Laid}
use Rattle.expansions.specs.Laying.{reads, end_of, Room, laid_by}
use Rattle.expansions.proofs.Rooms.{Parts, Repeat, tag_onward, block_ends, block_goes_on, block_parts, entry_onward, once_laid, repeat_room}
use Rattle.expansions.proofs.Turns.{copies_first, Turning, turning_none, turning_done}

-- ---- a block

module _ (s : List ℕ) (at d n : ℕ) (room : Room (block_at s at d) n) (v x : ℕ) (value : v ≡ value_of (number_at s at)) (next : x ≡ next_of (number_at s at)) where
  pub tag_falls : (at < x) × (x ≤ length s)
  tag_falls = rw next (tag_onward s at d n room)

  pub lays_end : v ≡ 0 → {places : List ℕ} → (places ≡ sets places n (places_of (block_at s at d))) × (◌≡◌ {A = Laid} (record { next = x; count = n }) (laid_by (block_at s at d) n))
  lays_end z =
      let e : block_at s at d ≡ Runs [] x = rw next (block_ends s at d n room (sym value ∙ z)) in
      let c : n + 0 ≡ n = omega arith in
      rw e (refl, rw c refl)

  module _ (some : v ≡ 0 → ⊥) where
    meant : block_at s at d ≡ followed (entry_at s at x v d) (λ y. block_at s y d)
    meant = rw (value, next) (block_goes_on s at d n room (λ z. some (value ∙ z)))

    split : Parts (entry_at s at x v d) (λ y. block_at s y d) n
    split = rw (value, next) (block_parts s at d n room (λ z. some (value ∙ z)))

    pub first_room : Room (entry_at s at x v d) n
    first_room = split.first

    pub rest_room : (l : Laid) → l ≡ laid_by (entry_at s at x v d) n → Room (block_at s l.next d) l.count × (at < l.next)
    rest_room l e =
        let h = entry_onward s at x v d n first_room in
        let t = tag_falls in
        rw e (split.rest, omega arith)

    pub lays_both : (places₀ : List ℕ) {places₁ places₂ : List ℕ} (l r : Laid) → places₁ ≡ sets places₀ n (places_of (entry_at s at x v d)) → l ≡ laid_by (entry_at s at x v d) n
        → places₂ ≡ sets places₁ l.count (places_of (block_at s l.next d)) → r ≡ laid_by (block_at s l.next d) l.count
        → (places₂ ≡ sets places₀ n (places_of (block_at s at d))) × (r ≡ laid_by (block_at s at d) n)
    lays_both places₀ l r p e q f =
        let ps : List ℕ = places_of (entry_at s at x v d) in
        let c : l.count ≡ n + length ps = ap (λ (y : Laid). y.count) e in
        let y : l.next ≡ end_of (entry_at s at x v d) = ap (λ (y : Laid). y.next) e in
        let qs : places_of (block_at s at d) ≡ ps ++ places_of (block_at s l.next d) = ap places_of meant ∙ rw y split.places in
        let z : end_of (block_at s at d) ≡ end_of (block_at s l.next d) = ap end_of meant ∙ rw y split.end in
        let m : l.count + length (places_of (block_at s l.next d)) ≡ n + length (places_of (block_at s at d)) = rw (qs, length-append, c) (omega arith) in
        (q ∙ rw (qs, c, p) (sets_append places₀ n ps (places_of (block_at s l.next d))), f ∙ rw (z, m) refl)

-- ---- an entry that runs once

module _ (s : List ℕ) (at next tag d n : ℕ) (room : Room (entry_at s at next tag d) n) (other : tag ≡ 2 → ⊥)
    (x : Parsed) (last : x ≡ cond (eqb tag 1) (stated_at s next).end (number_to s 7 next)) where
  pub once_room : n < 4096
  once_room = (once_laid s at next tag d n room other x last).0

  pub lays_once : {y : ℕ} → y ≡ next_of x → (places : List ℕ)
      → (set places n at ≡ sets places n (places_of (entry_at s at next tag d))) × (◌≡◌ {A = Laid} (record { next = y; count = n + 1 }) (laid_by (entry_at s at next tag d) n))
  lays_once e places = rw ((once_laid s at next tag d n room other x last).1, e) (refl, refl)

-- ---- a repeat

module _ (s : List ℕ) (at next tag d n : ℕ) (room : Room (entry_at s at next tag d) n) (two : tag ≡ 2)
    (k y : ℕ) (value : k ≡ value_of (number_to s 255 next)) (inner : y ≡ next_of (number_to s 255 next)) where
  repeat : Repeat s at next d n
  repeat = repeat_room s at next d n (rw two at room)

  pub shallow : d < 8
  shallow = repeat.shallow

  pub count_falls : (next < y) × (y ≤ length s)
  count_falls = rw inner repeat.onward

  pub count_some : 0 < k
  count_some = rw value repeat.some

  block_whole : reads (block_at s y (d + 1)) ≡ true
  block_whole = rw inner repeat.whole

  turns_few : n + length (copies k (places_of (block_at s y (d + 1)))) ≤ 4096
  turns_few = rw (value, inner) repeat.few

  means : entry_at s at next tag d ≡ Runs (copies k (places_of (block_at s y (d + 1)))) (end_of (block_at s y (d + 1)))
  means = rw (two, value, inner) repeat.means

  split_copies : copies k (places_of (block_at s y (d + 1))) ≡ places_of (block_at s y (d + 1)) ++ copies (k - 1) (places_of (block_at s y (d + 1)))
  split_copies = copies_first k (places_of (block_at s y (d + 1))) count_some

  turns_sum : n + (length (places_of (block_at s y (d + 1))) + length (copies (k - 1) (places_of (block_at s y (d + 1))))) ≤ 4096
  turns_sum = rw (split_copies, length-append) at turns_few

  pub turn_room : Room (block_at s y (d + 1)) n
  turn_room = record { whole = block_whole; few = let h = turns_sum in omega arith }

  pub turns_begin : (l : Laid) → l ≡ laid_by (block_at s y (d + 1)) n → {places : List ℕ} → Turning (block_at s y (d + 1)) (k - 1) l.count places 0 places l.count
  turns_begin l e = rw e (turning_none block_whole (let h = turns_sum in omega arith))

  pub lays_turns : (places₀ : List ℕ) {places₁ places₂ : List ℕ} {turn count : ℕ} (l : Laid) → places₁ ≡ sets places₀ n (places_of (block_at s y (d + 1))) → l ≡ laid_by (block_at s y (d + 1)) n
      → Turning (block_at s y (d + 1)) (k - 1) l.count places₁ turn places₂ count → (ltb turn (k - 1) && ltb n count) ≡ false
      → (places₂ ≡ sets places₀ n (places_of (entry_at s at next tag d))) × (◌≡◌ {A = Laid} (record { next = l.next; count = count }) (laid_by (entry_at s at next tag d) n))
  lays_turns places₀ l p e t f =
      let ps : List ℕ = places_of (block_at s y (d + 1)) in
      let c : l.count ≡ n + length ps = ap (λ (z : Laid). z.count) e in
      let z : l.next ≡ end_of (block_at s y (d + 1)) = ap (λ (z : Laid). z.next) e in
      let w = turning_done t n c f in
      let m : l.count + length (copies (k - 1) ps) ≡ n + length (copies k ps) = rw (split_copies, length-append, c) (omega arith) in
      rw means (w.0 ∙ rw (split_copies, c, p) (sets_append places₀ n ps (copies (k - 1) ps)), rw (z, w.1, m) refl)
