-- Laws of reading a slot. Assumes nothing.
use mathlib.Core.Path.{◌≡◌, refl, sym, ap, ◌∙◌}
use mathlib.Core.List.{List, [], ◌∷◌, ◌++◌}
use Prim.Native.Nat.{ℕ, zero, suc, ◌+◌, ◌*◌, ◌<◌, ◌≤◌}
use native.Mathlib.Omega.{arith}
use lib.ListN.{length, get_or, take, drop, length-append, length-take, length-drop}
use lib.Seq.{drop-cons, take_all}
use borrow.Rule.Slice.PartMut.{put_mid}
use Rattle.std.specs.Int.{w32, to_le_bytes}
use Rattle.std.proofs.lemmas.Slice.{take-put_mid}
use Rattle.scan_queue.specs.Payload.{bytes_of}
use Rattle.scan_queue.specs.Slots.{words_at}
use Rattle.slots.specs.Code.{payload_bytes}

-- Words of the image are a part of it.
pub words_are : (n : ℕ) (m : List ℕ) (p : ℕ) → p + n ≤ length m → words_at n m p ≡ take n (drop p m)
unfolding words_at
words_are zero m p h = refl
words_are (suc n) m p h =
    let l : p < length m = omega arith in
    rw (drop-cons m p 0 l) (ap (λ (k : List ℕ). get_or m p 0 ∷ k) (words_are n m (suc p) (omega arith)))

-- Word by word, past the image's end too.
pub words_at_lem : (n : ℕ) (m : List ℕ) (p j : ℕ) → j < n → get_or (words_at n m p) j 0 ≡ get_or m (p + j) 0
unfolding words_at
words_at_lem zero m p j h = absurd (omega arith)
words_at_lem (suc n) m p zero h = ap (λ (k : ℕ). get_or m k 0) (omega arith)
words_at_lem (suc n) m p (suc j) h = words_at_lem n m (suc p) j (omega arith) ∙ ap (λ (k : ℕ). get_or m k 0) (omega arith)

words_long : (n : ℕ) (m : List ℕ) (p : ℕ) → length (words_at n m p) ≡ n
unfolding words_at
words_long zero m p = refl
words_long (suc n) m p = ap suc (words_long n m (suc p))

bytes_long : (ws : List ℕ) → length (bytes_of ws) ≡ 4 * length ws
unfolding bytes_of
bytes_long [] = refl
bytes_long (w ∷ ws) = omega (arith, bytes_long ws)

pub payload_long : (m : List ℕ) (p : ℕ) → length (payload_bytes m p) ≡ 56
unfolding payload_bytes
payload_long m p = bytes_long (words_at 14 m (p + 2)) ∙ rw (words_long 14 m (p + 2)) refl

-- The bytes of one word more.
bytes_more : (ws : List ℕ) (i : ℕ) → i < length ws → take (4 * i + 4) (bytes_of ws) ≡ take (4 * i) (bytes_of ws) ++ to_le_bytes w32 (get_or ws i 0)
unfolding bytes_of
bytes_more [] i h = absurd (omega arith)
bytes_more (w ∷ ws) zero h = refl
bytes_more (w ∷ ws) (suc i) h =
    let b : 4 * suc i + 4 ≡ suc (suc (suc (suc (4 * i + 4)))) = omega arith in
    let a : 4 * suc i ≡ suc (suc (suc (suc (4 * i)))) = omega arith in
    rw (b, a, bytes_more ws i (omega arith)) refl

-- Word i copied over its four bytes.
pub copied : (m bytes : List ℕ) (p i k n : ℕ) → p + 16 ≤ length m → i < 14 → length bytes ≡ 56 → n ≡ 14
    → take (4 * i) bytes ≡ take (4 * i) (payload_bytes m p) → (w : List ℕ) → w ≡ to_le_bytes w32 (get_or (take n (drop (p + 2) m)) i 0)
    → take (4 * (i + 1)) (put_mid (4 * i) k bytes w) ≡ take (4 * (i + 1)) (payload_bytes m p)
unfolding payload_bytes
copied m bytes p i k n h below long is e w ew =
    let ws : List ℕ = words_at 14 m (p + 2) in
    let same : take n (drop (p + 2) m) ≡ ws = rw is (sym (words_are 14 m (p + 2) (omega arith))) in
    let inside : i < length ws = rw (words_long 14 m (p + 2)) below in
    let word : w ≡ to_le_bytes w32 (get_or ws i 0) = rw same at ew in
    let end : 4 * (i + 1) ≡ 4 * i + 4 = omega arith in
    let four : 4 * i + 4 ≡ 4 * i + length w = rw word refl in
    rw (end, take-put_mid (4 * i) k bytes w (4 * i + 4) four (omega arith), e, bytes_more ws i inside, word) refl

pub put_long : (xs ys : List ℕ) (a k : ℕ) → k ≡ length ys → a + k ≤ length xs → length (put_mid a k xs ys) ≡ length xs
put_long xs ys a k e h = simp (length-append, length-take, length-drop) (omega arith)

pub all_copied : (m bytes : List ℕ) (p i : ℕ) → 14 ≤ i → length bytes ≡ 56
    → take (4 * i) bytes ≡ take (4 * i) (payload_bytes m p) → bytes ≡ payload_bytes m p
all_copied m bytes p i h n e =
    let k : length (payload_bytes m p) ≡ 56 = payload_long m p in
    sym (take_all (4 * i) bytes (omega arith)) ∙ e ∙ take_all (4 * i) (payload_bytes m p) (omega arith)
