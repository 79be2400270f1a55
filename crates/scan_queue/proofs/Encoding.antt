-- What a write puts into words 2 to 15 is read back as the scan that was written. Assumes nothing.
use mathlib.Core.Path.{◌≡◌, refl, sym, ap, ◌∙◌, subst}
use mathlib.Core.Logic.{⊎_elim}
use mathlib.Core.Bool.{true, false, ◌||◌}
use mathlib.Core.List.{List, [], ◌∷◌, ◌++◌, append_assoc}
use Prim.Native.Nat.{ℕ, zero, suc, ◌+◌, ◌*◌, ◌-◌, ◌/◌, ◌%◌, ◌<◌, ◌≤◌}
use native.Mathlib.Nat.{mod-eq_of_lt}
use native.Mathlib.Numerals.{add-one}
use native.Mathlib.Omega.{arith}
use lib.Dec.{ltb, leb}
use lib.ListN.{length, get_or, drop, replicate, length-append, length-replicate, length-drop}
use lib.Seq.{drop-cons, drop-drop, take-append_seam, drop-append_seam}
use Rattle.std.specs.Prelude.{Some}
use Rattle.model.proofs.Bool.{which}
use borrow.Author.Tests.{lt-ltb, lt-leb, le-leb, leb-false, eq-eqb, ltb-true, ltb-false}
use Rattle.std.proofs.Common.{Ok}
use Rattle.numbers.specs.Number.{Parsed, largest, last_group, groups_value, shortest, number_between, number_at, limited, number_to, then_number}
use Rattle.numbers.proofs.Laws.{last_here, last_on}
pub use Rattle.scan_queue.specs.Payload.{Below}
use Rattle.scan_queue.specs.Payload.{Scan, max_serial, max_length, payload_length, groups, bytes_of, words_of, all, serial_in, length_in, body_of, payload_of, written}

-- ---- a number and its groups

-- The number v is read at a place of s, and its last group stands n further on.
record ReadAt (s : List ℕ) (at v n : ℕ) : Type 0 where
  ends : last_group s at ≡ at + n
  inside : at + n < length s
  value : groups_value s at (suc n) ≡ v
  some : 0 < v → 0 < get_or s (at + n) 0
  short : 0 < n → 0 < v

front : (s t : List ℕ) (at x : ℕ) → drop at s ≡ x ∷ t → (at < length s) × (get_or s at 0 ≡ x) × (drop (at + 1) s ≡ t)
front s t at x e =
    let l : length s - at ≡ suc (length t) = sym (length-drop at s) ∙ ap length e in
    let h : at < length s = omega arith in
    let c : get_or s at 0 ∷ drop (suc at) s ≡ x ∷ t = sym (drop-cons s at 0 h) ∙ e in
    (h, ap (λ (k : List ℕ). get_or k 0 0) c, rw add-one (ap (λ (k : List ℕ). drop 1 k) c))

-- One group alone,
read_one : (s t : List ℕ) (at v : ℕ) → drop at s ≡ v ∷ t → v < 128 → ReadAt s at v 0
unfolding groups_value
read_one s t at v e h =
    let f = front s t at v e in
    let z : at + 0 ≡ at = omega arith in
    let b : get_or s at 0 < 128 = rw f.1 h in
    let r : get_or s at 0 % 128 ≡ v = mod-eq_of_lt b ∙ f.1 in
    record {
      ends = last_here s at f.0 b ∙ sym z;
      inside = rw z f.0;
      value = rw r (omega arith);
      some = λ k. rw (z, f.1) k;
      short = λ k. omega arith;
    }

-- and one before others.
read_more : (s t : List ℕ) (at v n : ℕ) → drop at s ≡ (v % 128 + 128) ∷ t → 128 ≤ v → ReadAt s (at + 1) (v / 128) n → ReadAt s at v (suc n)
unfolding groups_value
read_more s t at v n e h g =
    let f = front s t at (v % 128 + 128) e in
    let big : 128 ≤ get_or s at 0 = rw f.1 (omega arith) in
    let low : get_or s at 0 % 128 ≡ v % 128 = ap (λ (x : ℕ). x % 128) f.1 ∙ omega arith in
    let next : at + suc n ≡ at + 1 + n = omega arith in
    let rest : groups_value s (at + 1) (suc n) ≡ v / 128 = g.value in
    record {
      ends = last_on s at f.0 big ∙ g.ends ∙ sym next;
      inside = rw next g.inside;
      value = rw low (ap (λ (x : ℕ). v % 128 + 128 * x) rest ∙ omega arith);
      some = λ k. rw next (g.some (omega arith));
      short = λ k. omega arith;
    }

pub groups_some : (k v : ℕ) → 1 ≤ length (groups (suc k) v)
unfolding groups
groups_some k v = ⊎_elim (λ e. rw e (omega arith)) (λ e. rw e (omega arith)) (which (ltb v 128))

-- How many groups stand before the last.
abbrev before_last : ℕ → ℕ → ℕ
before_last k v = length (groups (suc k) v) - 1

read_step : (k v : ℕ) (s l : List ℕ) (at : ℕ) → drop at s ≡ groups (suc k) v ++ l
    → (128 ≤ v → (t : List ℕ) → drop (at + 1) s ≡ groups k (v / 128) ++ l → ReadAt s (at + 1) (v / 128) (length (groups k (v / 128)) - 1) × (1 ≤ length (groups k (v / 128))))
    → ReadAt s at v (before_last k v)
unfolding groups
read_step k v s l at e h =
    ⊎_elim
    (λ (t : ltb v 128 ≡ true). let g : drop at s ≡ v ∷ l = rw t at e in rw t (read_one s l at v g (ltb-true v 128 t)))
    (λ (t : ltb v 128 ≡ false).
    let g : drop at s ≡ (v % 128 + 128) ∷ (groups k (v / 128) ++ l) = rw t at e in
    let big : 128 ≤ v = ltb-false v 128 t in
    let r = h big [] (front s (groups k (v / 128) ++ l) at (v % 128 + 128) g).2 in
    let n : suc (length (groups k (v / 128)) - 1) ≡ suc (length (groups k (v / 128))) - 1 = omega (arith, r.1) in
    let x = read_more s (groups k (v / 128) ++ l) at v (length (groups k (v / 128)) - 1) g big r.0 in
    rw t (subst (λ (j : ℕ). ReadAt s at v j) n x))
    (which (ltb v 128))

read_groups : (v : ℕ) (s l : List ℕ) (at : ℕ) → v < 268435456 → drop at s ≡ groups 4 v ++ l → ReadAt s at v (before_last 3 v)
read_groups v s l at h e =
    read_step 3 v s l at e λ a t2 e2. (
      read_step 2 (v / 128) s l (at + 1) e2 (λ b t3 e3. (
        read_step 1 (v / 128 / 128) s l (at + 1 + 1) e3
            (λ c t4 e4. (read_step 0 (v / 128 / 128 / 128) s l (at + 1 + 1 + 1) e4 (λ d t5 e5. absurd (omega arith)), groups_some 0 (v / 128 / 128 / 128))),
        groups_some 1 (v / 128 / 128),
      )),
      groups_some 2 (v / 128),
    )

abbrev numeral : ℕ → ℕ → Parsed
numeral v n = Ok (record { value = v; next = n })

-- A number that was written is read back, with the place after it.
pub number_groups : (v max : ℕ) (s l : List ℕ) (at : ℕ) → v < 268435456 → v ≤ max → drop at s ≡ groups 4 v ++ l
    → number_to s max at ≡ numeral v (at + length (groups 4 v))
unfolding number_to limited number_at number_between shortest
number_groups v max s l at h m e =
    let r = read_groups v s l at h e in
    let n : ℕ = before_last 3 v in
    let some : 1 ≤ length (groups 4 v) = groups_some 3 v in
    let next : at + before_last 3 v + 1 ≡ at + length (groups 4 v) = omega arith in
    let k : at + before_last 3 v - at + 1 ≡ suc (before_last 3 v) = omega arith in
    rw (r.ends, lt-leb _ _ r.inside, k, r.value, le-leb v largest (omega arith), short_form r, next, le-leb v max m)
  where
    short_form : ReadAt s at v (before_last 3 v) → leb (at + before_last 3 v) at || ltb 0 (get_or s (at + before_last 3 v) 0) ≡ true
    short_form r =
        ⊎_elim
        (λ (t : leb (at + before_last 3 v) at ≡ true). rw t)
        (λ (t : leb (at + before_last 3 v) at ≡ false).
        let p : 0 < before_last 3 v = omega (arith, leb-false (at + before_last 3 v) at t) in
        rw (t, lt-ltb 0 _ (r.some (r.short p))))
        (which (leb (at + before_last 3 v) at))

groups_length : (k v : ℕ) → length (groups k v) ≤ k
unfolding groups
groups_length zero v = omega arith
groups_length (suc k) v = ⊎_elim (λ e. rw e (omega arith)) (λ e. rw e (omega (arith, groups_length k (v / 128)))) (which (ltb v 128))

groups_below : (k v : ℕ) → Below 256 (groups k v)
unfolding groups
groups_below zero v = tt
groups_below (suc k) v =
    ⊎_elim (λ e. rw e (omega (arith, ltb-true v 128 e), tt)) (λ e. rw e (omega arith, groups_below k (v / 128))) (which (ltb v 128))

-- ---- bytes and words

below_append : (n : ℕ) (l k : List ℕ) → Below n l → Below n k → Below n (l ++ k)
below_append n [] k h g = g
below_append n (b ∷ l) k h g = (h.0, below_append n l k h.1 g)

below_replicate : (n k x : ℕ) → x < n → Below n (replicate k x)
below_replicate n zero x h = tt
below_replicate n (suc k) x h = (h, below_replicate n k x h)

record Bytes (x y z u : ℕ) : Type 0 where
  a : x < 256
  b : y < 256
  c : z < 256
  d : u < 256

low : (x y : ℕ) → x < 256 → (x + 256 * y) % 256 ≡ x
low x y h = omega arith

byte0 : (a b c d : ℕ) → Bytes a b c d → (a + 256 * b + 65536 * c + 16777216 * d) % 256 ≡ a
byte0 a b c d h = omega arith

byte1 : (a b c d : ℕ) → Bytes a b c d → (a + 256 * b + 65536 * c + 16777216 * d) / 256 % 256 ≡ b
byte1 a b c d h =
    let q : (a + 256 * b + 65536 * c + 16777216 * d) / 256 ≡ b + 256 * (c + 256 * d) = omega arith in
    rw q (low b (c + 256 * d) h.b)

byte2 : (a b c d : ℕ) → Bytes a b c d → (a + 256 * b + 65536 * c + 16777216 * d) / 65536 % 256 ≡ c
byte2 a b c d h =
    let q : (a + 256 * b + 65536 * c + 16777216 * d) / 65536 ≡ c + 256 * d = omega arith in
    rw q (low c d h.c)

byte3 : (a b c d : ℕ) → Bytes a b c d → (a + 256 * b + 65536 * c + 16777216 * d) / 16777216 % 256 ≡ d
byte3 a b c d h =
    let q : (a + 256 * b + 65536 * c + 16777216 * d) / 16777216 ≡ d = omega arith in
    rw q (omega arith)

pub bytes_words : (l : List ℕ) → length l % 4 ≡ 0 → Below 256 l → bytes_of (words_of l) ≡ l
unfolding bytes_of words_of
bytes_words [] e h = refl
bytes_words (a ∷ []) e h = absurd (omega arith)
bytes_words (a ∷ b ∷ []) e h = absurd (omega arith)
bytes_words (a ∷ b ∷ c ∷ []) e h = absurd (omega arith)
bytes_words (a ∷ b ∷ c ∷ d ∷ l) e h =
    let r : bytes_of (words_of l) ≡ l = bytes_words l (omega arith) h.1.1.1.1 in
    let g : Bytes a b c d = record { a = h.0; b = h.1.0; c = h.1.1.0; d = h.1.1.1.0 } in
    rw (byte0 a b c d g, byte1 a b c d g, byte2 a b c d g, byte3 a b c d g, r)

pub words_below : (l : List ℕ) → Below 256 l → Below 4294967296 (words_of l)
unfolding words_of
words_below [] h = tt
words_below (a ∷ []) h = tt
words_below (a ∷ b ∷ []) h = tt
words_below (a ∷ b ∷ c ∷ []) h = tt
words_below (a ∷ b ∷ c ∷ d ∷ l) h = (omega arith, words_below l h.1.1.1.1)

pub words_length : (l : List ℕ) → length (words_of l) ≡ length l / 4
unfolding words_of
words_length [] = refl
words_length (a ∷ []) = refl
words_length (a ∷ b ∷ []) = refl
words_length (a ∷ b ∷ c ∷ []) = refl
words_length (a ∷ b ∷ c ∷ d ∷ l) = omega (arith, words_length l)

-- ---- the payload

all_replicate : (x n : ℕ) → all x (replicate n x) ≡ true
unfolding all
all_replicate x zero = refl
all_replicate x (suc n) = rw (eq-eqb x x refl, all_replicate x n)

-- A scan that may be written.
pub record Fits (s : Scan) : Type 0 where
  pub low : s.serial < 268435456
  pub some : 1 ≤ length s.bytes
  pub most : length s.bytes ≤ 48
  pub are : Below 256 s.bytes

pub written_length : (s : Scan) → Fits s → length (written s) ≡ 56
unfolding written
written_length s h =
    simp (length-append, length-replicate) (omega (arith, groups_length 4 s.serial, groups_length 4 (length s.bytes)))

pub written_below : (s : Scan) → Fits s → Below 256 (written s)
unfolding written
written_below s h =
    below_append 256 (groups 4 s.serial ++ groups 4 (length s.bytes) ++ s.bytes) _
    (below_append 256 (groups 4 s.serial ++ groups 4 (length s.bytes)) _
    (below_append 256 (groups 4 s.serial) _ (groups_below 4 s.serial) (groups_below 4 (length s.bytes))) h.are)
    (below_replicate 256 (56 - length (groups 4 s.serial ++ groups 4 (length s.bytes) ++ s.bytes)) 255 (omega arith))

read_back : (s : Scan) (n : ℕ) → Fits s
    → payload_of (groups 4 s.serial ++ (groups 4 (length s.bytes) ++ (s.bytes ++ replicate n 255))) ≡ Some s
unfolding payload_of serial_in length_in then_number body_of
read_back s n h =
    let a : List ℕ = groups 4 s.serial in
    let b : List ℕ = groups 4 (length s.bytes) in
    let rest : List ℕ = s.bytes ++ replicate n 255 in
    let k : ℕ = length s.bytes in
    let all_of : List ℕ = a ++ (b ++ rest) in
    let first : number_to all_of max_serial 0 ≡ numeral s.serial (length a) = number_groups s.serial max_serial all_of (b ++ rest) 0 h.low (omega (arith, h.low)) refl ∙ ap (λ (x : ℕ). numeral s.serial x) (omega arith) in
    let past : drop (length a) all_of ≡ b ++ rest = drop-append_seam a (b ++ rest) in
    let second : number_to all_of max_length (length a) ≡ numeral k (length a + length b)
    = number_groups k max_length all_of rest (length a) (omega (arith, h.most)) h.most past in
    let at : drop (length a + length b) all_of ≡ rest = sym (drop-drop (length b) (length a) all_of) ∙ rw (past, drop-append_seam b rest) in
    let end : drop (length a + length b + k) all_of ≡ replicate n 255 = sym (drop-drop k (length a + length b) all_of) ∙ rw (at, drop-append_seam s.bytes (replicate n 255)) in
    let size : length all_of ≡ length a + (length b + (k + n)) = simp (length-append, length-replicate) in
    let inside : length a + length b + k ≤ length all_of = omega arith in
    rw (first, second, at, end, le-leb 1 k h.some, le-leb _ _ inside, take-append_seam s.bytes (replicate n 255), all_replicate 255 n)

pub payload_written : (s : Scan) → Fits s → payload_of (written s) ≡ Some s
unfolding written
payload_written s h = simp append_assoc (read_back s (payload_length - length (groups 4 s.serial ++ (groups 4 (length s.bytes) ++ s.bytes))) h)
