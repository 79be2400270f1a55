-- Laws of a payload's groups, bytes and words. Assumes nothing.
use mathlib.Core.Path.{◌≡◌, refl, sym, ap, ◌∙◌}
use mathlib.Core.Logic.{⊎_elim}
use mathlib.Core.List.{List, [], ◌∷◌, ◌++◌, append_assoc}
use Prim.Native.Nat.{ℕ, zero, suc, ◌+◌, ◌*◌, ◌-◌, ◌/◌, ◌%◌, ◌<◌, ◌≤◌}
use native.Mathlib.Omega.{arith}
use lib.ListN.{length, get_or, set, take, drop, replicate, length-append}
use lib.ListN.{length-replicate}
use lib.Seq.{take-suc-set, take-suc, take_all}
use native.Mathlib.Numerals.{add-one}
use Rattle.scan_queue.proofs.Encoding.{groups_some, words_length}
use borrow.Rule.Slice.PartMut.{put_mid}
use Rattle.std.proofs.lemmas.List.{length-take, take_more_set, drop-replicate, set_at, take_at, drop_at}
use Rattle.std.proofs.lemmas.Bool.{cases_lt}
use borrow.Author.Tests.{lt-ltb, le-ltb}
use Rattle.scan_queue.specs.Payload.{groups, words_of, filled, written}

-- ---- the groups of a number

one_more : (k w : ℕ) → (128 ≤ w → groups k (w / 128) ≡ groups (suc k) (w / 128)) → groups (suc k) w ≡ groups (suc (suc k)) w
unfolding groups
one_more k w more =
    ⊎_elim (λ (h : w < 128). rw (lt-ltb w 128 h) refl) (λ (h : 128 ≤ w). rw (le-ltb w 128 h) (ap (λ l. (w % 128 + 128) ∷ l) (more h))) (cases_lt w 128)

enough : (w : ℕ) → w < 2097152 → groups 3 w ≡ groups 4 w
enough w h = one_more 2 w (λ _. one_more 1 (w / 128) (λ _. one_more 0 (w / 128 / 128) (λ c. absurd (omega arith))))

last_group : (v : ℕ) → v < 128 → groups 4 v ≡ v ∷ []
unfolding groups
last_group v h = rw (lt-ltb v 128 h) refl

first_group : (v : ℕ) → 128 ≤ v → v < 268435456 → groups 4 v ≡ (v % 128 + 128) ∷ groups 4 (v / 128)
unfolding groups
first_group v a h = rw (le-ltb v 128 a) (ap (λ l. (v % 128 + 128) ∷ l) (enough (v / 128) (omega arith)))

pub few_groups : (k v : ℕ) → length (groups k v) ≤ k
unfolding groups
few_groups zero v = omega arith
few_groups (suc k) v =
    ⊎_elim (λ (h : v < 128). rw (lt-ltb v 128 h) (omega arith)) (λ (h : 128 ≤ v). rw (le-ltb v 128 h) (omega (arith, few_groups k (v / 128)))) (cases_lt v 128)

-- The first n of four bytes are the groups laid so far; with those of what is left they are those of the number.
module _ (bytes : List ℕ) (n v r : ℕ) (four : length bytes ≡ 4) (few : n ≤ 4) (same : take n bytes ++ groups 4 r ≡ groups 4 v) where
  pub group_room : n < 4
  group_room = omega (arith, simp (length-append, length-take) at (ap length same), groups_some 3 r, few_groups 4 v)

  pub group_laid : 128 ≤ r → r < 268435456 → take (n + 1) (set bytes n (r % 128 + 128)) ++ groups 4 (r / 128) ≡ groups 4 v
  group_laid a h =
      rw (take_more_set bytes n (r % 128 + 128) (omega (arith, group_room)))
      (append_assoc (take n bytes) ((r % 128 + 128) ∷ []) (groups 4 (r / 128)) ∙ (rw (first_group r a h) at same))

  pub groups_laid : r < 128 → take (n + 1) (set bytes n r) ≡ groups 4 v
  groups_laid h = take_more_set bytes n r (omega (arith, group_room)) ∙ (rw (last_group r h) at same)

-- ---- the 56 bytes: groups, length and bytes, copied over ones

copied : (gs bytes : List ℕ) → length gs ≤ 4 → length bytes ≤ 48
    → put_mid (length gs + 1) (length gs + 1 + length bytes - (length gs + 1)) (set (gs ++ drop (length gs) (replicate 56 255)) (length gs) (length bytes)) bytes
    ≡ filled (gs ++ (length bytes ∷ []) ++ bytes)
copied gs bytes h k =
    let n : ℕ = length gs in
    let l : ℕ = length bytes in
    let ones : List ℕ = replicate (55 - n) 255 in
    let head : List ℕ = gs ++ (l ∷ []) in
    let long : length head ≡ n + 1 = length-append gs (l ∷ []) in
    let all : length (head ++ bytes) ≡ n + 1 + l = length-append head bytes ∙ omega (arith, long) in
    let more : 56 - n ≡ suc (55 - n) = omega arith in
    let left : 55 - n - l ≡ 56 - length (head ++ bytes) = omega (arith, all) in
    let count : n + 1 + l - (n + 1) ≡ l = omega arith in
    let over : set (gs ++ drop n (replicate 56 255)) n l ≡ head ++ ones
    = rw (drop-replicate {X = ℕ} n 56 255, more) (set_at gs 255 ones l n refl ∙ sym (append_assoc gs (l ∷ []) ones)) in
    rw (over, take_at head ones (n + 1) long, drop_at head ones (n + 1) long, count, drop-replicate {X = ℕ} l (55 - n) 255, left)
    (sym (append_assoc head bytes (replicate (56 - length (head ++ bytes)) 255)))

pub all_laid : (v : ℕ) (gs bytes x y : List ℕ) (n : ℕ) → gs ≡ groups 4 v → length bytes ≤ 48 → x ≡ gs → y ≡ bytes → n ≡ length gs
    → put_mid (n + 1) (n + 1 + length bytes - (n + 1)) (set (x ++ drop n (replicate 56 255)) n (length bytes)) y ≡ written (record { serial = v; bytes = bytes })
unfolding written
all_laid v gs bytes x y n is h ex ey en =
    rw (ex, ey, en) (copied gs bytes (rw is (few_groups 4 v)) h ∙ rw (is, last_group (length bytes) (omega arith)) refl)

-- ---- words

pub word_at : (l : List ℕ) (i : ℕ) → 4 * i + 3 < length l
    → get_or (words_of l) i 0 ≡ get_or l (4 * i) 0 + 256 * get_or l (4 * i + 1) 0 + 65536 * get_or l (4 * i + 2) 0 + 16777216 * get_or l (4 * i + 3) 0
unfolding words_of
word_at [] i h = absurd (omega arith)
word_at (a ∷ []) i h = absurd (omega arith)
word_at (a ∷ b ∷ []) i h = absurd (omega arith)
word_at (a ∷ b ∷ c ∷ []) i h = absurd (omega arith)
word_at (a ∷ b ∷ c ∷ d ∷ l) zero h = refl
word_at (a ∷ b ∷ c ∷ d ∷ l) (suc i) h =
    let p0 : 4 * suc i ≡ suc (suc (suc (suc (4 * i)))) = omega arith in
    let p1 : 4 * suc i + 1 ≡ suc (suc (suc (suc (4 * i + 1)))) = omega arith in
    let p2 : 4 * suc i + 2 ≡ suc (suc (suc (suc (4 * i + 2)))) = omega arith in
    let p3 : 4 * suc i + 3 ≡ suc (suc (suc (suc (4 * i + 3)))) = omega arith in
    rw (p1, p2, p3, p0) (word_at l i (omega arith))

-- One word more.
pub word_laid : (w l : List ℕ) (i v : ℕ) → length w ≡ 14 → length l ≡ 56 → i < 14 → take i w ≡ take i (words_of l)
    → v ≡ get_or l (4 * i) 0 + 256 * get_or l (4 * i + 1) 0 + 65536 * get_or l (4 * i + 2) 0 + 16777216 * get_or l (4 * i + 3) 0
    → take (i + 1) (set w i v) ≡ take (i + 1) (words_of l)
word_laid w l i v n m h e is =
    let a : i < length w = omega arith in
    let k : length (words_of l) ≡ 14 = words_length l ∙ rw m refl in
    let b : i < length (words_of l) = omega arith in
    rw (add-one, take-suc-set w i v a, take-suc (words_of l) i 0 b, e, is, word_at l i (omega arith)) refl

pub written_long : (v : ℕ) (bytes : List ℕ) → length bytes ≤ 48 → length (written (record { serial = v; bytes = bytes })) ≡ 56
unfolding written
written_long v bytes h = rw (last_group (length bytes) (omega arith)) (simp (length-append, length-replicate) (omega (arith, few_groups 4 v)))

pub all_words : (w l : List ℕ) (i : ℕ) → 14 ≤ i → length w ≡ 14 → length l ≡ 56 → take i w ≡ take i (words_of l) → w ≡ words_of l
all_words w l i h n m e =
    let k : length (words_of l) ≡ 14 = words_length l ∙ rw m refl in
    sym (take_all i w (omega arith)) ∙ e ∙ take_all i (words_of l) (omega arith)
