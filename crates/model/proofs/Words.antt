-- Laws of bus words: programming only clears bits, and the count of changed bits measures how far two words differ. Assumes nothing.
use mathlib.Core.Path.{◌≡◌, refl, ap, ap₂, sym, ◌∙◌}
use Prim.Native.Nat.{ℕ, zero, suc, min, ◌+◌, ◌/◌, ◌%◌, ◌^◌, ◌<◌, ◌≤◌}
use native.Mathlib.Nat.{mod-lt, zero-lt-suc, mod-eq_of_lt}
use native.Mathlib.Numerals.{add-one}
use native.Mathlib.Omega.{arith}
use lib.Arith.{lt-one}
use lib.Dec.{lit≤}
use lib.Pow.{shr_lt}
use lib.Bits.{bit_and, differ, and_shr, and_mod, and_comm, and_le_l, and_mask}
use Rattle.model.specs.Words.{programmed, differ_in, changed_bits, all_ones}

-- A binary digit is 0 or 1.
pub digit_below : (a : ℕ) → a % 2 < 2
digit_below a = mod-lt a (zero-lt-suc 1)

-- What holds of every pair of 0 and 1 holds of any two binary digits.
pub of_digits : (P : ℕ → ℕ → Type 0) → P 0 0 → P 0 1 → P 1 0 → P 1 1 → (x y : ℕ) → x < 2 → y < 2 → P x y
of_digits P p q r s zero zero h k = p
of_digits P p q r s zero (suc zero) h k = q
of_digits P p q r s zero (suc (suc y)) h k = absurd (omega arith)
of_digits P p q r s (suc zero) zero h k = r
of_digits P p q r s (suc zero) (suc zero) h k = s
of_digits P p q r s (suc zero) (suc (suc y)) h k = absurd (omega arith)
of_digits P p q r s (suc (suc x)) y h k = absurd (omega arith)

-- Of two binary digits, `bit_and` is the smaller.
and_digits : (x y : ℕ) → x < 2 → y < 2 → bit_and x y ≡ min x y
and_digits = of_digits (λ (x y : ℕ). bit_and x y ≡ min x y) refl refl refl refl

-- Bit k of a programmed word is one only if bit k of both words is one.
pub programmed_bit : (a b k : ℕ) → programmed a b / 2 ^ k % 2 ≡ min (a / 2 ^ k % 2) (b / 2 ^ k % 2)
unfolding programmed
programmed_bit a b k =
    ap (λ (x : ℕ). x % 2) (and_shr a b k)
    ∙ and_mod (a / 2 ^ k) (b / 2 ^ k) 1
    ∙ and_digits (a / 2 ^ k % 2) (b / 2 ^ k % 2) (digit_below _) (digit_below _)

-- Programming never makes a word larger.
pub programmed_at_most : (a b : ℕ) → programmed a b ≤ a
unfolding programmed
programmed_at_most a b = and_le_l a b

-- It does not matter which of two words was there first.
pub programmed_either_way : (a b : ℕ) → programmed a b ≡ programmed b a
unfolding programmed
programmed_either_way a b = and_comm a b

-- Programming ones leaves a word as it is.
pub programming_ones : (a : ℕ) → a < 2 ^ 32 → programmed a all_ones ≡ a
unfolding programmed
programming_ones a h = and_mask a 32 ∙ mod-eq_of_lt h

-- Programming onto ones stores the new word.
pub programming_onto_ones : (a : ℕ) → a < 2 ^ 32 → programmed all_ones a ≡ a
programming_onto_ones a h = programmed_either_way all_ones a ∙ programming_ones a h

-- A digit does not differ from itself.
same_digit : (x : ℕ) → differ x x ≡ 0
same_digit zero = refl
same_digit (suc x) = same_digit x

-- Digits that do not differ are the same.
pub digits_the_same : (x y : ℕ) → differ x y ≡ 0 → x ≡ y
digits_the_same zero y e = sym e
digits_the_same (suc x) zero e = e
digits_the_same (suc x) (suc y) e = ap suc (digits_the_same x y e)

-- Two binary digits differ by at most one.
pub digits_at_most : (x y : ℕ) → x < 2 → y < 2 → differ x y ≤ 1
digits_at_most = of_digits (λ (x y : ℕ). differ x y ≤ 1) (lit≤ tt) (lit≤ tt) (lit≤ tt) (lit≤ tt)

-- Digits differ alike either way round.
digits_either_way : (x y : ℕ) → differ x y ≡ differ y x
digits_either_way zero zero = refl
digits_either_way zero (suc y) = refl
digits_either_way (suc x) zero = refl
digits_either_way (suc x) (suc y) = digits_either_way x y

-- Of k places at most k differ.
pub differ_in_at_most : (k a b : ℕ) → differ_in k a b ≤ k
unfolding differ_in
differ_in_at_most zero a b = omega arith
differ_in_at_most (suc k) a b =
    omega (arith, digits_at_most (a % 2) (b % 2) (digit_below a) (digit_below b), differ_in_at_most k (a / 2) (b / 2))

-- A word differs from itself in no place.
pub differ_in_itself : (k a : ℕ) → differ_in k a a ≡ 0
unfolding differ_in
differ_in_itself zero a = refl
differ_in_itself (suc k) a = ap₂ (λ (x y : ℕ). x + y) (same_digit (a % 2)) (differ_in_itself k (a / 2))

-- Two words differ in as many places either way round.
pub differ_in_either_way : (k a b : ℕ) → differ_in k a b ≡ differ_in k b a
unfolding differ_in
differ_in_either_way zero a b = refl
differ_in_either_way (suc k) a b =
    ap₂ (λ (x y : ℕ). x + y) (digits_either_way (a % 2) (b % 2)) (differ_in_either_way k (a / 2) (b / 2))

-- Without its lowest bit, a word of k + 1 bits has k.
pub half : (k a : ℕ) → a < 2 ^ suc k → a / 2 < 2 ^ k
half k a h = shr_lt k 1 (rw add-one h)

-- Words of k bits that differ in no place are the same.
pub differ_in_none : (k a b : ℕ) → a < 2 ^ k → b < 2 ^ k → differ_in k a b ≡ 0 → a ≡ b
unfolding differ_in
differ_in_none zero a b h g e = lt-one h ∙ sym (lt-one g)
differ_in_none (suc k) a b h g e =
    let low : a % 2 ≡ b % 2 = digits_the_same (a % 2) (b % 2) (omega arith) in
    let high : a / 2 ≡ b / 2 = differ_in_none k (a / 2) (b / 2) (half k a h) (half k b g) (omega arith) in
    omega arith

-- A store changes at most 32 bits.
pub changed_at_most : (a b : ℕ) → changed_bits a b ≤ 32
unfolding changed_bits
changed_at_most a b = differ_in_at_most 32 a b

-- Storing what is there changes no bit.
pub changed_by_itself : (a : ℕ) → changed_bits a a ≡ 0
unfolding changed_bits
changed_by_itself a = differ_in_itself 32 a

-- A store that changes no bit stores what was there.
pub changed_none : (a b : ℕ) → a < 2 ^ 32 → b < 2 ^ 32 → changed_bits a b ≡ 0 → a ≡ b
unfolding changed_bits
changed_none a b h g e = differ_in_none 32 a b h g e

-- As many bits change either way round.
pub changed_either_way : (a b : ℕ) → changed_bits a b ≡ changed_bits b a
unfolding changed_bits
changed_either_way a b = differ_in_either_way 32 a b
