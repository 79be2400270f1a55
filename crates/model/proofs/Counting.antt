-- The count of changed bits is the number of places where two words differ, and the number of ones in their difference. Assumes nothing.
use mathlib.Core.Path.{◌≡◌, refl, ap, ap₂, sym, ◌∙◌}
use mathlib.Core.Bool.{not, cond}
use Prim.Native.Nat.{ℕ, zero, suc, ◌+◌, ◌/◌, ◌%◌, ◌^◌, ◌<◌}
use native.Mathlib.Nat.{add_comm, div-one}
use native.Mathlib.Numerals.{add-one}
use native.Mathlib.Omega.{arith}
use lib.Arith.{lt-one}
use lib.Pow.{shr-shr}
use lib.Bits.{differ, bit_xor, xor_step}
use lib.Count.{ones, ones_step}
use lib.Dec.{eqb, lit<}
use Rattle.model.specs.Words.{differ_in, changed_bits, all_ones}
use Rattle.model.specs.Counting.{differs_at, count_below, CountsPlaces, CountsOnes}
use Rattle.model.proofs.Words.{digit_below, of_digits, digits_at_most, half}

-- ---- place by place

-- The bench sheet's 0x12345678 programmed onto ones, computed.
places_of_bench : count_below 32 (differs_at all_ones 0x12345678) ≡ 19
places_of_bench = refl

-- Two binary digits differ by one where they are not the same.
digits_differ : (x y : ℕ) → x < 2 → y < 2 → differ x y ≡ cond (not (eqb x y)) 1 0
digits_differ = of_digits (λ (x y : ℕ). differ x y ≡ cond (not (eqb x y)) 1 0) refl refl refl refl

-- Place k of the half is place k + 1 of the whole.
next_place : (a k : ℕ) → a / 2 / 2 ^ k ≡ a / 2 ^ suc k
next_place a k = shr-shr a 1 k ∙ ap (λ (x : ℕ). a / 2 ^ x) (add_comm 1 k ∙ add-one k)

-- Of k + 1 places: the k lowest, and then place k.
highest_last : (k a b : ℕ) → differ_in (suc k) a b ≡ differ_in k a b + differ (a / 2 ^ k % 2) (b / 2 ^ k % 2)
unfolding differ_in
highest_last zero a b = rw (div-one a, div-one b) (add_comm (differ (a % 2) (b % 2)) 0)
highest_last (suc k) a b =
    let above = rw (next_place a k, next_place b k) at (highest_last k (a / 2) (b / 2)) in
    omega arith

-- The k lowest places where two words differ are the places below k at which they do.
places_below : (k a b : ℕ) → differ_in k a b ≡ count_below k (differs_at a b)
unfolding differ_in
places_below zero a b = refl
places_below (suc k) a b =
    highest_last k a b
    ∙ ap₂ (λ (x y : ℕ). x + y) (places_below k a b) (digits_differ (a / 2 ^ k % 2) (b / 2 ^ k % 2) (digit_below _) (digit_below _))

pub counts_places : CountsPlaces
unfolding changed_bits
counts_places old new = places_below 32 old new

-- ---- in the difference

-- The places where two words of k bits differ are the ones in their difference.
ones_of_difference : (k a b : ℕ) → a < 2 ^ k → b < 2 ^ k → differ_in k a b ≡ ones (bit_xor a b)
unfolding differ_in ones
ones_of_difference zero a b h g = sym (ap₂ (λ (x y : ℕ). ones (bit_xor x y)) (lt-one h) (lt-one g))
ones_of_difference (suc k) a b h g =
    let step = xor_step a b in
    let low = digits_at_most (a % 2) (b % 2) (digit_below a) (digit_below b) in
    let lowest : bit_xor a b % 2 ≡ differ (a % 2) (b % 2) = omega arith in
    let rest : bit_xor a b / 2 ≡ bit_xor (a / 2) (b / 2) = omega arith in
    ap (λ (x : ℕ). differ (a % 2) (b % 2) + x) (ones_of_difference k (a / 2) (b / 2) (half k a h) (half k b g))
    ∙ sym (ones_step (bit_xor a b) ∙ ap₂ (λ (x y : ℕ). x + ones y) lowest rest)

pub counts_ones : CountsOnes
unfolding changed_bits
counts_ones old new h g = ones_of_difference 32 old new (omega arith) (omega arith)

-- The same two words through both laws; their difference is too large for `ones` to compute.
ones_of_bench : ones (bit_xor all_ones 0x12345678) ≡ 19
ones_of_bench = sym (counts_ones all_ones 0x12345678 (lit< tt) (lit< tt)) ∙ counts_places all_ones 0x12345678 ∙ places_of_bench
