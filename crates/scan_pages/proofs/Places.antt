-- The words of a data page, and their byte addresses. Assumes nothing.
use Prim.Native.Nat.{ℕ, ◌+◌, ◌*◌, ◌/◌, ◌%◌, ◌<◌, ◌≤◌}
use native.Mathlib.Omega.{arith}
use mathlib.Core.Path.{◌≡◌, refl}
use mathlib.Core.Bool.{true, false}
use mathlib.Core.Logic.{⊎_elim}
use lib.Dec.{ltb}
use borrow.Author.Tests.{lt-ltb, le-ltb, ltb-true, ltb-false}
use Rattle.model.specs.Geometry.{image_page, word_at}
use Rattle.model.proofs.Bool.{which}
use Rattle.scan_pages.specs.Pages.{page_word, word_address}

-- Bank 0's data pages come first,
pub low_page : (d p : ℕ) → p < d → page_word d p ≡ 256 * p
unfolding image_page
low_page d p h = rw (lt-ltb p d h) (omega arith)

-- bank 1's come after bank 0's 13 information pages.
pub high_page : (d p : ℕ) → d ≤ p → page_word d p ≡ 256 * p + 3328
unfolding image_page
high_page d p h = rw (le-ltb p d h) (omega arith)

-- The address of word k of page p,
pub address_of : (d p k : ℕ) → k < 256 → word_address d (page_word d p + k) ≡ 1024 * p + 4 * k
unfolding word_address
address_of d p k h =
    ⊎_elim
    (λ (e : ltb p d ≡ true).
    let low : p < d = ltb-true p d e in
    let at : page_word d p ≡ 256 * p = low_page d p low in
    let below : 256 * p + k < d * 256 = omega arith in
    rw (at, lt-ltb (256 * p + k) (d * 256) below) (omega arith))
    (λ (e : ltb p d ≡ false).
    let high : d ≤ p = ltb-false p d e in
    let at : page_word d p ≡ 256 * p + 3328 = high_page d p high in
    let past : d * 256 ≤ 256 * p + 3328 + k = omega arith in
    rw (at, le-ltb (256 * p + 3328 + k) (d * 256) past) (omega arith))
    (which (ltb p d))

-- and the word at that address.
pub word_of : (d p k : ℕ) → k < 256 → (word_at d false 0 (record { 0 = 1024 * p + 4 * k })).0 ≡ page_word d p + k
unfolding word_at
word_of d p k h =
    let page : (1024 * p + 4 * k) / 1024 ≡ p = omega arith in
    let word : (1024 * p + 4 * k) % 1024 / 4 ≡ k = omega arith in
    rw (page, word) refl
