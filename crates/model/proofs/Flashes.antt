-- What a stored word leaves of the flash. Assumes nothing.
use Prim.Native.Nat.{ℕ, ◌+◌, ◌-◌, ◌*◌, ◌/◌, ◌≤◌}
use native.Mathlib.Omega.{arith}
use mathlib.Core.Path.{◌≡◌}
use mathlib.Core.Bool.{true}
use mathlib.Core.List.{List}
use lib.Dec.{ltb}
use lib.ListN.{length, set, take, drop, length-set}
use lib.Seq.{take-set-le, drop-set-lt, drop-set-add}
use borrow.Author.Tests.{ltb-true, ltb-false, eqb-true}
use Rattle.model.specs.Geometry.{image_words}
use Rattle.model.specs.State.{Flash, with_word, flash_fits}
use Rattle.model.specs.declared.BusWord.{BusWord}
use Rattle.model.proofs.Bool.{by_test}

-- The image of a flash that fits has its length,
pub fits_length : (d : ℕ) (f : Flash) → flash_fits d f ≡ true → length f.words ≡ image_words d
unfolding flash_fits
fits_length d f h = eqb-true (length f.words) (image_words d) h

-- and nothing else is asked of it,
pub same_fits : (d : ℕ) (f g : Flash) → length f.words ≡ length g.words → flash_fits d f ≡ flash_fits d g
unfolding flash_fits
same_fits d f g e = rw e

-- so that it fits with another word stored.
pub stored_fits : (d : ℕ) (f : Flash) (p : BusWord) (w : ℕ) → flash_fits d (with_word f p w) ≡ flash_fits d f
stored_fits d f p w = same_fits d (with_word f p w) f (length-set f.words p.0 w)

-- A word set outside a page's 256 leaves the page's words as they were.
pub other_page : (l : List ℕ) (p w q : ℕ) → (p / 256 ≡ q → ⊥) → take 256 (drop (q * 256) (set l p w)) ≡ take 256 (drop (q * 256) l)
other_page l p w q h =
    by_test (ltb p (q * 256))
    (λ t. rw (drop-set-lt (q * 256) l p w (ltb-true _ _ t)))
    (λ t.
    let le : q * 256 ≤ p = ltb-false _ _ t in
    let e : p ≡ q * 256 + (p - q * 256) = omega arith in
    rw (e, drop-set-add) (take-set-le 256 (drop (q * 256) l) (p - q * 256) w (omega (arith, h))))
