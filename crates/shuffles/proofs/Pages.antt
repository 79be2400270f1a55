-- Flashes that agree on some pages, or off them. Assumes nothing.
use Prim.Native.Nat.{ℕ, zero, suc, ◌+◌, ◌*◌, ◌%◌, ◌<◌}
use native.Mathlib.Nat.{suc_inj, suc-ne-zero}
use native.Mathlib.Omega.{arith}
use mathlib.Core.Path.{◌≡◌, refl, sym, ap, ◌∙◌}
use mathlib.Core.Bool.{Bool, true, false}
use mathlib.Core.List.{List, [], ◌∷◌}
use lib.ListN.{length, get_or, set, drop, length-take, length-drop}
use lib.Seq.{ext_get_or, get_or-take, get_or-drop}
use Rattle.model.specs.Geometry.{image_page_of}
use Rattle.model.specs.State.{Flash, flash, stored}
use Rattle.model.specs.declared.ImagePage.{ImagePage}
use Rattle.model.specs.declared.BusWord.{BusWord}
use Rattle.shuffles.specs.Shuffle.{words_of}

-- Two flashes hold the same words off the pages of P,
abbrev pub Off : (ImagePage → Bool) → Flash → Flash → Type 0
Off P f g = (w : BusWord) → P (image_page_of w) ≡ false → stored f w ≡ stored g w

-- or on the pages of P.
abbrev pub Agree : (ImagePage → Bool) → Flash → Flash → Type 0
Agree P f g = (w : BusWord) → P (image_page_of w) ≡ true → stored f w ≡ stored g w

-- Two flashes have as many words.
abbrev pub AsLong : Flash → Flash → Type 0
AsLong f g = length f.words ≡ length g.words

-- Word i of a page.
in_page : (f : Flash) (q : ImagePage) (i : ℕ) → i < 256 → get_or (words_of f q) i 0 ≡ get_or f.words (q.0 * 256 + i) 0
in_page f q i l = get_or-take 256 (drop (q.0 * 256) f.words) i 0 l ∙ get_or-drop (q.0 * 256) f.words i 0

-- A page, by its words.
pub page_ext : (q : ImagePage) (f g : Flash) → AsLong f g
    → ((w : BusWord) → image_page_of w ≡ q → stored f w ≡ stored g w) → words_of f q ≡ words_of g q
page_ext q f g e h = ext_get_or 0 (words_of f q) (words_of g q) (simp (length-take, length-drop, e)) at
  where
    at : (i : ℕ) → i < length (words_of f q) → get_or (words_of f q) i 0 ≡ get_or (words_of g q) i 0
    at i b =
        let l : i < 256 = omega (arith, simp (length-take) at b) in
        rw (in_page f q i l, in_page g q i l)
        (h (record { 0 = q.0 * 256 + i }) (ap (λ (n : ℕ). record { 0 = n }) (omega arith)))

-- A word, by its page.
word_of_page : (f : Flash) (w : BusWord) → get_or (words_of f (image_page_of w)) (w.0 % 256) 0 ≡ stored f w
word_of_page f w =
    in_page f (image_page_of w) (w.0 % 256) (omega arith) ∙ ap (λ (k : ℕ). get_or f.words k 0) (omega arith)

-- A flash, by its pages.
pub pages_ext : (f g : Flash) → AsLong f g → ((q : ImagePage) → words_of f q ≡ words_of g q) → f ≡ g
pages_ext f g e h = ap flash (ext_get_or 0 f.words g.words e same)
  where
    same : (i : ℕ) → i < length f.words → get_or f.words i 0 ≡ get_or g.words i 0
    same i b =
        let w : BusWord = record { 0 = i } in
        sym (word_of_page f w) ∙ rw (h (image_page_of w)) (word_of_page g w)

-- The same word set in two lists.
pub same_set : (m l : List ℕ) (i v x : ℕ) → length m ≡ length l → get_or m x 0 ≡ get_or l x 0
    → get_or (set m i v) x 0 ≡ get_or (set l i v) x 0
same_set [] [] i v x e h = refl
same_set [] (b ∷ l) i v x e h = absurd (suc-ne-zero (length l) (sym e))
same_set (a ∷ m) [] i v x e h = absurd (suc-ne-zero (length m) e)
same_set (a ∷ m) (b ∷ l) zero v zero e h = refl
same_set (a ∷ m) (b ∷ l) zero v (suc x) e h = h
same_set (a ∷ m) (b ∷ l) (suc i) v zero e h = h
same_set (a ∷ m) (b ∷ l) (suc i) v (suc x) e h = same_set m l i v x (suc_inj e) h
