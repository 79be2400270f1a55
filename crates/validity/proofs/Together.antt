-- Numbers put together bit by bit: they are at most 1, or 7, exactly if each is. Assumes nothing.
use Prim.Native.Nat.{ℕ, ◌+◌, ◌*◌, ◌%◌, ◌<◌, ◌≤◌}
use native.Mathlib.Omega.{arith}
use mathlib.Core.Path.{◌≡◌, refl, sym, ap, ◌∙◌}
use mathlib.Core.List.{List}
use mathlib.Core.Bool.{Bool, true, false, ◌&&◌}
use lib.Dec.{leb}
use lib.Bits.{bit_or, or_lt, or_add_and, and_le_l, and_le_r}
use borrow.Author.Tests.{le-leb, lt-leb, leb-true, leb-false}
use lib.ListN.{get_or}
use Rattle.model.specs.Valid.{all, region_fits, page_fits}
use Rattle.model.specs.declared.Region.{Region}
use Rattle.model.proofs.Bool.{by_test}
use Rattle.model.proofs.Valid.{Tested, tested_more}
use Rattle.registers.specs.Layout.{pages_at, region_from, page_from}
use Rattle.registers.specs.Registers.{listed, every, region_encoded, setting_encoded, region_at, setting_at, regions_of, info_of}
use Rattle.registers.specs.declared.Row.{Row}
use Rattle.registers.proofs.Listed.{listed_at, every_both, tested_all_from}

-- ---- conjunctions

squeezed : (x t u v : Bool) → (t ≡ true → u ≡ v) → (t ≡ false → v ≡ false) → ((x && t) && u) ≡ (x && v)
squeezed true true u v f g = f refl
squeezed true false u v f g = sym (g refl)
squeezed false t u v f g = refl

crossed : (a b c d : Bool) → ((a && b) && (c && d)) ≡ ((a && c) && (b && d))
crossed true true c d = refl
crossed true false true d = refl
crossed true false false d = refl
crossed false b c d = refl

moved : (x t e u v : Bool) → ((x && t) && u) ≡ (x && v) → ((x && t) && (e && u)) ≡ (e && (x && v))
moved true true true u v h = h
moved true true false u v h = refl
moved true false true u v h = h
moved true false false u v h = refl
moved false t true u v h = refl
moved false t false u v h = refl

-- ---- numbers together

-- They are at least each.
at_least : (a b : ℕ) → (a ≤ bit_or a b) × (b ≤ bit_or a b)
at_least a b =
    (omega (arith, or_add_and a b, and_le_r a b), omega (arith, or_add_and a b, and_le_l a b))

-- They are within a bound exactly if each is, where it is one of these.
within : (m a b : ℕ) → (a ≤ m → b ≤ m → bit_or a b ≤ m) → leb (bit_or a b) m ≡ (leb a m && leb b m)
within m a b fits =
    by_test (leb a m)
    (λ h.
    by_test (leb b m) (λ l. rw (h, l) (le-leb (bit_or a b) m (fits (leb-true a m h) (leb-true b m l))))
    (λ l. rw (h, l) (lt-leb (bit_or a b) m (omega (arith, leb-false b m l, (at_least a b).1)))))
    (λ h. rw h (lt-leb (bit_or a b) m (omega (arith, leb-false a m h, (at_least a b).0))))

flags_together : (a b : ℕ) → leb (bit_or a b) 1 ≡ (leb a 1 && leb b 1)
flags_together a b = within 1 a b (λ h l. omega (arith, or_lt 1 a b (omega arith) (omega arith)))

rights_together : (a b : ℕ) → leb (bit_or a b) 7 ≡ (leb a 7 && leb b 7)
rights_together a b = within 7 a b (λ h l. omega (arith, or_lt 3 a b (omega arith) (omega arith)))

pub both_together : (f r g s : ℕ) → (leb (bit_or f g) 1 && leb (bit_or r s) 7) ≡ ((leb f 1 && leb r 7) && (leb g 1 && leb s 7))
both_together f r g s = rw (flags_together, rights_together) (crossed (leb f 1) (leb g 1) (leb r 7) (leb s 7))

pub all_together : (ok e : Bool) (f r g s : ℕ)
    → ((ok && e) && (leb (bit_or f g) 1 && leb (bit_or r s) 7)) ≡ ((ok && (leb f 1 && leb r 7)) && (e && (leb g 1 && leb s 7)))
all_together ok e f r g s =
    rw (both_together f r g s) (crossed ok e (leb f 1 && leb r 7) (leb g 1 && leb s 7))

-- ---- a row of the tables

pub page_holds : (x y : ℕ) → ((leb x 1 && leb y 255) && leb (y % 256) 7) ≡ (leb x 1 && leb y 7)
page_holds x y =
    squeezed (leb x 1) (leb y 255) (leb (y % 256) 7) (leb y 7)
    (λ h. let small = leb-true y 255 h in let same : y % 256 ≡ y = omega arith in ap (λ (n : ℕ). leb n 7) same)
    (λ h. lt-leb y 7 (omega (arith, leb-false y 255 h)))

pub region_holds : (x y : ℕ) (e : Bool) → ((leb x 1 && leb y 255) && (e && leb (y % 256) 7)) ≡ (e && (leb x 1 && leb y 7))
region_holds x y e = moved (leb x 1) (leb y 255) e (leb (y % 256) 7) (leb y 7) (page_holds x y)

-- ---- the tables, row by row

-- A row stands for something, and it fits.
abbrev pub region_stands : List ℕ → ℕ → Bool
region_stands s k = region_encoded s k && region_fits (get_or s pages_at 0) (region_at s k)

abbrev pub page_stands : List ℕ → ℕ → Bool
page_stands s k = setting_encoded s k && page_fits (setting_at s k)

pub regions_stand : (s : List ℕ) → every (region_stands s) 8 ≡ (every (region_encoded s) 8 && all (region_fits (get_or s pages_at 0)) (regions_of s))
unfolding regions_of
regions_stand s =
    every_both (region_encoded s) (λ k. region_fits (get_or s pages_at 0) (region_at s k)) 8
    ∙ ap (λ (r : Bool). every (region_encoded s) 8 && r) (tested_all_from (region_fits (get_or s pages_at 0)) (region_at s) 0 8)

pub pages_stand : (s : List ℕ) → every (page_stands s) 26 ≡ (every (setting_encoded s) 26 && all page_fits (info_of s))
unfolding info_of
pages_stand s =
    every_both (setting_encoded s) (λ k. page_fits (setting_at s k)) 26
    ∙ ap (λ (r : Bool). every (setting_encoded s) 26 && r) (tested_all_from page_fits (setting_at s) 0 26)

-- The next row is put together with those before it.
pub regions_more : (s : List ℕ) (i flags rights : ℕ) (ok : Bool) {limit : ℕ} {ends : Bool} {row : Row} {g : Region} → i < 8
    → Tested (λ b. b) (listed (region_stands s) 0 8) i (ok && (leb flags 1 && leb rights 7)) → limit ≡ 2 * get_or s pages_at 0
    → row ≡ record { flag = get_or s (region_from i + 2) 0; rights = get_or s (region_from i + 3) 0 } → g ≡ region_at s i → ends ≡ leb (g.first.0 + g.count) limit
    → Tested (λ b. b) (listed (region_stands s) 0 8) (i + 1) ((ok && ends) && (leb (bit_or flags row.flag) 1 && leb (bit_or rights row.rights) 7))
regions_more s i flags rights ok {limit} {ends} {row} {g} b t l r e f =
    let one : (ends && (leb row.flag 1 && leb row.rights 7)) ≡ region_stands s i =
    rw (f, r, e, l) (sym (region_holds (get_or s (region_from i + 2) 0) (get_or s (region_from i + 3) 0) (leb (get_or s (region_from i) 0 + get_or s (region_from i + 1) 0) (2 * get_or s pages_at 0)))) in
    rw (all_together ok ends flags rights row.flag row.rights)
    (tested_more true (ends && (leb row.flag 1 && leb row.rights 7)) (omega arith) t (one ∙ sym (listed_at (region_stands s) 8 i true b)))

pub pages_more : (s : List ℕ) (i flags rights : ℕ) {row : Row} → i < 26
    → Tested (λ b. b) (listed (page_stands s) 0 26) i (leb flags 1 && leb rights 7)
    → row ≡ record { flag = get_or s (page_from i) 0; rights = get_or s (page_from i + 1) 0 }
    → Tested (λ b. b) (listed (page_stands s) 0 26) (i + 1) (leb (bit_or flags row.flag) 1 && leb (bit_or rights row.rights) 7)
pages_more s i flags rights {row} b t r =
    let one : (leb row.flag 1 && leb row.rights 7) ≡ page_stands s i =
    rw r (sym (page_holds (get_or s (page_from i) 0) (get_or s (page_from i + 1) 0))) in
    rw (both_together flags rights row.flag row.rights)
    (tested_more true (leb row.flag 1 && leb row.rights 7) (omega arith) t (one ∙ sym (listed_at (page_stands s) 26 i true b)))
