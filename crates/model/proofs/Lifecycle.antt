-- What RMA wipes, place by place: it is three ranges of the image. Assumes nothing.
use Prim.Native.Nat.{ℕ, zero, suc, ◌+◌, ◌-◌, ◌*◌, ◌/◌, ◌%◌, ◌≤◌, ◌<◌}
use native.Mathlib.Nat.{zero-add, add-zero, add-suc, suc-add, eq-or-lt_of_le, mod-eq_of_lt, mod-eq-sub-mod}
use native.Mathlib.Omega.{arith}
use mathlib.Core.Path.{◌≡◌, refl, sym, ap, ◌∙◌}
use mathlib.Core.Bool.{true, false, cond, or-true}
use mathlib.Core.List.{List, [], ◌∷◌}
use mathlib.Core.Logic.{◌⊎◌, inl, inr, ⊎_elim}
use lib.Dec.{eqb}
use lib.ListN.{length, get_or, set, replicate, length-set}
use lib.Seq.{sets, length-sets, get_or-set_same, get_or-set_other, ext_get_or}
use borrow.Author.Tests.{lt-ltb, le-ltb, eq-eqb, ne_eqb}
use Rattle.model.specs.Geometry.{image_words, special_page}
use Rattle.model.specs.Words.{all_ones}
use Rattle.model.specs.Lifecycle.{is_wiped, wiped}
use Rattle.model.proofs.Geometry.{lt_or_le}

-- The image keeps its length,
pub wiped_length : (d i : ℕ) (ws : List ℕ) → length (wiped d i ws) ≡ length ws
unfolding wiped
wiped_length d i [] = refl
wiped_length d i (w ∷ ws) = ap suc (wiped_length d (suc i) ws)

-- and each place that is wiped holds ones, any other its word.
pub wiped_word : (d i : ℕ) (ws : List ℕ) (k : ℕ) → k < length ws
    → get_or (wiped d i ws) k 0 ≡ cond (is_wiped d (record { 0 = i + k })) all_ones (get_or ws k 0)
unfolding wiped
wiped_word d i [] k h = absurd (omega arith)
wiped_word d i (w ∷ ws) zero h = rw add-zero
wiped_word d i (w ∷ ws) (suc k) h =
    let same : suc i + k ≡ i + suc k = omega arith in
    wiped_word d (suc i) ws k (omega arith) ∙ rw same

-- A place that RMA does not wipe keeps its word.
pub wiped_other : (d i : ℕ) (l : List ℕ) (place : ℕ) → is_wiped d (record { 0 = i + place }) ≡ false
    → get_or (wiped d i l) place 0 ≡ get_or l place 0
unfolding wiped
wiped_other d i [] place h = refl
wiped_other d i (w ∷ l) zero h = rw (rw add-zero at h)
wiped_other d i (w ∷ l) (suc place) h = wiped_other d (suc i) l place (rw (suc-add, ← add-suc) h)

-- ---- which places are wiped

-- Where a page of the image lies: it is a data page of bank 0 or 1, a special page, or another information page.
data Part (d q : ℕ) : Type 0 where
  data_0 : q < d → Part d q
  data_1 : d + 13 ≤ q → q < 2 * d + 13 → Part d q
  special : d + 1 ≤ q → q < d + 4 → Part d q
  other_0 : d ≤ q → q < d + 13 → (q < d + 1) ⊎ (d + 4 ≤ q) → Part d q
  other_1 : 2 * d + 13 ≤ q → q < 2 * (d + 13) → Part d q

part : (d q : ℕ) → q < 2 * (d + 13) → Part d q
part d q h =
    ⊎_elim (λ a. data_0 a)
    (λ (a : d ≤ q).
    ⊎_elim (λ (b : q < d + 1). other_0 a (omega arith) (inl b))
    (λ (b : d + 1 ≤ q).
    ⊎_elim (λ e. special b e)
    (λ (e : d + 4 ≤ q).
    ⊎_elim (λ g. other_0 a g (inr e))
    (λ (g : d + 13 ≤ q). ⊎_elim (λ i. data_1 g i) (λ i. other_1 i h) (lt_or_le q (2 * d + 13)))
    (lt_or_le q (d + 13)))
    (lt_or_le q (d + 4)))
    (lt_or_le q (d + 1)))
    (lt_or_le q d)

-- A page of bank 1, counted from the start of that bank.
in_bank_1 : (n q : ℕ) → n ≤ q → q < 2 * n → q % n ≡ q - n
in_bank_1 n q h l = mod-eq-sub-mod h ∙ mod-eq_of_lt (omega arith)

data_wiped : (d k : ℕ) → k / 256 % (d + 13) < d → is_wiped d (record { 0 = k }) ≡ true
data_wiped d k h = rw (lt-ltb _ _ h)

is_special : (d q n : ℕ) → q ≡ d + n → eqb q (special_page d n).0 ≡ true
is_special d q n e = eq-eqb q (special_page d n).0 (omega arith)

not_special : (d q n : ℕ) → (q < d + 1) ⊎ (d + 4 ≤ q) → 1 ≤ n → n < 4 → eqb q (special_page d n).0 ≡ false
not_special d q n o a b =
    ne_eqb q (special_page d n).0
    (λ (e : q ≡ (special_page d n).0). ⊎_elim (λ (l : q < d + 1). omega arith) (λ (l : d + 4 ≤ q). omega arith) o)

special_wiped : (d k : ℕ) → d + 1 ≤ k / 256 → k / 256 < d + 4 → is_wiped d (record { 0 = k }) ≡ true
special_wiped d k h l =
    ⊎_elim (λ e. rw (is_special d (k / 256) 1 (sym e), or-true))
    (λ (m : d + 1 < k / 256).
    ⊎_elim (λ e. rw (is_special d (k / 256) 2 (sym e), or-true, or-true))
    (λ (n : d + 2 < k / 256). rw (is_special d (k / 256) 3 (omega arith), or-true, or-true, or-true))
    (eq-or-lt_of_le {n = d + 2} {m = k / 256} (omega arith)))
    (eq-or-lt_of_le h)

spared : (d k : ℕ) → d ≤ k / 256 % (d + 13) → (k / 256 < d + 1) ⊎ (d + 4 ≤ k / 256) → is_wiped d (record { 0 = k }) ≡ false
spared d k h o =
    let other = not_special d (k / 256) in
    rw (le-ltb _ _ h, other 1 o (omega arith) (omega arith), other 2 o (omega arith) (omega arith), other 3 o (omega arith) (omega arith))

-- ---- a range of ones

-- Words that are stored from a place on leave the places before and behind them.
ones_outside : (n : ℕ) (ws : List ℕ) (from k : ℕ) → (k < from) ⊎ (from + n ≤ k)
    → get_or (sets ws from (replicate n all_ones)) k 0 ≡ get_or ws k 0
ones_outside zero ws from k h = refl
ones_outside (suc n) ws from k h =
    let next : (k < suc from) ⊎ (suc from + n ≤ k) = ⊎_elim (λ l. inl (omega arith)) (λ l. inr (omega arith)) h in
    let ne : k ≡ from → ⊥ = λ e. ⊎_elim (λ l. omega arith) (λ l. omega arith) h in
    ones_outside n (set ws from all_ones) (suc from) k next ∙ get_or-set_other ws from k all_ones 0 ne

ones_inside : (n : ℕ) (ws : List ℕ) (from k : ℕ) → from + n ≤ length ws → from ≤ k → k < from + n
    → get_or (sets ws from (replicate n all_ones)) k 0 ≡ all_ones
ones_inside zero ws from k f h l = absurd (omega arith)
ones_inside (suc n) ws from k f h l =
    ⊎_elim
    (λ e. rw (← e) (ones_outside n (set ws from all_ones) (suc from) from (inl (omega arith)) ∙ get_or-set_same ws from all_ones 0 (omega arith)))
    (λ (m : from < k). ones_inside n (set ws from all_ones) (suc from) k (rw length-set (omega arith)) m (omega arith))
    (eq-or-lt_of_le h)

-- The words of an image with ones from place `from` up to place `to`, and what stands at a place of it.
abbrev ones : List ℕ → ℕ → ℕ → List ℕ
ones ws from to = sets ws from (replicate (to - from) all_ones)

before : (ws : List ℕ) (from to k : ℕ) → k < from → get_or (ones ws from to) k 0 ≡ get_or ws k 0
before ws from to k h = ones_outside (to - from) ws from k (inl h)

behind : (ws : List ℕ) (from to k : ℕ) → from ≤ to → to ≤ k → get_or (ones ws from to) k 0 ≡ get_or ws k 0
behind ws from to k l h = ones_outside (to - from) ws from k (inr (omega arith))

within : (ws : List ℕ) (from to k : ℕ) → to ≤ length ws → from ≤ k → k < to → get_or (ones ws from to) k 0 ≡ all_ones
within ws from to k l h g = ones_inside (to - from) ws from k (omega arith) h (omega arith)

-- ---- the three ranges: the data pages of bank 0, the special pages, the data pages of bank 1

module _ (d : ℕ) (ws : List ℕ) (long : length ws ≡ image_words d) where
  abbrev first : List ℕ
  first = ones ws 0 (d * 256)

  abbrev second : List ℕ
  second = ones first ((d + 1) * 256) ((d + 4) * 256)

  abbrev third : List ℕ
  third = ones second ((d + 13) * 256) ((2 * d + 13) * 256)

  -- A place of bank 1 lies behind the first two ranges, and one of bank 0 before the third.
  from_second : (k : ℕ) → k < (d + 13) * 256 → get_or third k 0 ≡ get_or second k 0
  from_second k h = before second ((d + 13) * 256) ((2 * d + 13) * 256) k h

  from_first : (k : ℕ) → k < (d + 13) * 256 → (k < (d + 1) * 256) ⊎ ((d + 4) * 256 ≤ k) → get_or third k 0 ≡ get_or first k 0
  from_first k h o =
      from_second k h
      ∙ ⊎_elim (λ l. before first ((d + 1) * 256) ((d + 4) * 256) k l)
      (λ l. behind first ((d + 1) * 256) ((d + 4) * 256) k (omega arith) l) o

  untouched : (k : ℕ) → (d + 13) * 256 ≤ k → get_or second k 0 ≡ get_or ws k 0
  untouched k h =
      behind first ((d + 1) * 256) ((d + 4) * 256) k (omega arith) (omega arith)
      ∙ behind ws 0 (d * 256) k (omega arith) (omega arith)

  at_place : (k : ℕ) → k < length ws → Part d (k / 256) → get_or third k 0 ≡ cond (is_wiped d (record { 0 = k })) all_ones (get_or ws k 0)
  at_place k h (data_0 a) =
      let same : k / 256 % (d + 13) ≡ k / 256 = mod-eq_of_lt (omega arith) in
      rw (data_wiped d k (rw same a))
      (from_first k (omega arith) (inl (omega arith)) ∙ within ws 0 (d * 256) k (omega arith) (omega arith) (omega arith))
  at_place k h (data_1 a b) =
      let same = in_bank_1 (d + 13) (k / 256) a (omega arith) in
      rw (data_wiped d k (rw same (omega arith)))
      (within second ((d + 13) * 256) ((2 * d + 13) * 256) k (simp length-sets (omega arith)) (omega arith) (omega arith))
  at_place k h (special a b) =
      rw (special_wiped d k a b)
      (from_second k (omega arith) ∙ within first ((d + 1) * 256) ((d + 4) * 256) k (simp length-sets (omega arith)) (omega arith) (omega arith))
  at_place k h (other_0 a b o) =
      let same : k / 256 % (d + 13) ≡ k / 256 = mod-eq_of_lt b in
      rw (spared d k (rw same a) o)
      (from_first k (omega arith) (⊎_elim (λ (l : k / 256 < d + 1). inl (omega arith)) (λ (l : d + 4 ≤ k / 256). inr (omega arith)) o)
      ∙ behind ws 0 (d * 256) k (omega arith) (omega arith))
  at_place k h (other_1 a b) =
      let same = in_bank_1 (d + 13) (k / 256) (omega arith) b in
      rw (spared d k (rw same (omega arith)) (inr (omega arith)))
      (behind second ((d + 13) * 256) ((2 * d + 13) * 256) k (omega arith) (omega arith) ∙ untouched k (omega arith))

  -- Ones in these ranges are what RMA wipes.
  pub wiped_ranges : third ≡ wiped d 0 ws
  wiped_ranges =
      ext_get_or 0 third (wiped d 0 ws) (simp (length-sets, wiped_length))
      (λ k h.
      let there : k < length ws = simp length-sets at h in
      at_place k there (part d (k / 256) (omega arith)) ∙ sym (rw zero-add at (wiped_word d 0 ws k there)))
