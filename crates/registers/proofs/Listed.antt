-- What stands in a list that a function of the place makes, copied element by element, and put back. Assumes nothing.
use Prim.Native.Nat.{ℕ, zero, suc, ◌+◌, ◌<◌, ◌≤◌}
use native.Mathlib.Nat.{not-suc-le-zero, le_of_suc-le-suc, add-zero}
use native.Mathlib.Omega.{arith}
use mathlib.Core.Path.{◌≡◌, refl, ap, sym, subst, ◌∙◌}
use mathlib.Core.Bool.{Bool, true, false, ◌&&◌}
use Rattle.model.specs.Valid.{all}
use mathlib.Core.List.{List}
use lib.ListN.{length, get_or, take, drop, length-drop}
use lib.Seq.{sets, set-get_or, ext_get_or, get_or-take, get_or-drop, length-take-le}
use Rattle.model.specs.declared.Region.{Region}
use Rattle.model.specs.declared.PageSetting.{PageSetting}
use Rattle.registers.specs.Registers.{listed, every, region_at, setting_at, regions_of, info_of}

pub listed_length : {A : Type 0} (f : ℕ → A) (i n : ℕ) → length (listed f i n) ≡ n
listed_length f i zero = refl
listed_length f i (suc n) = ap suc (listed_length f (i + 1) n)

pub listed_from : {A : Type 0} (f : ℕ → A) (i n k : ℕ) (d : A) → k < n → get_or (listed f i n) k d ≡ f (i + k)
listed_from f i zero k d h = absurd (not-suc-le-zero h)
listed_from f i (suc n) zero d h = ap f (sym (add-zero i))
listed_from f i (suc n) (suc k) d h =
    let same : (i + 1) + k ≡ i + suc k = omega arith in
    listed_from f (i + 1) n k d (le_of_suc-le-suc h) ∙ ap f same

pub listed_at : {A : Type 0} (f : ℕ → A) (n k : ℕ) (d : A) → k < n → get_or (listed f 0 n) k d ≡ f k
listed_at f n k d h =
    let same : 0 + k ≡ k = omega arith in
    listed_from f 0 n k d h ∙ ap f same

-- A list is what f gives from `at` on where each of its elements is.
pub listed_same : (f : ℕ → ℕ) (at n : ℕ) (xs : List ℕ) → length xs ≡ n → ((k : ℕ) → k < n → get_or xs k 0 ≡ f (at + k)) → xs ≡ listed f at n
listed_same f at n xs long same =
    ext_get_or 0 xs (listed f at n) (long ∙ sym (listed_length f at n))
    (λ k h. same k (omega arith) ∙ sym (listed_from f at n k 0 (omega arith)))

-- A part of a list is its elements, one after the other.
pub part_listed : (s : List ℕ) (at n : ℕ) → at + n ≤ length s → take n (drop at s) ≡ listed (λ k. get_or s k 0) at n
part_listed s at n fits =
    let long : n ≤ length (drop at s) = rw length-drop (omega arith) in
    listed_same (λ k. get_or s k 0) at n (take n (drop at s)) (length-take-le n (drop at s) long)
    (λ k h. get_or-take n (drop at s) k 0 h ∙ get_or-drop at s k 0)

-- What stands in some places, stored there again, changes nothing.
pub sets_same : (s : List ℕ) (at n : ℕ) → sets s at (listed (λ k. get_or s k 0) at n) ≡ s
sets_same s at zero = refl
sets_same s at (suc n) =
    let next : at + 1 ≡ suc at = omega arith in
    ap (λ (l : List ℕ). sets l (suc at) (listed (λ k. get_or s k 0) (at + 1) n)) (set-get_or s at 0)
    ∙ subst (λ (j : ℕ). sets s j (listed (λ k. get_or s k 0) (at + 1) n) ≡ s) next (sets_same s (at + 1) n)

-- Each region, and each information page, is read where it lies.
pub region_at_lem : (s : List ℕ) (i : ℕ) (d : Region) → i < 8 → get_or (regions_of s) i d ≡ region_at s i
unfolding regions_of
region_at_lem s i d h = listed_at (region_at s) 8 i d h

pub regions_length : (s : List ℕ) → length (regions_of s) ≡ 8
unfolding regions_of
regions_length s = refl

pub setting_at_lem : (s : List ℕ) (i : ℕ) (d : PageSetting) → i < 26 → get_or (info_of s) i d ≡ setting_at s i
unfolding info_of
setting_at_lem s i d h = listed_at (setting_at s) 26 i d h

pub info_length : (s : List ℕ) → length (info_of s) ≡ 26
unfolding info_of
info_length s = refl

-- ---- a test of every place

regroup : (a b x y : Bool) → ((a && b) && (x && y)) ≡ ((a && x) && (b && y))
regroup false b x y = refl
regroup true false false y = refl
regroup true false true y = refl
regroup true true x y = refl

both_from : (f g : ℕ → Bool) (i n : ℕ)
    → all (λ b. b) (listed (λ k. f k && g k) i n) ≡ (all (λ b. b) (listed f i n) && all (λ b. b) (listed g i n))
both_from f g i zero = refl
both_from f g i (suc n) =
    ap (λ (r : Bool). (f i && g i) && r) (both_from f g (i + 1) n)
    ∙ regroup (f i) (g i) (all (λ b. b) (listed f (i + 1) n)) (all (λ b. b) (listed g (i + 1) n))

-- Two tests at once.
pub every_both : (f g : ℕ → Bool) (n : ℕ) → every (λ k. f k && g k) n ≡ (every f n && every g n)
every_both f g n = both_from f g 0 n

pub tested_all_from : {A : Type 0} (test : A → Bool) (h : ℕ → A) (i n : ℕ) → all (λ b. b) (listed (λ k. test (h k)) i n) ≡ all test (listed h i n)
tested_all_from test h i zero = refl
tested_all_from test h i (suc n) = ap (λ (r : Bool). test (h i) && r) (tested_all_from test h (i + 1) n)
