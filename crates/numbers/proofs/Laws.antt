-- Laws of numbers in bytes: each way in which one ends, how a value is made up, and that reading goes forward. Assumes nothing.
use mathlib.Core.Path.{◌≡◌, refl, sym}
use mathlib.Core.Logic.{⊎_elim}
use mathlib.Core.Bool.{Bool, true, false, cond, ◌&&◌, ◌||◌}
use mathlib.Core.List.{List, [], ◌∷◌}
use Prim.Native.Nat.{ℕ, zero, suc, ◌+◌, ◌*◌, ◌-◌, ◌%◌, ◌^◌, ◌≤◌, ◌<◌, max}
use native.Mathlib.Nat.{mod-lt, mod-eq_of_lt, pow-le-pow_right, pow-succ'}
use native.Mathlib.Numerals.{add-one}
use native.Mathlib.Omega.{arith}
use lib.ListN.{length, get_or, drop, length-drop, drop_of_length-le}
use lib.Seq.{drop-cons, get_or-drop}
use lib.Dec.{leb, ltb}
use borrow.Author.Tests.{le-leb, lt-leb, le-ltb, lt-ltb, ltb-true, ltb-false, leb-true, leb-false}
use Rattle.model.proofs.Bool.{which}
use Rattle.std.proofs.Common.{Option, Some, None, Ok, Err, position, ap}
use Rattle.std.specs.List.{position_or_len}
use Rattle.std.proofs.lemmas.List.Recursion.{is_position_or_len}
use Rattle.numbers.specs.Number.{Parsed, largest, continued, last_group, groups_value, shortest, number_between, number_at, limited, number_to, then_number, then_numbers, value_of}

-- ---- the last group

pub last_after : (s : List ℕ) (at : ℕ) → at ≤ last_group s at
unfolding last_group
last_after s at = omega arith

pub last_none : (s : List ℕ) (at : ℕ) → length s ≤ at → last_group s at ≡ at
unfolding last_group continued
last_none s at h = rw (drop_of_length-le s h) (omega arith)

pub last_here : (s : List ℕ) (at : ℕ) → at < length s → get_or s at 0 < 128 → last_group s at ≡ at
unfolding last_group continued
last_here s at h b = rw (drop-cons s at 0) (simp (lt-ltb _ _ b) (omega arith))

pub last_on : (s : List ℕ) (at : ℕ) → at < length s → 128 ≤ get_or s at 0 → last_group s at ≡ last_group s (at + 1)
unfolding last_group continued
last_on s at h b = rw (drop-cons s at 0, add-one) (simp (le-ltb _ _ b) (omega arith))

-- Its top bit is clear.
continued_small : (l : List ℕ) → continued l < length l → get_or l (continued l) 0 < 128
unfolding continued
continued_small [] h = omega arith
continued_small (b ∷ t) h =
    ⊎_elim (λ e. rw e (ltb-true _ _ e))
    (λ e. let g : suc (continued t) < suc (length t) = rw e at h in rw e (continued_small t (omega arith)))
    (which (ltb b 128))

last_small : (s : List ℕ) (at : ℕ) → last_group s at < length s → get_or s (last_group s at) 0 < 128
unfolding last_group
last_small s at h =
    let g : continued (drop at s) < length (drop at s) = simp length-drop (omega arith) in
    rw get_or-drop at (continued_small (drop at s) g)

-- How many bytes have it is the place of the first that hasn't.
continued_is : (l : List ℕ) → continued l ≡ position_or_len (λ b. ltb b 128) l
unfolding continued
continued_is = is_position_or_len continued (λ b. ltb b 128) refl (λ b t. let e : 1 + continued t ≡ suc (continued t) = omega arith in rw e refl)

continued_most : (l : List ℕ) → continued l ≤ length l
unfolding continued
continued_most [] = omega arith
continued_most (b ∷ t) = ⊎_elim (λ e. rw e (omega arith)) (λ e. rw e (omega (arith, continued_most t))) (which (ltb b 128))

-- The search for that place, from `at` on.
abbrev pub ends_in : List ℕ → ℕ → Option ℕ
ends_in s at = position (λ b. ltb b 128) (drop at s)

found : (n m g : ℕ) → cond (ltb n m) (Some n) None ≡ Some g → n ≡ g
found n m g e = ⊎_elim (λ h. let i : Some n ≡ Some g = rw h at e in cc) (λ h. let i : None ≡ Some g = rw h at e in cc) (which (ltb n m))

missed : (n m : ℕ) → cond (ltb n m) (Some n) None ≡ None → m ≤ n
missed n m e = ⊎_elim (λ h. let i : Some n ≡ None = rw h at e in cc) (λ h. ltb-false n m h) (which (ltb n m))

pub last_found : (s : List ℕ) (at groups : ℕ) → ends_in s at ≡ Some groups → at + groups ≡ last_group s at
unfolding last_group
last_found s at groups e = rw continued_is (ap (λ (n : ℕ). at + n) (sym (found _ _ _ e)))

pub last_missed : (s : List ℕ) (at : ℕ) → ends_in s at ≡ None → max at (length s) ≡ last_group s at
unfolding last_group
last_missed s at e =
    let h : length (drop at s) ≤ continued (drop at s) = rw continued_is (missed _ _ e) in
    omega (arith, continued_most (drop at s), length-drop at s)

-- ---- the value

-- k groups are below 128 ^ k.
value_below : (s : List ℕ) (at k : ℕ) → groups_value s at k < 128 ^ k
unfolding groups_value
value_below s at zero = omega arith
value_below s at (suc k) =
    let h : groups_value s (at + 1) k < 128 ^ k = value_below s (at + 1) k in
    let m : get_or s at 0 % 128 < 128 = mod-lt (get_or s at 0) (omega arith) in
    rw pow-succ' (omega arith)

pub value_small : (s : List ℕ) (at k : ℕ) → k ≤ 5 → groups_value s at k < 34359738368
value_small s at k h =
    let a : groups_value s at k < 128 ^ k = value_below s at k in
    let b : 128 ^ k ≤ 128 ^ 5 = pow-le-pow_right (omega arith) h in
    omega arith

pub value_step : (s : List ℕ) (at k : ℕ) → 0 < k → groups_value s at k ≡ get_or s at 0 % 128 + 128 * groups_value s (at + 1) (k - 1)
unfolding groups_value
value_step s at zero h = omega arith
value_step s at (suc k) h =
    let e : suc k - 1 ≡ k = omega arith in
    rw e refl

-- A last group that is not 0 makes a value that is not 0,
value_some : (s : List ℕ) (at k : ℕ) → 0 < get_or s (at + k) 0 → get_or s (at + k) 0 < 128 → 0 < groups_value s at (suc k)
unfolding groups_value
value_some s at zero a b =
    let e : at + 0 ≡ at = omega arith in
    let x : 0 < get_or s at 0 = rw e at a in
    let y : get_or s at 0 < 128 = rw e at b in
    let m : get_or s at 0 % 128 ≡ get_or s at 0 = mod-eq_of_lt y in
    omega arith
value_some s at (suc k) a b =
    let e : at + suc k ≡ at + 1 + k = omega arith in
    let h : 0 < groups_value s (at + 1) (suc k) = value_some s (at + 1) k (rw e at a) (rw e at b) in
    omega arith

-- so that a shortest form of more than five groups is too large.
six_groups : (s : List ℕ) (at end : ℕ) → at + 4 < end → get_or s end 0 < 128 → shortest s at end ≡ true
    → largest < groups_value s at (end - at + 1)
unfolding shortest groups_value
six_groups s at end l small z =
    let p : 0 < get_or s end 0 = ltb-true _ _ (rw (lt-leb end at (omega arith)) at z) in
    let e : end - at + 1 ≡ suc (suc (suc (suc (suc (suc (end - (at + 5))))))) = omega arith in
    let f : at + 1 + 1 + 1 + 1 + 1 + (end - (at + 5)) ≡ end = omega arith in
    let h : 0 < groups_value s (at + 1 + 1 + 1 + 1 + 1) (suc (end - (at + 5)))
    = value_some s (at + 1 + 1 + 1 + 1 + 1) (end - (at + 5)) (rw f p) (rw f small) in
    rw e (omega arith)

too_long : (s : List ℕ) (at end : ℕ) → end ≡ last_group s at → end < length s → at + 4 < end → number_between s at end ≡ Err at
unfolding number_between
too_long s at end e h l =
    rw (lt-leb (length s) end h)
    (⊎_elim (λ z. rw z (rw (lt-leb _ _ (large z)) refl)) (λ z. rw z refl) (which (shortest s at end)))
  where
    large : shortest s at end ≡ true → largest < groups_value s at (end - at + 1)
    large z = six_groups s at end l (rw (← e) at (last_small s at (rw e at h))) z

-- ---- what the number at a place is, by where its last group stands

pub ends_short : (s : List ℕ) (at : ℕ) → length s ≤ last_group s at → Err (length s) ≡ number_at s at
unfolding number_at number_between
ends_short s at h = rw (le-leb _ _ h) refl

pub ends_long : (s : List ℕ) (at end : ℕ) → end ≡ last_group s at → end < length s → at + 4 < end → Err at ≡ number_at s at
unfolding number_at
ends_long s at end e h l = rw (← e) (sym (too_long s at end e h l))

-- The last group stands, among five at most: whether the number is good is its form and its size.
abbrev pub good : List ℕ → ℕ → ℕ → ℕ → Bool
good s at end v = (leb end at || ltb 0 (get_or s end 0)) && leb v largest

pub ends_well : (s : List ℕ) (at end v : ℕ) → end ≡ last_group s at → end < length s → v ≡ groups_value s at (end - at + 1)
    → good s at end v ≡ true → Ok (record { value = v; next = end + 1 }) ≡ number_at s at
unfolding number_at number_between shortest
ends_well s at end v e h w t = rw (← e, lt-leb _ _ h, ← w, t) refl

pub ends_badly : (s : List ℕ) (at end v : ℕ) → end ≡ last_group s at → end < length s → v ≡ groups_value s at (end - at + 1)
    → good s at end v ≡ false → Err at ≡ number_at s at
unfolding number_at number_between shortest
ends_badly s at end v e h w t = rw (← e, lt-leb _ _ h, ← w, t) refl

pub ruleset number_ways = (last_after, ends_short, ends_long, ends_well, ends_badly)

-- Past the end there is none.
pub number_none : (s : List ℕ) (at : ℕ) → length s ≤ at → number_at s at ≡ Err (length s)
number_none s at h = sym (ends_short s at (rw (last_none s at h) h))

-- ---- one number more, at the front and at the end

pub numbers_step : (s : List ℕ) (k : ℕ) (r : Parsed) → 0 < k → then_numbers s k r ≡ then_numbers s (k - 1) (then_number s largest r)
unfolding then_numbers
numbers_step s zero r h = let z : ⊥ = omega arith in elim z [ ]
numbers_step s (suc k) r h =
    let e : suc k - 1 ≡ k = omega arith in
    rw e refl

pub numbers_none : (s : List ℕ) (r : Parsed) → r ≡ then_numbers s 0 r
unfolding then_numbers
numbers_none s r = refl

pub numbers_more : (s : List ℕ) (k : ℕ) (r : Parsed) → then_number s largest (then_numbers s k r) ≡ then_numbers s (k + 1) r
unfolding then_numbers
numbers_more s zero r = refl
numbers_more s (suc k) r = rw (add-one (suc k)) (rw add-one at (numbers_more s k (then_number s largest r)))

-- ---- reading goes forward: a number ends after the place where it begins, and inside the bytes

abbrev pub Goes : List ℕ → ℕ → Parsed → Type 0
Goes s at (Ok n) = (at < n.next) × (n.next ≤ length s)
Goes s at (Err p) = Unit

pub number_goes : (s : List ℕ) (at : ℕ) → Goes s at (number_at s at)
unfolding number_at number_between
number_goes s at =
    ⊎_elim (λ e. rw e tt)
    (λ e. rw e
    (⊎_elim (λ f. rw f (inside (leb-false _ _ e))) (λ f. rw f tt)
    (which (shortest s at (last_group s at) && leb (groups_value s at (last_group s at - at + 1)) largest))))
    (which (leb (length s) (last_group s at)))
  where
    inside : last_group s at < length s → (at < last_group s at + 1) × (last_group s at + 1 ≤ length s)
    inside h = let a : at ≤ last_group s at = last_after s at in (omega arith, omega arith)

limited_goes : (s : List ℕ) (at max : ℕ) (r : Parsed) → Goes s at r → Goes s at (limited max at r)
unfolding limited
limited_goes s at max (Ok n) g = ⊎_elim (λ e. rw e g) (λ e. rw e tt) (which (leb n.value max))
limited_goes s at max (Err p) g = tt

pub number_to_goes : (s : List ℕ) (max at : ℕ) → Goes s at (number_to s max at)
unfolding number_to
number_to_goes s max at = limited_goes s at max (number_at s at) (number_goes s at)

pub then_goes : (s : List ℕ) (at max : ℕ) (r : Parsed) → Goes s at r → Goes s at (then_number s max r)
unfolding then_number
then_goes s at max (Ok n) g = farther (number_to s max n.next) (number_to_goes s max n.next)
  where
    farther : (r : Parsed) → Goes s n.next r → Goes s at r
    farther (Ok m) h = (omega arith, h.1)
    farther (Err p) h = tt
then_goes s at max (Err p) g = tt

pub numbers_go : (s : List ℕ) (at k : ℕ) (r : Parsed) → Goes s at r → Goes s at (then_numbers s k r)
unfolding then_numbers
numbers_go s at zero r g = g
numbers_go s at (suc k) r g = numbers_go s at k (then_number s largest r) (then_goes s at largest r g)

-- ---- a number of max at most is max at most

limited_small : (max at : ℕ) (r : Parsed) → value_of (limited max at r) ≤ max
unfolding limited
limited_small max at (Ok n) = ⊎_elim (λ e. rw e (leb-true _ _ e)) (λ e. rw e (omega arith)) (which (leb n.value max))
limited_small max at (Err p) = omega arith

pub number_to_small : (s : List ℕ) (max at : ℕ) → value_of (number_to s max at) ≤ max
unfolding number_to
number_to_small s max at = limited_small max at (number_at s at)

pub then_small : (s : List ℕ) (max : ℕ) (r : Parsed) → value_of (then_number s max r) ≤ max
unfolding then_number
then_small s max (Ok n) = number_to_small s max n.next
then_small s max (Err p) = omega arith
