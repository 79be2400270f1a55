-- Reading a sheet goes forward: a block or an entry that is read ends past where it began and within the sheet. So the bound on
-- calls in the definition of a block never shows. Assumes nothing.
use mathlib.Core.Path.{◌≡◌, refl, ap, ◌∙◌}
use mathlib.Core.Logic.{⊎_elim}
use mathlib.Core.Bool.{cond, ◌&&◌}
use mathlib.Core.List.{List, []}
use Prim.Native.Nat.{ℕ, zero, suc, ◌+◌, ◌≤◌, ◌<◌}
use native.Mathlib.Omega.{arith}
use lib.ListN.{length}
use lib.Dec.{ltb, eqb}
use Rattle.model.proofs.Bool.{which}
use Rattle.std.proofs.Common.{Ok, Err}
use Rattle.numbers.specs.Number.{Parsed, largest, number_at, number_to}
use Rattle.numbers.proofs.Laws.{Goes, number_goes, number_to_goes, then_goes, numbers_go, number_none}
use Rattle.sheets.specs.Sheet.{kind_at, partition_at, type_at, address_at, count_at, operation_at, carried, stated_at, Meaning, after, once, repeated, before, followed, entry_with, block_with, block_at, entry_at}
use Rattle.sheets.specs.Sheet.Meaning.{Runs, Fault}

stated_goes : (s : List ℕ) (at : ℕ) → Goes s at (stated_at s at).end
unfolding stated_at kind_at partition_at type_at address_at count_at
stated_goes s at =
    numbers_go s at (carried (operation_at s at)) (count_at s at)
    (then_goes s at largest (address_at s at)
    (then_goes s at largest (type_at s at)
    (then_goes s at 255 (partition_at s at)
    (then_goes s at 255 (kind_at s at) (number_to_goes s 255 at)))))

-- What is read from place a on ends past it, within the sheet.
abbrev pub Fwd : List ℕ → ℕ → Meaning → Type 0
Fwd s a (Runs ps n) = (a < n) × (n ≤ length s)
Fwd s a (Fault p) = Unit

once_fwd : (s : List ℕ) (at next : ℕ) (r : Parsed) → Goes s next r → Fwd s next (once at r)
once_fwd s at next (Ok r) g = g
once_fwd s at next (Err p) g = tt

repeated_fwd : (s : List ℕ) (a b k : ℕ) (m : Meaning) → a ≤ b → Fwd s b m → Fwd s a (repeated k m)
repeated_fwd s a b k (Runs ps n) h f = (omega arith, f.1)
repeated_fwd s a b k (Fault p) h f = tt

after_fwd : (s : List ℕ) (at : ℕ) (r : Parsed) (f : ℕ → ℕ → Meaning) → Goes s at r
    → ((v n : ℕ) → at < n → n ≤ length s → Fwd s at (f v n)) → Fwd s at (after r f)
after_fwd s at (Ok r) f g h = h r.value r.next g.0 g.1
after_fwd s at (Err p) f g h = tt

followed_fwd : (s : List ℕ) (a b : ℕ) (m : Meaning) (f : ℕ → Meaning) → a ≤ b → Fwd s b m → ((n : ℕ) → Fwd s n (f n)) → Fwd s a (followed m f)
followed_fwd s a b (Runs ps n) f h g k = later (f n) (k n)
  where
    later : (m : Meaning) → Fwd s n m → Fwd s a (before ps m)
    later (Runs qs x) w = (omega arith, w.1)
    later (Fault p) w = tt
followed_fwd s a b (Fault p) f h g k = tt

entry_fwd : (s : List ℕ) (f : ℕ → Meaning) (at next tag d : ℕ) → ((n : ℕ) → Fwd s n (f n)) → Fwd s next (entry_with s f at next tag d)
unfolding entry_with
entry_fwd s f at next tag d g =
    ⊎_elim (λ e. rw e (once_fwd s at next (stated_at s next).end (stated_goes s next)))
    (λ e. rw e
    (⊎_elim (λ e. rw e (once_fwd s at next (number_to s 7 next) (number_to_goes s 7 next)))
    (λ e. rw e
    (⊎_elim (λ e. rw e
    (after_fwd s next (number_to s 255 next) (λ k n. cond (eqb k 0) (Fault next) (repeated k (f n))) (number_to_goes s 255 next)
    (λ k n h i. ⊎_elim (λ e. rw e tt) (λ e. rw e (repeated_fwd s next n k (f n) (omega arith) (g n))) (which (eqb k 0)))))
    (λ e. rw e tt)
    (which (eqb tag 2 && ltb d 8))))
    (which (eqb tag 3))))
    (which (eqb tag 1))

block_fwd : (k : ℕ) (s : List ℕ) (at d : ℕ) → Fwd s at (block_with k s at d)
unfolding block_with
block_fwd zero s at d = tt
block_fwd (suc k) s at d =
    after_fwd s at (number_at s at) _ (number_goes s at)
    (λ v n h i. ⊎_elim (λ e. rw e (h, i))
    (λ e. rw e (followed_fwd s at n (entry_with s (λ m. block_with k s m (d + 1)) at n v d) (λ m. block_with k s m d) (omega arith)
    (entry_fwd s (λ m. block_with k s m (d + 1)) at n v d (λ m. block_fwd k s m (d + 1))) (λ m. block_fwd k s m d)))
    (which (eqb v 0)))

pub block_forward : (s : List ℕ) (at d : ℕ) → Fwd s at (block_at s at d)
unfolding block_at
block_forward s at d = block_fwd (suc (length s)) s at d

pub entry_forward : (s : List ℕ) (at next tag d : ℕ) → Fwd s next (entry_at s at next tag d)
unfolding entry_at
entry_forward s at next tag d = entry_fwd s (λ n. block_at s n (d + 1)) at next tag d (λ n. block_forward s n (d + 1))

-- what comes next is asked only at a place that was reached
after_ext : (s : List ℕ) (at : ℕ) (r : Parsed) (f g : ℕ → ℕ → Meaning) → Goes s at r → ((v n : ℕ) → at < n → f v n ≡ g v n) → after r f ≡ after r g
after_ext s at (Ok r) f g w h = h r.value r.next w.0
after_ext s at (Err p) f g w h = refl

followed_ext : (s : List ℕ) (a : ℕ) (m : Meaning) (f g : ℕ → Meaning) → Fwd s a m → ((n : ℕ) → a ≤ n → f n ≡ g n) → followed m f ≡ followed m g
followed_ext s a (Runs ps n) f g w h = ap (before ps) (h n (omega arith))
followed_ext s a (Fault p) f g w h = refl

entry_ext : (s : List ℕ) (f g : ℕ → Meaning) (at next tag d : ℕ) → ((n : ℕ) → next ≤ n → f n ≡ g n) → entry_with s f at next tag d ≡ entry_with s g at next tag d
unfolding entry_with
entry_ext s f g at next tag d h =
    ap (λ (x : Meaning). cond (eqb tag 1) (once at (stated_at s next).end) (cond (eqb tag 3) (once at (number_to s 7 next)) (cond (eqb tag 2 && ltb d 8) x (Fault at))))
    (after_ext s next (number_to s 255 next) _ _ (number_to_goes s 255 next)
    (λ k n w. ap (λ (x : Meaning). cond (eqb k 0) (Fault next) (repeated k x)) (h n (omega arith))))

-- one call more makes no difference once the bytes are bounded
step_ext : (s : List ℕ) (at d k j : ℕ) → ((n e : ℕ) → at < n → block_with k s n e ≡ block_with j s n e) → block_with (suc k) s at d ≡ block_with (suc j) s at d
unfolding block_with
step_ext s at d k j h =
    after_ext s at (number_at s at) _ _ (number_goes s at)
    (λ v n w. ap (cond (eqb v 0) (Runs [] n))
    (followed_ext s n (entry_with s (λ m. block_with k s m (d + 1)) at n v d) (λ m. block_with k s m d) (λ m. block_with j s m d)
    (entry_fwd s (λ m. block_with k s m (d + 1)) at n v d (λ m. block_fwd k s m (d + 1)))
    (λ m u. h m d (omega arith))
    ∙ ap (λ (x : Meaning). followed x (λ m. block_with j s m d))
    (entry_ext s (λ m. block_with k s m (d + 1)) (λ m. block_with j s m (d + 1)) at n v d (λ m u. h m (d + 1) (omega arith)))))

pub block_more : (k : ℕ) (s : List ℕ) (at d : ℕ) → length s ≤ at + k → block_with k s at d ≡ block_with (suc k) s at d
unfolding block_with
block_more zero s at d h =
    let g : length s ≤ at = omega arith in
    rw (number_none s at g) refl
block_more (suc k) s at d h = step_ext s at d k (suc k) (λ n e w. block_more k s n e (omega arith))

-- the readers, with no bound in sight: what a proof of the code uses
pub block_is : (s : List ℕ) (at d : ℕ) → block_at s at d
    ≡ after (number_at s at) (λ tag next. cond (eqb tag 0) (Runs [] next) (followed (entry_at s at next tag d) (λ n. block_at s n d)))
unfolding block_at entry_at block_with
block_is s at d = block_more (suc (length s)) s at d (omega arith)
