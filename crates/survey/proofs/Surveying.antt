-- Laws of a survey: what it tells of the places is what the definitions of a write and a take ask. Assumes nothing.
use mathlib.Core.Path.{◌≡◌, refl, ap, ◌∙◌}
use mathlib.Core.Logic.{⊎_elim}
use mathlib.Core.Bool.{Bool, true, false, ◌&&◌}
use mathlib.Core.List.{List, [], ◌∷◌, ◌++◌}
use Prim.Native.Nat.{ℕ, zero, suc, ◌+◌, ◌*◌, ◌<◌, ◌≤◌, max}
use native.Mathlib.Omega.{arith}
use lib.Dec.{leb}
use lib.ListN.{length, get_or, drop, drop_of_length-le}
use lib.Seq.{drop-cons}
use borrow.Author.Tests.{lt-ltb, le-ltb, leb-true, leb-false}
use Rattle.std.specs.Prelude.{Option, None, Some, is_none}
use Rattle.model.proofs.Bool.{which}
use Rattle.scan_queue.specs.Payload.{Scan}
use Rattle.scan_queue.specs.Slots.{Slot, Unused, Dead, Waiting, Taken, Odd, slot_at, waits, serial_of, is_unused, slots_from, places, Entry, cons, entries, insert, sorted, queue, highest}
use Rattle.scan_queue.specs.Decisions.{or_at, first_unused, none_waits}
use Rattle.slots.specs.Code.{to_slot}
use Rattle.slots.specs.declared.Class as Class
use Rattle.survey.specs.declared.Oldest.{Oldest}
use Rattle.survey.specs.declared.Survey.{Survey}
use Rattle.survey.specs.Survey.{nothing, saw, older, surveyed}

-- ---- the places of a page

slots_long : (n q : ℕ) → length (slots_from n q) ≡ n
unfolding slots_from
slots_long zero q = refl
slots_long (suc n) q = ap suc (slots_long n (q + 16))

slots_at : (n q j : ℕ) → j < n → get_or (slots_from n q) j 0 ≡ q + 16 * j
unfolding slots_from
slots_at zero q j h = absurd (omega arith)
slots_at (suc n) q zero h = omega arith
slots_at (suc n) q (suc j) h = slots_at n (q + 16) j (omega arith) ∙ omega arith

pub all_seen : (m : List ℕ) (q : ℕ) (s : Survey) → surveyed m (drop 16 (slots_from 16 q)) s ≡ s
unfolding surveyed
all_seen m q s =
    let l : length (slots_from 16 q) ≤ 16 = rw (slots_long 16 q) (omega arith) in
    rw (drop_of_length-le (slots_from 16 q) {i = 16} l)

pub one_seen : (m : List ℕ) (q j k : ℕ) (s : Survey) → k ≡ suc j → j < 16
    → surveyed m (drop j (slots_from 16 q)) s ≡ saw (q + 16 * j) (slot_at m (q + 16 * j)) (surveyed m (drop k (slots_from 16 q)) s)
unfolding surveyed
one_seen m q j k s e h =
    let l : j < length (slots_from 16 q) = rw (slots_long 16 q) h in
    rw (e, drop-cons (slots_from 16 q) j 0 l, slots_at 16 q j h)

-- Of a slot only its kind and serial matter.
pub saw_same : (p : ℕ) (l : List ℕ) (c : Class.Class) (s : Survey) → saw p (to_slot [] c) s ≡ saw p (to_slot l c) s
saw_same p l Class.TheVariants.Unused s = refl
saw_same p l Class.TheVariants.Dead s = refl
saw_same p l (Class.TheVariants.Waiting f) s = refl
saw_same p l (Class.TheVariants.Taken f) s = refl
saw_same p l (Class.TheVariants.Odd f) s = refl

two_pages : (m ps qs : List ℕ) (s : Survey) → surveyed m (ps ++ qs) s ≡ surveyed m ps (surveyed m qs s)
unfolding surveyed
two_pages m [] qs s = refl
two_pages m (p ∷ ps) qs s = ap (saw p (slot_at m p)) (two_pages m ps qs s)

pub both_seen : (m : List ℕ) (a b : ℕ) (s : Survey)
    → surveyed m (places a b) s ≡ surveyed m (slots_from 16 a) (surveyed m (slots_from 16 b) s)
unfolding places
both_seen m a b s = two_pages m (slots_from 16 a) (slots_from 16 b) s

-- ---- what it tells

pub tells_highest : (m ps : List ℕ) → (surveyed m ps nothing).highest ≡ highest m ps
unfolding surveyed highest
tells_highest m [] = refl
tells_highest m (p ∷ ps) = step (slot_at m p) ∙ ap (max (serial_of (slot_at m p))) (tells_highest m ps)
  where
    step : (x : Slot) → (saw p x (surveyed m ps nothing)).highest ≡ max (serial_of x) (surveyed m ps nothing).highest
    step Unused = omega arith
    step Dead = omega arith
    step (Waiting s) = omega arith
    step (Taken s) = omega arith
    step (Odd s) = omega arith

pub tells_unused : (m ps : List ℕ) → (surveyed m ps nothing).unused ≡ first_unused m ps
unfolding surveyed first_unused
tells_unused m [] = refl
tells_unused m (p ∷ ps) = step (slot_at m p) ∙ ap (or_at (is_unused (slot_at m p)) p) (tells_unused m ps)
  where
    step : (x : Slot) → (saw p x (surveyed m ps nothing)).unused ≡ or_at (is_unused x) p (surveyed m ps nothing).unused
    step Unused = refl
    step Dead = refl
    step (Waiting s) = refl
    step (Taken s) = refl
    step (Odd s) = refl

pub tells_waits : (m ps : List ℕ) → is_none (surveyed m ps nothing).oldest ≡ none_waits m ps
unfolding surveyed none_waits
tells_waits m [] = refl
tells_waits m (p ∷ ps) = step (slot_at m p) ∙ ap (λ (b : Bool). is_none (waits (slot_at m p)) && b) (tells_waits m ps)
  where
    step : (x : Slot) → is_none (saw p x (surveyed m ps nothing)).oldest ≡ (is_none (waits x) && is_none (surveyed m ps nothing).oldest)
    step Unused = refl
    step Dead = refl
    step (Waiting s) = refl
    step (Taken s) = refl
    step (Odd s) = refl

-- The oldest is the head of the queue, if it has one.
abbrev pub head_of : List Entry → Option Oldest
head_of [] = None
head_of (e ∷ l) = Some (record { place = e.place; serial = e.scan.serial })

head_new : (o : Option Oldest) (p : ℕ) (x : Scan) (l : List Entry) → o ≡ head_of l
    → Some (older p x.serial o) ≡ head_of (insert (record { place = p; scan = x }) l)
unfolding insert
head_new o p x [] h = rw h refl
head_new o p x (e ∷ l) h =
    ⊎_elim
    (λ (t : leb x.serial e.scan.serial ≡ true). rw (h, t, le-ltb e.scan.serial x.serial (omega (arith, leb-true x.serial e.scan.serial t))) refl)
    (λ (t : leb x.serial e.scan.serial ≡ false). rw (h, t, lt-ltb e.scan.serial x.serial (omega (arith, leb-false x.serial e.scan.serial t))) refl)
    (which (leb x.serial e.scan.serial))

pub tells_oldest : (m ps : List ℕ) → (surveyed m ps nothing).oldest ≡ head_of (queue m ps)
unfolding surveyed queue entries sorted
tells_oldest m [] = refl
tells_oldest m (p ∷ ps) = step (slot_at m p) (tells_oldest m ps)
  where
    step : (x : Slot) → (surveyed m ps nothing).oldest ≡ head_of (sorted (entries (λ q. waits (slot_at m q)) ps))
        → (saw p x (surveyed m ps nothing)).oldest ≡ head_of (sorted (cons p (waits x) (entries (λ q. waits (slot_at m q)) ps)))
    step Unused h = h
    step Dead h = h
    step (Waiting s) h = head_new (surveyed m ps nothing).oldest p s (sorted (entries (λ q. waits (slot_at m q)) ps)) h
    step (Taken s) h = h
    step (Odd s) h = h
