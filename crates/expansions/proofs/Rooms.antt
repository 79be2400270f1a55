-- What room for a block or an entry says of its parts: which numbers stand there, and room for each part. Assumes nothing.
use Prim.Native.Nat.{ℕ, ◌+◌, ◌≤◌, ◌<◌}
use native.Mathlib.Omega.{arith}
use mathlib.Core.Path.{◌≡◌, refl, ◌∙◌}
use mathlib.Core.Bool.{Bool, true, false, cond, false≢true}
use mathlib.Core.List.{List, [], ◌∷◌, ◌++◌}
use lib.ListN.{length, length-append}
use lib.Dec.{ltb, eqb}
use borrow.Author.Tests.{eqb-false, ne_eqb, ltb-true}
use Rattle.model.proofs.Bool.{by_test}
use Rattle.std.proofs.Common.{Ok, Err}
use Rattle.numbers.specs.Number.{Parsed, number_at, number_to, value_of, next_of}
use Rattle.numbers.proofs.Laws.{Goes, number_goes, number_to_goes}
use Rattle.sheets.specs.Sheet.{stated_at, Meaning, after, once, copies, repeated, before, followed, repeat_at, entry_with, block_at, entry_at, places_of}
use Rattle.sheets.specs.Sheet.Meaning.{Runs, Fault}
use Rattle.sheets.proofs.Forward.{Fwd, block_is, entry_forward}
use Rattle.expansions.specs.Laying.{reads, end_of, Room}

-- What has a fault has no room.
no_room : {A : Type 0} {p n : ℕ} → Room (Fault p) n → A
no_room r = absurd (false≢true r.whole)

-- ---- a number, and what follows from it

after_number : (s : List ℕ) (at : ℕ) (r : Parsed) (f : ℕ → ℕ → Meaning) (n : ℕ) → Goes s at r → Room (after r f) n
    → (after r f ≡ f (value_of r) (next_of r)) × (at < next_of r) × (next_of r ≤ length s)
after_number s at (Ok x) f n g r = (refl, g.0, g.1)
after_number s at (Err p) f n g r = no_room r

-- ---- an entry, and the rest of its block

pub record Parts (m : Meaning) (f : ℕ → Meaning) (n : ℕ) : Type 0 where
  pub first : Room m n
  pub rest : Room (f (end_of m)) (n + length (places_of m))
  pub places : places_of (followed m f) ≡ places_of m ++ places_of (f (end_of m))
  pub end : end_of (followed m f) ≡ end_of (f (end_of m))

parts : (m : Meaning) (f : ℕ → Meaning) (n : ℕ) → Room (followed m f) n → Parts m f n
parts (Runs ps x) f n r = both (f x) refl r
  where
    both : (b : Meaning) → f x ≡ b → Room (before ps b) n → Parts (Runs ps x) f n
    both (Runs qs y) e t =
        let l : n + (length ps + length qs) ≤ 4096 = rw length-append at t.few in
        record {
          first = record { whole = refl; few = omega arith };
          rest = rw e (record { whole = refl; few = omega arith });
          places = rw e refl;
          end = rw e refl;
        }
    both (Fault p) e t = no_room t
parts (Fault p) f n r = no_room r

module _ (s : List ℕ) (at d n : ℕ) (room : Room (block_at s at d) n) where
  tagged : (block_at s at d ≡ cond (eqb (value_of (number_at s at)) 0) (Runs [] (next_of (number_at s at)))
      (followed (entry_at s at (next_of (number_at s at)) (value_of (number_at s at)) d) (λ x. block_at s x d)))
      × (at < next_of (number_at s at)) × (next_of (number_at s at) ≤ length s)
  tagged =
      let w = after_number s at (number_at s at) _ n (number_goes s at) (rw (block_is s at d) at room) in
      (block_is s at d ∙ w.0, w.1, w.2)

  pub tag_onward : (at < next_of (number_at s at)) × (next_of (number_at s at) ≤ length s)
  tag_onward = (tagged.1, tagged.2)

  pub block_ends : value_of (number_at s at) ≡ 0 → block_at s at d ≡ Runs [] (next_of (number_at s at))
  block_ends z = tagged.0 ∙ rw z refl

  pub block_goes_on : (value_of (number_at s at) ≡ 0 → ⊥)
      → block_at s at d ≡ followed (entry_at s at (next_of (number_at s at)) (value_of (number_at s at)) d) (λ x. block_at s x d)
  block_goes_on z = tagged.0 ∙ rw (ne_eqb _ 0 z) refl

  pub block_parts : (value_of (number_at s at) ≡ 0 → ⊥) → Parts (entry_at s at (next_of (number_at s at)) (value_of (number_at s at)) d) (λ x. block_at s x d) n
  block_parts z = parts (entry_at s at (next_of (number_at s at)) (value_of (number_at s at)) d) (λ x. block_at s x d) n (rw (block_goes_on z) at room)

-- ---- an entry

module _ (s : List ℕ) (at next tag d n : ℕ) (room : Room (entry_at s at next tag d) n) where
  -- It ends no earlier than its tag does.
  pub entry_onward : next ≤ end_of (entry_at s at next tag d)
  entry_onward = onward (entry_at s at next tag d) (entry_forward s at next tag d) room
    where
      onward : (m : Meaning) → Fwd s next m → Room m n → next ≤ end_of m
      onward (Runs ps x) f r = omega arith
      onward (Fault p) f r = no_room r

  -- An entry that runs once is one of these.
  pub entry_once : (tag ≡ 2 → ⊥) → entry_at s at next tag d ≡ once at (cond (eqb tag 1) (stated_at s next).end (number_to s 7 next))
  unfolding entry_at entry_with
  entry_once z =
      by_test (eqb tag 1) (λ e. rw e refl)
      (λ e.
      let r : Room (cond (eqb tag 3) (once at (number_to s 7 next)) (Fault at)) n = rw (e, ne_eqb tag 2 z) at room in
      rw (e, ne_eqb tag 2 z) (by_test (eqb tag 3) (λ t. rw t refl) (λ t. no_room (rw t at r))))

  pub once_laid : (tag ≡ 2 → ⊥) → (x : Parsed) → x ≡ cond (eqb tag 1) (stated_at s next).end (number_to s 7 next)
      → (n < 4096) × (entry_at s at next tag d ≡ Runs (at ∷ []) (next_of x))
  once_laid z x e = laid x (entry_once z ∙ rw (← e) refl)
    where
      laid : (x : Parsed) → entry_at s at next tag d ≡ once at x → (n < 4096) × (entry_at s at next tag d ≡ Runs (at ∷ []) (next_of x))
      laid (Ok y) w = let r : Room (Runs (at ∷ []) y.next) n = rw w at room in (let f = r.few in omega arith, w)
      laid (Err p) w = let r : Room (Fault p) n = rw w at room in no_room r

-- ---- a repeat

repeat_whole : (k : ℕ) (m : Meaning) (n : ℕ) → Room (repeated k m) n
    → (reads m ≡ true) × (n + length (copies k (places_of m)) ≤ 4096) × (repeated k m ≡ Runs (copies k (places_of m)) (end_of m))
repeat_whole k (Runs ps x) n r = (refl, r.few, refl)
repeat_whole k (Fault p) n r = no_room r

-- A repeat that has room: its depth, its count, and its block.
pub record Repeat (s : List ℕ) (at next d n : ℕ) : Type 0 where
  pub shallow : d < 8
  pub onward : (next < next_of (number_to s 255 next)) × (next_of (number_to s 255 next) ≤ length s)
  pub some : 0 < value_of (number_to s 255 next)
  pub whole : reads (block_at s (next_of (number_to s 255 next)) (d + 1)) ≡ true
  pub few : n + length (copies (value_of (number_to s 255 next)) (places_of (block_at s (next_of (number_to s 255 next)) (d + 1)))) ≤ 4096
  pub means : entry_at s at next 2 d
      ≡ Runs (copies (value_of (number_to s 255 next)) (places_of (block_at s (next_of (number_to s 255 next)) (d + 1)))) (end_of (block_at s (next_of (number_to s 255 next)) (d + 1)))

module _ (s : List ℕ) (at next d n : ℕ) (room : Room (entry_at s at next 2 d) n) where
  repeat_is : (t : Bool) → ltb d 8 ≡ t → (d < 8) × (entry_at s at next 2 d ≡ repeat_at s (λ y. block_at s y (d + 1)) next)
  unfolding entry_at entry_with
  repeat_is true e = (ltb-true _ _ e, rw e refl)
  repeat_is false e = let r : Room (Fault at) n = rw e at room in no_room r

  repeat_of : (k y : ℕ) → d < 8 → (next < y) × (y ≤ length s) → value_of (number_to s 255 next) ≡ k → next_of (number_to s 255 next) ≡ y
      → entry_at s at next 2 d ≡ cond (eqb k 0) (Fault next) (repeated k (block_at s y (d + 1))) → Repeat s at next d n
  repeat_of k y h onward v x e =
      by_test (eqb k 0)
      (λ z. let r : Room (Fault next) n = rw (e, z) at room in no_room r)
      (λ z.
      let i : entry_at s at next 2 d ≡ repeated k (block_at s y (d + 1)) = e ∙ rw z refl in
      let w = repeat_whole k (block_at s y (d + 1)) n (rw i at room) in
      let q : k ≡ 0 → ⊥ = eqb-false k 0 z in
      record { shallow = h; onward = rw x onward; some = rw v (omega arith); whole = rw x w.0; few = rw (v, x) w.1; means = rw (v, x) (i ∙ w.2) })

  pub repeat_room : Repeat s at next d n
  repeat_room =
      let shape = repeat_is (ltb d 8) refl in
      let w = after_number s next (number_to s 255 next) _ n (number_to_goes s 255 next) (rw shape.1 at room) in
      repeat_of _ _ shape.0 (w.1, w.2) refl refl (shape.1 ∙ w.0)
