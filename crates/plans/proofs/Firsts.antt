-- What the first words of an operation do, one more at the end; all of them do what the plan's places do.
-- Assumes nothing.
use Prim.Native.Nat.{ℕ, zero, suc, ◌+◌, ◌-◌, ◌<◌, ◌≤◌}
use native.Mathlib.Nat.{add-zero, zero-add, add_assoc}
use native.Mathlib.Numerals.{add-one}
use native.Mathlib.Omega.{arith}
use mathlib.Core.Path.{◌≡◌, refl, sym, ap, ◌∙◌}
use mathlib.Core.Bool.{true}
use mathlib.Core.List.{List, [], ◌∷◌, ◌++◌, append-nil}
use lib.ListN.{length, take, drop, set, replicate, length-append, length-set}
use lib.Seq.{drop-cons, set_at, append_snoc}
use borrow.Author.Tests.{eqb-true, lt-ltb, le-ltb}
use Rattle.model.specs.Words.{all_ones}
use Rattle.model.specs.Kinds.{is_read}
use Rattle.model.specs.Places.{total_words, place_of}
use Rattle.model.specs.State.{Flash, stored, with_word, flash_fits}
use Rattle.model.specs.Rights.{readable_words}
use Rattle.model.specs.Refusals.{accepts}
use Rattle.model.specs.Checks.{operation_answer}
use Rattle.model.specs.Steps.{delivered, read_word, counted_bits}
use Rattle.model.specs.declared.BusWord.{BusWord}
use Rattle.model.specs.declared.Operation.{Operation}
use Rattle.model.specs.declared.Setup.{Setup}
use Rattle.model.proofs.Places.{moving_words}
use Rattle.model.proofs.Flashes.{stored_fits}
use Rattle.model.proofs.DeniedReads.{readable_le, accepted_readable}
use Rattle.plans.specs.Plan.{places_from, places_of, true_places, delivered_at, words_at, stored_all, changed_all}

-- There are as many places as words.
pub places_length : (d : ℕ) (o : Operation) (k n : ℕ) → length (places_from d o k n) ≡ n
places_length d o k zero = refl
places_length d o k (suc n) = ap suc (places_length d o (k + 1) n)

-- ---- reads

-- The first words of a read, in order.
unfoldable pub read_first : Flash → ℕ → Operation → ℕ → ℕ → List ℕ
read_first f d o readable zero = []
read_first f d o readable (suc k) = read_first f d o readable k ++ (read_word f readable k (place_of d o k) ∷ [])

module _ (f : Flash) (d : ℕ) (o : Operation) (readable : ℕ) where
  -- They are k words.
  pub read_length : (k : ℕ) → length (read_first f d o readable k) ≡ k
  unfolding read_first
  read_length zero = refl
  read_length (suc k) = rw length-append (ap (λ (n : ℕ). n + 1) (read_length k) ∙ add-one k)

  -- They and the words delivered at the later places are the later first words:
  read_from : (n k : ℕ)
      → read_first f d o readable k ++ delivered_at f readable k (places_from d o k n) ≡ read_first f d o readable (k + n)
  unfolding read_first
  read_from zero k = rw (add-zero, append-nil)
  read_from (suc n) k =
      let one : read_first f d o readable (k + 1) ≡ read_first f d o readable k ++ (read_word f readable k (place_of d o k) ∷ []) = rw add-one in
      let next : k + suc n ≡ k + 1 + n = omega arith in
      rw (next, ← read_from n (k + 1), one, append_snoc)

  -- all of them are the words delivered at the places.
  pub read_all : (n : ℕ) → read_first f d o readable n ≡ delivered_at f readable 0 (places_from d o 0 n)
  unfolding read_first
  read_all n = sym (read_from n 0 ∙ rw zero-add)

  -- In a buffer that starts with them, the next word is set.
  pub read_next : (b : List ℕ) (k : ℕ) → k < length b
      → set (read_first f d o readable k ++ drop k b) k (read_word f readable k (place_of d o k)) ≡ read_first f d o readable (suc k) ++ drop (suc k) b
  unfolding read_first
  read_next b k h = rw (drop-cons b k 0, set_at (read_first f d o readable k) _ _ _ k (read_length k), append_snoc)

-- ---- denied reads: the true words, and ones

-- The words from word k on of a read whose true words all came before are ones;
past_ones : (f : Flash) (d : ℕ) (o : Operation) (readable k n : ℕ) → readable ≤ k
    → delivered_at f readable k (places_from d o k n) ≡ replicate n all_ones
unfolding read_word
past_ones f d o readable k zero h = refl
past_ones f d o readable k (suc n) h = rw (le-ltb k readable h, past_ones f d o readable (k + 1) n (omega arith))

-- of one with r true words more, these come first.
cut_from : (f : Flash) (d : ℕ) (o : Operation) (k r n : ℕ)
    → delivered_at f (k + r) k (places_from d o k (r + n)) ≡ words_at f (places_from d o k r) ++ replicate n all_ones
unfolding read_word
cut_from f d o k zero n = rw (add-zero, zero-add) (past_ones f d o k k n (omega arith))
cut_from f d o k (suc r) n =
    let all : suc r + n ≡ suc (r + n) = omega arith in
    let next : k + suc r ≡ k + 1 + r = omega arith in
    rw (next, all, lt-ltb k (k + 1 + r) (omega arith)) (ap (λ (ws : List ℕ). delivered f (place_of d o k) ∷ ws) (cut_from f d o (k + 1) r n))

-- The first r of n words have the first r of their places.
take_places : (d : ℕ) (o : Operation) (k r n : ℕ) → r ≤ n → take r (places_from d o k n) ≡ places_from d o k r
take_places d o k zero n h = refl
take_places d o k (suc r) zero h = absurd (omega arith)
take_places d o k (suc r) (suc n) h = ap (λ (ps : List BusWord). place_of d o k ∷ ps) (take_places d o (k + 1) r n (omega arith))

module _ (s : Setup) (o : Operation) (r : is_read o ≡ true) where
  all_words : total_words s.pages o ≡ o.count
  all_words = moving_words s.pages o (omega (arith, eqb-true o.kind 0 r))

  -- So a read delivers its true words, and then ones;
  pub read_cut : (f : Flash)
      → delivered_at f (readable_words s o) 0 (places_of s.pages o) ≡ words_at f (true_places s o) ++ replicate (o.count - readable_words s o) all_ones
  unfolding places_of true_places
  read_cut f =
      let all : total_words s.pages o ≡ readable_words s o + (o.count - readable_words s o) = all_words ∙ omega (arith, readable_le s o r) in
      rw all (rw (zero-add (readable_words s o)) at (cut_from f s.pages o 0 (readable_words s o) (o.count - readable_words s o)))

  -- its true words have the first of its places,
  pub true_first : take (readable_words s o) (places_of s.pages o) ≡ true_places s o
  unfolding places_of true_places
  true_first = take_places s.pages o 0 (readable_words s o) (total_words s.pages o) (rw all_words (readable_le s o r))

  -- and all of them if it is accepted.
  pub true_all : accepts (operation_answer s o) ≡ true → true_places s o ≡ places_of s.pages o
  unfolding places_of true_places
  true_all ok = rw (all_words, ← accepted_readable s o r ok)

-- ---- programs and erases

-- The flash after the first words, where word k becomes `new k old`.
unfoldable pub stored_first : ℕ → Operation → (ℕ → ℕ → ℕ) → ℕ → Flash → Flash
stored_first d o new zero f = f
stored_first d o new (suc k) f =
    with_word (stored_first d o new k f) (place_of d o k) (new k (stored (stored_first d o new k f) (place_of d o k)))

-- The bits that count as changed by them.
unfoldable pub changed_first : Setup → Operation → (ℕ → ℕ → ℕ) → ℕ → Flash → ℕ
changed_first s o new zero f = 0
changed_first s o new (suc k) f =
    changed_first s o new k f
    + counted_bits s (place_of s.pages o k) (stored (stored_first s.pages o new k f) (place_of s.pages o k))
    (new k (stored (stored_first s.pages o new k f) (place_of s.pages o k)))

module _ (o : Operation) (new : ℕ → ℕ → ℕ) (f : Flash) where
  -- The image keeps its length,
  pub stored_length : (d k : ℕ) → length (stored_first d o new k f).words ≡ length f.words
  unfolding stored_first
  stored_length d zero = refl
  stored_length d (suc k) = rw length-set (stored_length d k)

  -- so the flash fits as it did.
  pub first_fits : (d k : ℕ) → flash_fits d (stored_first d o new k f) ≡ flash_fits d f
  unfolding stored_first
  first_fits d zero = refl
  first_fits d (suc k) = stored_fits d (stored_first d o new k f) (place_of d o k) _ ∙ first_fits d k

  -- The places from word k on store what the later words do.
  stored_from : (d n k : ℕ) → stored_all new k (places_from d o k n) (stored_first d o new k f) ≡ stored_first d o new (k + n) f
  unfolding stored_first
  stored_from d zero k = rw add-zero
  stored_from d (suc n) k =
      let next : k + suc n ≡ suc k + n = omega arith in simp (next, add-one) (stored_from d n (suc k))

  -- All of them store what the plan's places do,
  pub stored_firsts : (d n : ℕ) → stored_first d o new n f ≡ stored_all new 0 (places_from d o 0 n) f
  unfolding stored_first
  stored_firsts d n = sym (stored_from d n 0 ∙ rw zero-add)

  -- The places from word k on change as many bits as the later words do.
  changed_from : (s : Setup) (n k : ℕ)
      → changed_first s o new k f + changed_all s new k (places_from s.pages o k n) (stored_first s.pages o new k f)
      ≡ changed_first s o new (k + n) f
  unfolding stored_first changed_first
  changed_from s zero k = simp add-zero
  changed_from s (suc n) k =
      let next : k + suc n ≡ suc k + n = omega arith in rw (next, add-one, ← add_assoc) (changed_from s n (suc k))

  -- and change as many bits.
  pub changed_firsts : (s : Setup) (n : ℕ) → changed_first s o new n f ≡ changed_all s new 0 (places_from s.pages o 0 n) f
  unfolding stored_first changed_first
  changed_firsts s n = sym (sym (zero-add _) ∙ changed_from s n 0 ∙ rw zero-add)
