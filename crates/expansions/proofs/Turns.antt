-- The turns of a repeat, laid one after the other. Assumes nothing.
use Prim.Native.Nat.{ℕ, zero, suc, ◌+◌, ◌-◌, ◌≤◌, ◌<◌}
use native.Mathlib.Omega.{arith}
use native.Mathlib.Nat.{mul-le-mul_right}
use native.Mathlib.Numerals.{add-one}
use mathlib.Core.Path.{◌≡◌, refl, ap, sym, ◌∙◌}
use mathlib.Core.Bool.{Bool, true, false, ◌&&◌}
use mathlib.Core.List.{List, [], ◌∷◌, ◌++◌, append-nil, append_assoc}
use lib.ListN.{length, length-append}
use lib.Seq.{sets}
use lib.Dec.{ltb}
use borrow.Author.Tests.{ltb-true, ltb-false}
use Rattle.model.proofs.Bool.{by_test, and_left}
use Rattle.sheets.specs.Sheet.{Meaning, copies, places_of}
use Rattle.sheets.proofs.Counting.{length_copies}
use Rattle.sheets.proofs.Loading.{sets_append}
use Rattle.expansions.specs.Laying.{reads, Room}

-- One copy more, at the end.
copies_last : (k : ℕ) (ps : List ℕ) → copies (k + 1) ps ≡ copies k ps ++ ps
copies_last zero ps = append-nil ps
copies_last (suc k) ps =
    let e : copies (suc k) ps ≡ copies k ps ++ ps = rw add-one at (copies_last k ps) in
    rw (add-one (suc k)) (ap (λ (l : List ℕ). ps ++ l) e ∙ sym (append_assoc ps (copies k ps) ps))

copies_le : (j k : ℕ) (ps : List ℕ) → j ≤ k → length (copies j ps) ≤ length (copies k ps)
copies_le j k ps h = rw (length_copies, length_copies) (mul-le-mul_right (length ps) h)

-- Copies of nothing.
copies_none : (k : ℕ) → copies k [] ≡ []
copies_none zero = refl
copies_none (suc k) = copies_none k

-- A block that runs k times runs once, and then k - 1 times.
pub copies_first : (k : ℕ) (ps : List ℕ) → 0 < k → copies k ps ≡ ps ++ copies (k - 1) ps
copies_first zero ps h = absurd (omega arith)
copies_first (suc k) ps h = let e : suc k - 1 ≡ k = omega arith in rw e refl

-- While turns go on, one is left.
pub goes_on : (turn k : ℕ) (t : Bool) → (ltb turn k && t) ≡ true → turn < k
goes_on turn k t e = ltb-true turn k (and_left (ltb turn k) t e)

-- The first of k turns more of a block are laid from place n on.
pub record Turning (m : Meaning) (k n : ℕ) (places₀ : List ℕ) (turn : ℕ) (places : List ℕ) (count : ℕ) : Type 0 where
  pub whole : reads m ≡ true
  pub few : n + length (copies k (places_of m)) ≤ 4096
  pub within : turn ≤ k
  pub laid : places ≡ sets places₀ n (copies turn (places_of m))
  pub counted : count ≡ n + length (copies turn (places_of m))

module _ {m : Meaning} {k n : ℕ} {places₀ : List ℕ} where
  pub turning_none : reads m ≡ true → n + length (copies k (places_of m)) ≤ 4096 → Turning m k n places₀ 0 places₀ n
  turning_none w f = record { whole = w; few = f; within = omega arith; laid = refl; counted = omega arith }

  module _ {turn : ℕ} {places : List ℕ} {count : ℕ} (t : Turning m k n places₀ turn places count) where
    pub turning_room : turn < k → Room m count
    turning_room h =
        let l : length (copies (turn + 1) (places_of m)) ≤ length (copies k (places_of m)) = copies_le (turn + 1) k (places_of m) (omega arith) in
        let e : length (copies (turn + 1) (places_of m)) ≡ length (copies turn (places_of m)) + length (places_of m) = rw (copies_last, length-append) refl in
        let c = t.counted in
        let f = t.few in
        record { whole = t.whole; few = omega arith }

    pub turning_more : turn < k → {places' : List ℕ} {count' : ℕ} → places' ≡ sets places count (places_of m) → count' ≡ count + length (places_of m)
        → Turning m k n places₀ (turn + 1) places' count'
    turning_more h l c = record {
      whole = t.whole;
      few = t.few;
      within = omega arith;
      laid = l ∙ rw (t.laid, t.counted, copies_last) (sets_append places₀ n (copies turn (places_of m)) (places_of m));
      counted = c ∙ rw (copies_last, length-append) (let e = t.counted in omega arith);
    }

    -- They end with the last one, or because a turn lays nothing.
    pub turning_done : (p : ℕ) → n ≡ p + length (places_of m) → (ltb turn k && ltb p count) ≡ false
        → (places ≡ sets places₀ n (copies k (places_of m))) × (count ≡ n + length (copies k (places_of m)))
    turning_done p b e = (t.laid ∙ rw same refl, t.counted ∙ rw same refl)
      where
        empty : (ps : List ℕ) → length ps ≡ 0 → copies turn ps ≡ copies k ps
        empty [] z = copies_none turn ∙ sym (copies_none k)
        empty (q ∷ ps) z = absurd (omega arith)

        same : copies turn (places_of m) ≡ copies k (places_of m)
        same =
            by_test (ltb turn k)
            (λ u.
            let h : count ≤ p = ltb-false p count (rw u at e) in
            let c = t.counted in
            empty (places_of m) (omega arith))
            (λ u.
            let h : k ≤ turn = ltb-false turn k u in
            let w = t.within in
            let j : turn ≡ k = omega arith in
            rw j refl)
