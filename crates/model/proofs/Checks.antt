-- What an operation that passes check 5 is known to be. Assumes nothing.
use Rattle.std.specs.Prelude.{Err}
use Prim.Native.Nat.{◌≤◌, ◌<◌}
use native.Mathlib.Omega.{arith}
use mathlib.Core.Path.{◌≡◌, refl}
use mathlib.Core.Bool.{Bool, true, false, ◌&&◌, ◌||◌, not, and-true}
use lib.Dec.{ltb, eqb}
use borrow.Author.Tests.{ltb-false, leb-false, eqb-false, lt-ltb, lt-leb, le-leb, ne_eqb}
use Rattle.model.specs.Kinds.{is_page_erase, is_bank_erase, is_information, no_kind, no_partition, uses_count, uses_type, max_count}
use Rattle.model.specs.Places.{span_words}
use Rattle.model.specs.Refusals.{accepts, check}
use Rattle.model.specs.Checks.{unaligned, bad_count, malformed}
use Rattle.model.specs.declared.Operation.{Operation}
use Rattle.model.specs.declared.Refusal.TheVariants.{Malformed}
use Rattle.model.proofs.Bool.{or_left, or_right, by_test}

-- Each test of check 5 fails.
pub record WellFormed (o : Operation) : Type 0 where
  pub kind : o.kind < 4
  pub partition : o.partition ≤ 1
  pub info : (uses_type o && ltb 2 o.info) ≡ false
  pub aligned : unaligned o.address ≡ false
  pub count : (uses_count o && bad_count o) ≡ false

pub well_formed : (o : Operation) → malformed o ≡ false → WellFormed o
unfolding malformed
well_formed o h =
    let h₁ : (no_partition o || ((uses_type o && ltb 2 o.info) || (unaligned o.address || (uses_count o && bad_count o)))) ≡ false =
    or_right (no_kind o) _ h in
    let h₂ : ((uses_type o && ltb 2 o.info) || (unaligned o.address || (uses_count o && bad_count o))) ≡ false =
    or_right (no_partition o) _ h₁ in
    let h₃ : (unaligned o.address || (uses_count o && bad_count o)) ≡ false = or_right (uses_type o && ltb 2 o.info) _ h₂ in
    record {
      kind = leb-false 4 o.kind (or_left (no_kind o) _ h);
      partition = ltb-false 1 o.partition (or_left (no_partition o) _ h₁);
      info = or_left (uses_type o && ltb 2 o.info) _ h₂;
      aligned = or_left (unaligned o.address) _ h₃;
      count = or_right (unaligned o.address) _ h₃;
    }

-- A read or a program has 1 to 1,024 words.
pub count_bound : (o : Operation) → malformed o ≡ false → o.kind < 2 → (1 ≤ o.count) × (o.count ≤ max_count)
count_bound o h k =
    let moves : uses_count o ≡ true = lt-ltb o.kind 2 k in
    let bad : bad_count o ≡ false = rw moves at (well_formed o h).count in
    let some : o.count ≡ 0 → ⊥ = eqb-false o.count 0 (or_left (eqb o.count 0) _ bad) in
    let few : o.count ≤ max_count = ltb-false max_count o.count (or_right (eqb o.count 0) _ bad) in
    (omega (arith, some), few)

-- So has every operation but a bank erase, with the 256 of a page erase.
pub span_words_bound : (o : Operation) → malformed o ≡ false → is_bank_erase o ≡ false → (1 ≤ span_words o) × (span_words o ≤ max_count)
span_words_bound o h n =
    by_test (is_page_erase o) (λ e. rw e (omega arith, omega arith))
    (λ e.
    let moves : o.kind < 2 = omega (arith, (well_formed o h).kind, eqb-false o.kind 2 e, eqb-false o.kind 3 n) in
    rw e (count_bound o h moves))

pub span_words_le : (o : Operation) → malformed o ≡ false → is_bank_erase o ≡ false → span_words o ≤ max_count
span_words_le o h n = (span_words_bound o h n).1

-- Check 5 accepts what is not malformed.
pub formed : (malformed : Bool) → accepts (check malformed (Err Malformed)) ≡ not malformed
formed true = refl
formed false = refl

-- ---- check 5 by kind

pub malformed_moving : (o : Operation) → o.kind < 2
    → malformed o ≡ (no_partition o || ((is_information o && ltb 2 o.info) || (unaligned o.address || bad_count o)))
unfolding malformed
malformed_moving o h =
    simp (lt-leb 4 o.kind (omega arith), ne_eqb o.kind 3 (λ e. omega arith), lt-ltb o.kind 2 h, and-true)

pub malformed_unknown : (o : Operation) → 4 ≤ o.kind → malformed o ≡ true
unfolding malformed
malformed_unknown o h = rw (le-leb 4 o.kind h)
