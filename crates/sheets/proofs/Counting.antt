-- The counts that the readers tell, each way out of a reader, and what they make of the verdict. Assumes nothing.
use mathlib.Core.Path.{◌≡◌, refl, sym, ◌∙◌, subst}
use mathlib.Core.Logic.{◌⊎◌, inl, inr, ⊎_elim}
use mathlib.Core.Bool.{true, false, cond}
use mathlib.Core.List.{List, []}
use Prim.Native.Nat.{ℕ, zero, suc, ◌+◌, ◌*◌, ◌≤◌, ◌<◌}
use native.Mathlib.Omega.{arith}
use native.Mathlib.Nat.{suc-mul, lt_of_le_of_lt, mul-le-mul_left, le_of_lt, mul-lt-mul_of_pos_right}
use lib.ListN.{length, length-append}
use lib.Dec.{leb, ltb, eqb}
use borrow.Author.Tests.{le-leb, lt-leb, eq-eqb, ne_eqb, lt-ltb, le-ltb, leb-true, leb-false}
use Rattle.model.proofs.Bool.{which}
use Rattle.std.proofs.Common.{Ok, Err}
use Rattle.numbers.specs.declared.Numeral.{Numeral}
use Rattle.numbers.specs.Number.{Parsed, number_at, number_to}
use Rattle.numbers.proofs.Laws.{Goes, number_goes, number_to_goes}
use Rattle.sheets.specs.Sheet.{stated_at, Meaning, after, once, copies, repeated, before, followed, entry_with, block_at, entry_at, places_of, Verdict, judged, verdict_of, expanded}
use Rattle.sheets.specs.Sheet.Meaning.{Runs, Fault}
use Rattle.sheets.specs.Counts.{capped, counted}
use Rattle.sheets.proofs.Forward.{Fwd, entry_forward, block_is}

-- a product of two numbers below 2^32 is below 2^64
pub product : (a b : ℕ) → a < 4294967296 → b < 4294967296 → a * b < 18446744073709551616
product a b h g = lt_of_le_of_lt (mul-le-mul_left a (le_of_lt g)) (mul-lt-mul_of_pos_right h (omega arith))

-- Counts: they may be capped on the way
pub capped_small : (n : ℕ) → n ≤ 4096 → capped n ≡ n
unfolding capped
capped_small n h = rw (le-leb _ _ h) refl

capped_large : (n : ℕ) → 4096 < n → capped n ≡ 4097
unfolding capped
capped_large n h = rw (lt-leb _ _ h) refl

size : (n : ℕ) → (n ≤ 4096) ⊎ (4096 < n)
size n = ⊎_elim (λ e. inl (leb-true _ _ e)) (λ e. inr (leb-false _ _ e)) (which (leb n 4096))

capped_add : (a b : ℕ) → capped (capped a + capped b) ≡ capped (a + b)
capped_add a b =
    ⊎_elim
    (λ h. ⊎_elim (λ g. rw (capped_small a h, capped_small b g) refl)
    (λ g. rw (capped_small a h, capped_large b g) (capped_large (a + 4097) (omega arith) ∙ sym (capped_large (a + b) (omega arith)))) (size b))
    (λ h. ⊎_elim (λ g. rw (capped_large a h, capped_small b g) (capped_large (4097 + b) (omega arith) ∙ sym (capped_large (a + b) (omega arith))))
    (λ g. rw (capped_large a h, capped_large b g) (capped_large (4097 + 4097) (omega arith) ∙ sym (capped_large (a + b) (omega arith)))) (size b))
    (size a)

pub many : (k n : ℕ) → 0 < k → n ≤ k * n
many zero n h = let z : ⊥ = omega arith in absurd z
many (suc k) n h = rw suc-mul (omega arith)

capped_mul : (k a : ℕ) → 0 < k → capped (k * capped a) ≡ capped (k * a)
capped_mul k a p =
    ⊎_elim (λ h. rw (capped_small a h) refl)
    (λ h. rw (capped_large a h) (capped_large (k * 4097) (omega (arith, many k 4097 p)) ∙ sym (capped_large (k * a) (omega (arith, many k a p)))))
    (size a)

pub length_copies : (k : ℕ) (ps : List ℕ) → length (copies k ps) ≡ k * length ps
length_copies zero ps = omega arith
length_copies (suc k) ps = rw (length-append, length_copies k ps, suc-mul) (omega arith)

-- What the readers make of counts: of an entry that runs once, of what follows a entries, of a block that runs k times.
abbrev once_counted : Parsed → Parsed
once_counted (Ok r) = Ok (record { value = capped 1; next = r.next })
once_counted (Err p) = Err p

abbrev added_to : ℕ → Parsed → Parsed
added_to a (Ok r) = Ok (record { value = capped (a + r.value); next = r.next })
added_to a (Err p) = Err p

abbrev times_of : ℕ → Parsed → Parsed
times_of k (Ok r) = Ok (record { value = capped (k * r.value); next = r.next })
times_of k (Err p) = Err p

counted_before : (ps : List ℕ) (m : Meaning) → added_to (capped (length ps)) (counted m) ≡ counted (before ps m)
counted_before ps (Runs qs n) = rw (length-append, capped_add) refl
counted_before ps (Fault p) = refl

counted_repeated : (k : ℕ) (m : Meaning) → 0 < k → times_of k (counted m) ≡ counted (repeated k m)
counted_repeated k (Runs ps n) h = rw (length_copies, capped_mul k (length ps) h) refl
counted_repeated k (Fault p) h = refl

counted_once : (at : ℕ) (r : Parsed) → once_counted r ≡ counted (once at r)
counted_once at (Ok r) = refl
counted_once at (Err p) = refl

counted_followed : (m : Meaning) (f : ℕ → Meaning) (a : Numeral) → Ok a ≡ counted m → added_to a.value (counted (f a.next)) ≡ counted (followed m f)
counted_followed (Runs ps n) f a e =
    let r : a ≡ record { value = capped (length ps); next = n } = cc in
    rw r (counted_before ps (f n))
counted_followed (Fault p) f a e = cc

counted_fault : (m : Meaning) (f : ℕ → Meaning) (p : ℕ) → Err p ≡ counted m → Err p ≡ counted (followed m f)
counted_fault (Runs ps n) f p e = cc
counted_fault (Fault q) f p e = e

-- Each way out of `block`
module _ (s : List ℕ) (at d : ℕ) where
  pub block_bad : (p : ℕ) → Err p ≡ number_at s at → Err p ≡ counted (block_at s at d)
  block_bad p e = rw (block_is s at d, ← e) refl

  module _ (tag : Numeral) (is : Ok tag ≡ number_at s at) where
    pub block_done : tag.value ≡ 0 → Ok tag ≡ counted (block_at s at d)
    unfolding capped
    block_done z = rw (block_is s at d, ← is, z) refl

    pub number_falls : (at < tag.next) × (tag.next ≤ length s)
    number_falls = subst (Goes s at) (sym is) (number_goes s at)

    module _ (some : tag.value ≡ 0 → ⊥) where
      pub block_stops : (p : ℕ) → Err p ≡ counted (entry_at s at tag.next tag.value d) → Err p ≡ counted (block_at s at d)
      block_stops p f = rw (block_is s at d, ← is, ne_eqb tag.value 0 some) (counted_fault (entry_at s at tag.next tag.value d) (λ x. block_at s x d) p f)

      module _ (first : Numeral) (f : Ok first ≡ counted (entry_at s at tag.next tag.value d)) where
        followed_by : (rest : Parsed) → rest ≡ counted (block_at s first.next d) → added_to first.value rest ≡ counted (block_at s at d)
        followed_by rest g =
            rw (block_is s at d, ← is, ne_eqb tag.value 0 some, g) (counted_followed (entry_at s at tag.next tag.value d) (λ y. block_at s y d) first f)

        pub block_goes : (rest : Numeral) → Ok rest ≡ counted (block_at s first.next d)
            → Ok (record { value = capped (first.value + rest.value); next = rest.next }) ≡ counted (block_at s at d)
        block_goes rest g = followed_by (Ok rest) g

        pub block_stops_later : (p : ℕ) → Err p ≡ counted (block_at s first.next d) → Err p ≡ counted (block_at s at d)
        block_stops_later p g = followed_by (Err p) g

-- Each way out of `entry`
module _ (s : List ℕ) (at next tag d : ℕ) where
  module _ (one : tag ≡ 1) where
    runs_once : (end : Parsed) → end ≡ (stated_at s next).end → once_counted end ≡ counted (entry_at s at next tag d)
    unfolding entry_at entry_with
    runs_once end f = rw (f, eq-eqb _ _ one) (counted_once at (stated_at s next).end)

    pub entry_one : (end : Numeral) → Ok end ≡ (stated_at s next).end → Ok (record { value = capped 1; next = end.next }) ≡ counted (entry_at s at next tag d)
    entry_one end f = runs_once (Ok end) f

    pub entry_one_bad : (p : ℕ) → Err p ≡ (stated_at s next).end → Err p ≡ counted (entry_at s at next tag d)
    entry_one_bad p f = runs_once (Err p) f

  module _ (three : tag ≡ 3) where
    sets_rights : (end : Parsed) → end ≡ number_to s 7 next → once_counted end ≡ counted (entry_at s at next tag d)
    unfolding entry_at entry_with
    sets_rights end f = rw (f, three) (counted_once at (number_to s 7 next))

    pub entry_three : (end : Numeral) → Ok end ≡ number_to s 7 next → Ok (record { value = capped 1; next = end.next }) ≡ counted (entry_at s at next tag d)
    entry_three end f = sets_rights (Ok end) f

    pub entry_three_bad : (p : ℕ) → Err p ≡ number_to s 7 next → Err p ≡ counted (entry_at s at next tag d)
    entry_three_bad p f = sets_rights (Err p) f

  module _ (two : tag ≡ 2) where
    pub entry_deep : 8 ≤ d → Err at ≡ counted (entry_at s at next tag d)
    unfolding entry_at entry_with
    entry_deep h = rw (two, le-ltb _ _ h) refl

    module _ (shallow : d < 8) where
      entry_two : entry_at s at next tag d ≡ after (number_to s 255 next) (λ k n. cond (eqb k 0) (Fault next) (repeated k (block_at s n (d + 1))))
      unfolding entry_at entry_with
      entry_two = rw (two, lt-ltb _ _ shallow) refl

      pub entry_bad : (p : ℕ) → Err p ≡ number_to s 255 next → Err p ≡ counted (entry_at s at next tag d)
      entry_bad p f = rw (entry_two, ← f) refl

      module _ (times : Numeral) (is : Ok times ≡ number_to s 255 next) where
        pub entry_zero : times.value ≡ 0 → Err next ≡ counted (entry_at s at next tag d)
        entry_zero z = rw (entry_two, ← is, z) refl

        module _ (some : times.value ≡ 0 → ⊥) where
          repeats : (body : Parsed) → body ≡ counted (block_at s times.next (d + 1)) → times_of times.value body ≡ counted (entry_at s at next tag d)
          repeats body g = rw (entry_two, ← is, ne_eqb times.value 0 some, g) (counted_repeated times.value (block_at s times.next (d + 1)) (omega arith))

          pub entry_times : (body : Numeral) → Ok body ≡ counted (block_at s times.next (d + 1))
              → Ok (record { value = capped (times.value * body.value); next = body.next }) ≡ counted (entry_at s at next tag d)
          entry_times body g = repeats (Ok body) g

          pub entry_times_bad : (p : ℕ) → Err p ≡ counted (block_at s times.next (d + 1)) → Err p ≡ counted (entry_at s at next tag d)
          entry_times_bad p g = repeats (Err p) g

  pub entry_none : (tag ≡ 1 → ⊥) → (tag ≡ 3 → ⊥) → (tag ≡ 2 → ⊥) → Err at ≡ counted (entry_at s at next tag d)
  unfolding entry_at entry_with
  entry_none a b c = rw (ne_eqb _ _ a, ne_eqb _ _ b, ne_eqb _ _ c) refl

  pub entry_past : (end : Numeral) → Ok end ≡ counted (entry_at s at next tag d) → next ≤ end.next
  entry_past end e = past (entry_at s at next tag d) e (entry_forward s at next tag d)
    where
      past : (m : Meaning) → Ok end ≡ counted m → Fwd s next m → next ≤ end.next
      past (Runs ps n) e f = let v : end ≡ record { value = capped (length ps); next = n } = cc in rw v (omega arith)
      past (Fault p) e f = cc

  pub count_falls : (times : Numeral) → Ok times ≡ number_to s 255 next → (next < times.next) × (times.next ≤ length s)
  count_falls times e = subst (Goes s next) (sym e) (number_to_goes s 255 next)

pub ruleset block_ways = (block_bad, block_done, block_stops, block_stops_later, block_goes, number_falls, entry_past)

pub ruleset entry_ways = (entry_one, entry_one_bad, entry_three, entry_three_bad, entry_bad, entry_zero, entry_times, entry_times_bad, entry_deep, entry_none, count_falls, product)

-- Each way out of `judge`
module _ (s : List ℕ) where
  module _ (end : Numeral) where
    judged_after : (m : Meaning) → Ok end ≡ counted m → end.next < length s → Err end.next ≡ judged s m
    judged_after (Runs ps x) e h =
        let r : end ≡ record { value = capped (length ps); next = x } = cc in
        let g : x < length s = rw r at h in
        rw (r, lt-ltb _ _ g) refl
    judged_after (Fault p) e h = cc

    judged_good : (m : Meaning) → Ok end ≡ counted m → length s ≤ end.next → end.value ≤ 4096 → Ok end.value ≡ judged s m
    judged_good (Runs ps x) e h k =
        let r : end ≡ record { value = capped (length ps); next = x } = cc in
        let g : length s ≤ x = rw r at h in
        let few : capped (length ps) ≤ 4096 = rw r at k in
        ⊎_elim (λ y. rw (r, le-ltb _ _ g, le-leb _ _ y, capped_small (length ps) y) refl)
        (λ y. let q : capped (length ps) ≡ 4097 = capped_large (length ps) y in absurd (omega arith))
        (size (length ps))
    judged_good (Fault p) e h k = cc

    judged_large : (m : Meaning) → Ok end ≡ counted m → length s ≤ end.next → 4096 < end.value → Err 0 ≡ judged s m
    judged_large (Runs ps x) e h k =
        let r : end ≡ record { value = capped (length ps); next = x } = cc in
        let g : length s ≤ x = rw r at h in
        let many : 4096 < capped (length ps) = rw r at k in
        ⊎_elim (λ y. let q : capped (length ps) ≡ length ps = capped_small (length ps) y in absurd (omega arith))
        (λ y. rw (le-ltb _ _ g, lt-leb (length ps) 4096 y) refl)
        (size (length ps))
    judged_large (Fault p) e h k = cc

  judged_bad : (m : Meaning) (p : ℕ) → Err p ≡ counted m → Err p ≡ judged s m
  judged_bad (Runs ps x) p e = cc
  judged_bad (Fault q) p e = let h : p ≡ q = cc in rw h refl

  pub verdict_long : 4096 < length s → Err 4096 ≡ verdict_of s
  unfolding verdict_of
  verdict_long h = rw (lt-leb _ _ h) refl

  module _ (short : length s ≤ 4096) where
    pub verdict_after : (end : Numeral) → Ok end ≡ counted (block_at s 0 0) → end.next < length s → Err end.next ≡ verdict_of s
    unfolding verdict_of
    verdict_after end e h = rw (le-leb _ _ short) (judged_after end (block_at s 0 0) e h)

    pub verdict_good : (end : Numeral) → Ok end ≡ counted (block_at s 0 0) → length s ≤ end.next → end.value ≤ 4096 → Ok end.value ≡ verdict_of s
    unfolding verdict_of
    verdict_good end e h k = rw (le-leb _ _ short) (judged_good end (block_at s 0 0) e h k)

    pub verdict_large : (end : Numeral) → Ok end ≡ counted (block_at s 0 0) → length s ≤ end.next → 4096 < end.value → Err 0 ≡ verdict_of s
    unfolding verdict_of
    verdict_large end e h k = rw (le-leb _ _ short) (judged_large end (block_at s 0 0) e h k)

    pub verdict_bad : (p : ℕ) → Err p ≡ counted (block_at s 0 0) → Err p ≡ verdict_of s
    unfolding verdict_of
    verdict_bad p e = rw (le-leb _ _ short) (judged_bad (block_at s 0 0) p e)

pub ruleset verdict_ways = (verdict_long, verdict_after, verdict_good, verdict_large, verdict_bad)

module _ (s : List ℕ) where
  -- A good sheet runs as many entries as its verdict says, 4,096 at most; a bad one none.
  good_known : (m : Meaning) (k : ℕ) → Ok k ≡ judged s m → (k ≡ length (places_of m)) × (k ≤ 4096)
  good_known (Runs ps n) k g =
      ⊎_elim (λ (f : ltb n (length s) ≡ true). let h : Ok k ≡ Err n = rw f at g in cc)
      (λ (f : ltb n (length s) ≡ false).
      let h : Ok k ≡ cond (leb (length ps) 4096) (Ok (length ps)) (Err 0) = rw f at g in
      ⊎_elim (λ (t : leb (length ps) 4096 ≡ true).
      let j : Ok k ≡ Ok (length ps) = rw t at h in
      let x : k ≡ length ps = cc in
      (x, rw x (leb-true _ _ t)))
      (λ (t : leb (length ps) 4096 ≡ false). let j : Ok k ≡ Err 0 = rw t at h in cc)
      (which (leb (length ps) 4096)))
      (which (ltb n (length s)))
  good_known (Fault p) k g = cc

  pub good_runs : (k : ℕ) → Ok k ≡ verdict_of s → (expanded s ≡ places_of (block_at s 0 0)) × (k ≡ length (expanded s)) × (k ≤ 4096)
  unfolding expanded verdict_of
  good_runs k e =
      ⊎_elim
      (λ (f : leb (length s) 4096 ≡ true).
      let g : Ok k ≡ judged s (block_at s 0 0) = rw f at e in
      let w = good_known (block_at s 0 0) k g in
      rw (f, ← g) (refl, w.0, w.1))
      (λ (f : leb (length s) 4096 ≡ false). let g : Ok k ≡ Err 4096 = rw f at e in cc)
      (which (leb (length s) 4096))

  pub bad_runs : (p : ℕ) → Err p ≡ verdict_of s → expanded s ≡ []
  unfolding expanded
  bad_runs p e = rw (← e) refl

  pub expanded_few : length (expanded s) ≤ 4096
  expanded_few = few (verdict_of s) refl
    where
      few : (v : Verdict) → v ≡ verdict_of s → length (expanded s) ≤ 4096
      few (Ok k) e = let g = good_runs k e in omega (arith, g.1, g.2)
      few (Err p) e = rw (bad_runs p e) (omega arith)
