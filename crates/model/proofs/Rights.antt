-- The look-up of rights and the span check, one turn of a loop at a time, and what the check says of each page, passed or not.
-- Assumes nothing.
use Prim.Native.Nat.{ℕ, zero, suc, ◌+◌, ◌-◌, ◌*◌, ◌/◌, ◌%◌, ◌≤◌, ◌<◌, min}
use native.Mathlib.Nat.{add-zero, add_assoc, sub-zero, min-zero, min-eq_left, min-eq_right, min-le_left, min-le_right, le_antisymm}
use native.Mathlib.Numerals.{add-one}
use native.Mathlib.Omega.{arith}
use mathlib.Core.Path.{◌≡◌, refl, sym, ◌∙◌}
use mathlib.Core.Bool.{Bool, true, false, cond}
use mathlib.Core.List.{List}
use lib.ListN.{length, get_or, drop, drop_of_length-le}
use lib.Seq.{drop-cons}
use lib.Dec.{ltb}
use borrow.Author.Tests.{ltb-true, ltb-false, not-false}
use Rattle.model.specs.Geometry.{page_of, bank_of, word_in_page, info_index, isolated_page}
use Rattle.model.specs.Kinds.{is_bank_erase}
use Rattle.model.specs.Places.{span_start, span_words, span_address}
use Rattle.model.specs.Rights.{decides, data_ruling, page_rights, seed_closed, info_ruling, leading, span_pages, page_grants, allowed_words, denied, first_denied}
use Rattle.model.specs.State.{page_off}
use Rattle.model.specs.declared.ByteAddress.{ByteAddress}
use Rattle.model.specs.declared.Operation.{Operation}
use Rattle.model.specs.declared.Inputs.{Inputs}
use Rattle.model.specs.declared.Settings.{Settings}
use Rattle.model.specs.declared.Setup.{Setup}
use Rattle.model.specs.declared.Page.{Page}
use Rattle.model.specs.declared.Region.{Region}
use Rattle.model.specs.declared.Decider.TheVariants as by
use Rattle.model.proofs.Bool.{by_test}

-- ---- the regions, lowest first

-- No region below i decides: the look-up from region i on is the whole one.
pub record Undecided (l : List Region) (other : ℕ) (p : Page) (i : ℕ) : Type 0 where
  pub same : data_ruling i (drop i l) other p ≡ data_ruling 0 l other p

pub undecided_none : {l : List Region} {other : ℕ} {p : Page} → Undecided l other p 0
undecided_none = record { same = refl }

pub undecided_more : {l : List Region} {other : ℕ} {p : Page} {i : ℕ} (g : Region) → i < length l → Undecided l other p i
    → decides p (get_or l i g) ≡ false → Undecided l other p (i + 1)
unfolding data_ruling
undecided_more {l = l} {i = i} g h u e = record { same = rw add-one (simp (e, add-one) at (rw (drop-cons l i g h) at u.same)) }

-- Region i decides, alone.
pub decided : {l : List Region} {other : ℕ} {p : Page} {i : ℕ} (g : Region) → i < length l → Undecided l other p i
    → decides p (get_or l i g) ≡ true → record { rights = (get_or l i g).rights; decider = by.Region i } ≡ data_ruling 0 l other p
unfolding data_ruling
decided {l = l} {i = i} g h u e = simp e at (rw (drop-cons l i g h) at u.same)

-- No region decides.
pub undecided_all : {l : List Region} {other : ℕ} {p : Page} {i : ℕ} → length l ≤ i → Undecided l other p i
    → record { rights = other; decider = by.Default } ≡ data_ruling 0 l other p
unfolding data_ruling
undecided_all {l = l} h u = rw (drop_of_length-le l h) at u.same

-- ---- the pages that pass a test before the first that fails

-- The page i pages after page `from`.
abbrev pub after : ℕ → ℕ → Page
after from i = record { 0 = from + i }

-- The first i of n pages pass.
pub record Passed (test : Page → Bool) (from n i : ℕ) : Type 0 where
  pub so_far : leading test (record { 0 = from }) n ≡ i + leading test (after from i) (n - i)

pub passed_none : {test : Page → Bool} {from n : ℕ} → Passed test from n 0
passed_none {test} {from} {n} = record { so_far = rw (add-zero, sub-zero) (omega arith) }

next : (test : Page → Bool) (p : Page) (n m : ℕ) → n ≡ suc m → leading test p n ≡ cond (test p) (suc (leading test (after p.0 1) m)) 0
unfolding leading
next test p n m e = rw e

pub passed_more : {test : Page → Bool} {from n i : ℕ} → i < n → Passed test from n i → test (after from i) ≡ true → Passed test from n (i + 1)
passed_more {test} {from} {n} {i} h t e =
    let step : leading test (after from i) (n - i) ≡ suc (leading test (after (from + i) 1) (n - (i + 1))) =
    next test (after from i) (n - i) (n - (i + 1)) (omega arith) ∙ rw e in
    record { so_far = rw (← add_assoc from i 1) (omega (arith, t.so_far, step)) }

-- Page i is the first that fails, or all have passed.
pub passed_until : {test : Page → Bool} {from n i : ℕ} → i < n → Passed test from n i → test (after from i) ≡ false
    → i ≡ leading test (record { 0 = from }) n
passed_until {test} {from} {n} {i} h t e =
    let step : leading test (after from i) (n - i) ≡ 0 = next test (after from i) (n - i) (n - (i + 1)) (omega arith) ∙ rw e in
    omega (arith, t.so_far, step)

ended : (test : Page → Bool) (p : Page) (n : ℕ) → n ≡ 0 → leading test p n ≡ 0
unfolding leading
ended test p n e = rw e

pub passed_all : {test : Page → Bool} {from n i : ℕ} → i ≡ n → Passed test from n i → i ≡ leading test (record { 0 = from }) n
passed_all {test} {from} {n} {i} h t =
    let rest : leading test (after from i) (n - i) ≡ 0 = ended test (after from i) (n - i) (omega arith) in
    omega (arith, t.so_far, rest)

-- Of the pages that pass before the first that fails, each passes.
pub leading_passed : (test : Page → Bool) (from n i : ℕ) → i < leading test (record { 0 = from }) n → test (after from i) ≡ true
unfolding leading
leading_passed test from zero i h = absurd (omega arith)
leading_passed test from (suc n) zero h =
    by_test (test (record { 0 = from })) (λ t. rw add-zero t) (λ t. absurd (omega (arith, rw t at h)))
leading_passed test from (suc n) (suc i) h =
    let e : from + suc i ≡ from + 1 + i = omega arith in
    by_test (test (record { 0 = from }))
    (λ t. rw e (leading_passed test (from + 1) n i (omega (arith, rw t at h))))
    (λ t. absurd (omega (arith, rw t at h)))

-- The first page after the ones that pass, if it is among the n, fails.
pub leading_failed : (test : Page → Bool) (from n : ℕ) → leading test (record { 0 = from }) n < n
    → test (after from (leading test (record { 0 = from }) n)) ≡ false
unfolding leading
leading_failed test from zero h = absurd (omega arith)
leading_failed test from (suc n) h =
    by_test (test (record { 0 = from }))
    (λ t.
    let rest : ℕ = leading test (after from 1) n in
    let fewer : rest < n = omega (arith, rw t at h) in
    let e : from + suc rest ≡ from + 1 + rest = omega arith in
    rw (t, e) (leading_failed test (from + 1) n fewer))
    (λ t. rw (t, add-zero) t)

-- ---- the words before the first page without the right

-- The span check from its parts, each known by an equation.
pub allowed_by : (s : Setup) (o : Operation) {a : ByteAddress} {p : Page} {w l k : ℕ} → a ≡ span_start o → w ≡ span_words o
    → p ≡ page_of a → l ≡ leading (page_grants s o) p ((a.0 % 1024 + 4 * w + 1023) / 1024) → k ≡ word_in_page a
    → min w (l * 256 - k) ≡ allowed_words s o
unfolding allowed_words
allowed_by s o ea ew ep el ek = rw (ek, el, ep, ew, ea)

-- The least of w and a - k, by the tests that find it.
pub none_before : (w a k : ℕ) → a ≤ k → 0 ≡ min w (a - k)
none_before w a k h =
    let e : a - k ≡ 0 = omega arith in
    rw e (sym (min-zero w))

pub some_before : (w a k : ℕ) → a - k < w → a - k ≡ min w (a - k)
some_before w a k h = sym (min-eq_right (omega arith))

pub all_before : (w a k : ℕ) → w ≤ a - k → w ≡ min w (a - k)
all_before w a k h = sym (min-eq_left h)

-- Each word before the first page without the right lies on a page with it.
pub before_granted : (s : Setup) (o : Operation) (k : ℕ) → k < allowed_words s o → page_grants s o (page_of (span_address o k)) ≡ true
unfolding allowed_words
before_granted s o k l =
    let from : ℕ = (span_start o).0 in
    let passed : ℕ = leading (page_grants s o) (record { 0 = from / 1024 }) (span_pages o) in
    let most : min (span_words o) (passed * 256 - from % 1024 / 4) ≤ passed * 256 - from % 1024 / 4 = min-le_right _ _ in
    let i : ℕ = (from % 1024 + 4 * k) / 1024 in
    let e : (from + 4 * k) / 1024 ≡ from / 1024 + i = omega arith in
    rw e (leading_passed (page_grants s o) (from / 1024) (span_pages o) i (omega arith))

-- The least of w and a that is below w is a.
least_below : (w a : ℕ) → min w a < w → min w a ≡ a
least_below w a h =
    by_test (ltb a w)
    (λ t. let l : a < w = ltb-true _ _ t in min-eq_right (omega arith))
    (λ t. let same : min w a ≡ w = min-eq_left (ltb-false _ _ t) in absurd (omega arith))

-- The word after these, if it is one of the span's, lies on a page without the right.
pub first_denied_lem : (s : Setup) (o : Operation) → allowed_words s o < span_words o → page_grants s o (first_denied s o) ≡ false
unfolding allowed_words
first_denied_lem s o l =
    let from : ℕ = (span_start o).0 in
    let passed : ℕ = leading (page_grants s o) (record { 0 = from / 1024 }) (span_pages o) in
    let least : allowed_words s o ≡ passed * 256 - from % 1024 / 4 = least_below _ _ l in
    let e : (from + 4 * allowed_words s o) / 1024 ≡ from / 1024 + passed = omega arith in
    rw e (leading_failed (page_grants s o) (from / 1024) (span_pages o) (omega arith))

-- The words before the first denied page are the allowed ones, and no others.
pub before_denied : (s : Setup) (o : Operation) (k : ℕ) → allowed_words s o < span_words o
    → (k < allowed_words s o → (page_of (span_address o k)).0 < (first_denied s o).0)
    × ((page_of (span_address o k)).0 < (first_denied s o).0 → k < allowed_words s o)
unfolding allowed_words
before_denied s o k l =
    let from : ℕ = (span_start o).0 in
    let passed : ℕ = leading (page_grants s o) (record { 0 = from / 1024 }) (span_pages o) in
    let least : allowed_words s o ≡ passed * 256 - from % 1024 / 4 = least_below _ _ l in
    (λ before. omega arith, λ before. omega arith)

-- ---- what check 9 says

-- There are no more of them than the span has words,
pub allowed_le : (s : Setup) (o : Operation) → allowed_words s o ≤ span_words o
unfolding allowed_words
allowed_le s o = min-le_left _ _

-- and all are allowed of a span that is not denied.
pub allowed_all : (s : Setup) (o : Operation) → is_bank_erase o ≡ false → denied s o ≡ false → allowed_words s o ≡ span_words o
unfolding denied
allowed_all s o b h = le_antisymm (allowed_le s o) (ltb-false _ _ (rw b at h))

-- Each page with a word of a span that is not denied grants the right.
pub span_granted : (s : Setup) (o : Operation) (k : ℕ) → is_bank_erase o ≡ false → denied s o ≡ false → k < span_words o
    → page_grants s o (page_of (span_address o k)) ≡ true
unfolding denied
span_granted s o k b h l =
    let fits : span_words o ≤ allowed_words s o = ltb-false _ _ (rw b at h) in
    before_granted s o k (omega arith)

-- A bank erase that is not denied has its bank's permission.
pub bank_granted : (s : Setup) (o : Operation) → is_bank_erase o ≡ true → denied s o ≡ false
    → get_or s.settings.erase (bank_of s.pages (page_of o.address)) false ≡ true
unfolding denied
bank_granted s o b h = not-false _ (rw b at h)

-- ---- information pages

-- The isolated page is no seed page: its own switch and rights decide, whatever the inputs are.
pub isolated_ordinary : (i : Inputs) (s : Settings) → info_ruling i s (info_index 0 0 isolated_page)
    ≡ record { rights = page_rights (get_or s.info (info_index 0 0 isolated_page) page_off); decider = by.PageSetting }
unfolding info_ruling seed_closed
isolated_ordinary i s = refl
