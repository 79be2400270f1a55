-- The look-up by page of the image says what the look-up by page number says, and an operation that is not denied has its right
-- on the page of each of its places. Assumes nothing.
use Prim.Native.Nat.{ℕ, suc, ◌+◌, ◌-◌, ◌*◌, ◌/◌, ◌≤◌, ◌<◌}
use native.Mathlib.Omega.{arith}
use mathlib.Core.Path.{◌≡◌, ap}
use mathlib.Core.Bool.{true, false}
use mathlib.Core.Logic.{⊎_elim}
use lib.ListN.{get_or}
use borrow.Author.Tests.{lt-ltb, le-ltb}
use Rattle.model.specs.Geometry.{info_count, info_first, bank_pages, image_page_of, page_of, bank_of, page_in_bank, image_page, info_index, bank_of_page, number_in_bank, is_data, data_page_of, info_index_of}
use Rattle.model.specs.Kinds.{is_bank_erase, is_information, right_needed}
use Rattle.model.specs.Places.{span_words, span_address, total_words, place_of}
use Rattle.model.specs.Rights.{grants, denied, ruling_at, ruling_of_page}
use Rattle.model.specs.Checks.{out_of_range}
use Rattle.model.specs.declared.Page.{Page}
use Rattle.model.specs.declared.Operation.{Operation}
use Rattle.model.specs.declared.Setup.{Setup}
use Rattle.model.proofs.Bool.{by_test}
use Rattle.model.proofs.Geometry.{in_bank, area_end, quotient, remainder}
use Rattle.model.proofs.Places.{bank_erase_places, bank_words_most, place_page, span_data, span_info}
use Rattle.model.proofs.Rights.{span_granted, bank_granted}

-- ---- the page of the image that a page number means, taken apart again

-- Page x of a bank: its bank, and its number in the bank.
in_bank_page : (d bank x : ℕ) → x < bank_pages d
    → (bank_of_page d (record { 0 = bank * bank_pages d + x }) ≡ bank) × (number_in_bank d (record { 0 = bank * bank_pages d + x }) ≡ x)
in_bank_page d bank x h = (quotient (bank_pages d) bank x h, remainder (bank_pages d) bank x h)

-- A data page has its number,
pub data_page : (d t : ℕ) (p : Page) → p.0 < 2 * d
    → (is_data d (image_page d false t p) ≡ true) × (data_page_of d (image_page d false t p) ≡ p)
unfolding image_page
data_page d t p h =
    let bank : ℕ = bank_of d p in
    let x : ℕ = page_in_bank d p in
    let small : x < d = ⊎_elim (λ i. omega arith) (λ i. omega arith) (in_bank d p) in
    let at = in_bank_page d bank x (omega arith) in
    let e : bank * d + x ≡ p.0 =
    ⊎_elim (λ i. rw (i.1, i.2) (omega arith)) (λ i. rw (i.1, i.2) (omega arith)) (in_bank d p) in
    (rw at.1 (lt-ltb x d small), rw (at.0, at.1) (ap (λ (n : ℕ). record { 0 = n }) e))

-- and an information page its index.
pub info_page : (d t : ℕ) (p : Page) → page_in_bank d p < info_count t
    → (is_data d (image_page d true t p) ≡ false) × (info_index_of d (image_page d true t p) ≡ info_index (bank_of d p) t (page_in_bank d p))
unfolding image_page
info_page d t p h =
    let bank : ℕ = bank_of d p in
    let y : ℕ = info_first t + page_in_bank d p in
    let e : bank * bank_pages d + d + y ≡ bank * bank_pages d + (d + y) = omega arith in
    let at = in_bank_page d bank (d + y) (omega (arith, area_end d (suc t) (page_in_bank d p) h)) in
    let back : d + y - d ≡ y = omega arith in
    (rw (e, at.1) (le-ltb (d + y) d (omega arith)), rw (e, at.0, at.1, back))

-- ---- so both look-ups agree

data_ruling : (s : Setup) (t : ℕ) (p : Page) → p.0 < 2 * s.pages
    → ruling_of_page s (image_page s.pages false t p) ≡ ruling_at s false t p
unfolding ruling_at ruling_of_page
data_ruling s t p h = let q = data_page s.pages t p h in rw (q.0, q.1)

info_ruling : (s : Setup) (t : ℕ) (p : Page) → page_in_bank s.pages p < info_count t
    → ruling_of_page s (image_page s.pages true t p) ≡ ruling_at s true t p
unfolding ruling_at ruling_of_page
info_ruling s t p h = let q = info_page s.pages t p h in simp (q.0, q.1)

-- ---- the places of an operation that is not denied

-- The pages of a bank erase's places lie in its bank.
bank_of_place : (d : ℕ) (o : Operation) (k : ℕ) → is_bank_erase o ≡ true → k < total_words d o
    → bank_of_page d (image_page_of (place_of d o k)) ≡ bank_of d (page_of o.address)
bank_of_place d o k b h =
    let bank : ℕ = bank_of d (page_of o.address) in
    let place : ℕ = (place_of d o k).0 in
    let inside = bank_erase_places d o k b h in
    let most = bank_words_most d o in
    let x : ℕ = place / 256 - bank * bank_pages d in
    let e : place / 256 ≡ bank * bank_pages d + x = omega arith in
    rw e (quotient (bank_pages d) bank x (omega arith))

module _ (s : Setup) (o : Operation) (k : ℕ) (passed : denied s o ≡ false) where
  -- The image page of each place of a span grants the right,
  pub place_granted : is_bank_erase o ≡ false → 10 ≤ s.pages → out_of_range s.pages o ≡ false → k < total_words s.pages o
      → grants (ruling_of_page s (image_page_of (place_of s.pages o k))).rights (right_needed o) ≡ true
  unfolding total_words
  place_granted b fit ranged h =
      let l : k < span_words o = rw b at h in
      let p : Page = page_of (span_address o k) in
      let same : ruling_of_page s (image_page s.pages (is_information o) o.info p) ≡ ruling_at s (is_information o) o.info p =
      by_test (is_information o)
      (λ i. rw i (info_ruling s o.info p (span_info s.pages o fit ranged k b i l).1))
      (λ i. rw i (data_ruling s o.info p (span_data s.pages o fit ranged k b i l))) in
      rw (place_page s.pages o k b, same) (span_granted s o k b passed l)

  -- and the bank of each place of a bank erase its permission.
  pub place_permitted : is_bank_erase o ≡ true → k < total_words s.pages o
      → get_or s.settings.erase (bank_of_page s.pages (image_page_of (place_of s.pages o k))) false ≡ true
  place_permitted b h = rw (bank_of_place s.pages o k b h) (bank_granted s o b passed)
