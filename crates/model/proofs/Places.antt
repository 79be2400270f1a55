-- Laws of the places of an operation's words, for every D. Assumes nothing.
use Prim.Native.Nat.{ℕ, zero, suc, ◌+◌, ◌*◌, ◌≤◌, ◌<◌}
use native.Mathlib.Omega.{arith}
use mathlib.Core.Bool.{Bool, true, false, ◌&&◌, ◌||◌, not, cond}
use mathlib.Core.Logic.{⊎_elim}
use mathlib.Core.Path.{◌≡◌, sym, ap, ◌∙◌}
use lib.Dec.{ltb}
use borrow.Author.Tests.{ltb-false, eqb-true, ne_eqb}
use Rattle.model.specs.Geometry.{info_count, bank_pages, image_words, image_page_of, page_of, bank_of, page_in_bank, image_page, word_at}
use Rattle.model.specs.Kinds.{is_page_erase, is_bank_erase, is_information}
use Rattle.model.specs.Places.{span_start, span_words, span_address, bank_words, total_words, place_of}
use Rattle.model.specs.Checks.{past_data, span_limit, out_of_range}
use Rattle.model.specs.declared.ImagePage.{ImagePage}
use Rattle.model.specs.declared.BusWord.{BusWord}
use Rattle.model.specs.declared.Operation.{Operation}
use Rattle.model.proofs.Bool.{by_test}
use Rattle.model.proofs.Geometry.{in_bank, data_inside, info_inside, word_at_inside, page_of_word_at, data_unique, info_unique}

-- A read and a program move as many words as they count.
pub moving_words : (d : ℕ) (o : Operation) → o.kind < 2 → total_words d o ≡ o.count
unfolding total_words
moving_words d o h = rw (ne_eqb o.kind 3 (λ e. omega arith), ne_eqb o.kind 2 (λ e. omega arith))

-- A bank erase's places lie in its bank: its data pages, and its information pages too where information is selected.
pub bank_erase_places :
    (d : ℕ) (o : Operation) (k : ℕ) → is_bank_erase o ≡ true → k < total_words d o →
    (bank_of d (page_of o.address) * bank_pages d * 256 ≤ (place_of d o k).0)
    × ((place_of d o k).0 < bank_of d (page_of o.address) * bank_pages d * 256 + bank_words d o)
unfolding total_words place_of
bank_erase_places d o k b h = let l = rw b at h in rw b (omega arith)

-- Another operation's place k lies in the image page of the page that holds the address of word k.
pub place_page :
    (d : ℕ) (o : Operation) (k : ℕ) → is_bank_erase o ≡ false →
    image_page_of (place_of d o k) ≡ image_page d (is_information o) o.info (page_of (span_address o k))
unfolding place_of
place_page d o k b = rw b (page_of_word_at d (is_information o) o.info (span_address o k))

-- A page erase's places lie in the page that holds the address.
pub page_erase_places :
    (d : ℕ) (o : Operation) (k : ℕ) → is_page_erase o ≡ true → k < total_words d o →
    image_page_of (place_of d o k) ≡ image_page d (is_information o) o.info (page_of o.address)
unfolding total_words
page_erase_places d o k p h =
    let kind : o.kind ≡ 2 = eqb-true _ _ p in
    let b : is_bank_erase o ≡ false = ne_eqb o.kind 3 (λ e. omega arith) in
    let l = rw (b, p) at h in
    let same : (page_of (span_address o k)).0 ≡ (page_of o.address).0 = rw p (omega arith) in
    place_page d o k b ∙ ap (λ (n : ℕ). image_page d (is_information o) o.info (record { 0 = n })) same

-- Check 7 is two tests, and a bank erase skips the second.
second_test : (s b t : Bool) → (s || (not b && t)) ≡ false → b ≡ false → t ≡ false
second_test true b t e f = cc
second_test false true t e f = cc
second_test false false t e f = e

-- A span goes up from the page of the address.
span_start_lem : (o : Operation) → (page_of o.address).0 * 1024 ≤ (span_start o).0
span_start_lem o = by_test (is_page_erase o) (λ e. rw e (omega arith)) (λ e. rw e (omega arith))

-- A type has at most 10 pages in a bank, so never more than a bank has data pages.
info_count_most : (t : ℕ) → info_count t ≤ 10
info_count_most zero = omega arith
info_count_most (suc zero) = omega arith
info_count_most (suc (suc zero)) = omega arith
info_count_most (suc (suc (suc t))) = omega arith

pub bank_words_most : (d : ℕ) (o : Operation) → bank_words d o ≤ bank_pages d * 256
bank_words_most d o = by_test (is_information o) (λ i. rw i (omega arith)) (λ i. rw i (omega arith))

-- Of an operation that is in range,
module _ (d : ℕ) (o : Operation) (fit : 10 ≤ d) (ranged : out_of_range d o ≡ false) where
  -- the span ends within its limit,
  pub span_end : is_bank_erase o ≡ false → (span_address o (span_words o)).0 ≤ span_limit d o
  unfolding out_of_range
  span_end b =
      ltb-false _ _
      (second_test (past_data d o.address) (is_bank_erase o) (ltb (span_limit d o) (span_address o (span_words o)).0) ranged b)

  -- its pages are data pages in the data partition,
  pub span_data :
      (k : ℕ) → is_bank_erase o ≡ false → is_information o ≡ false → k < span_words o →
      (page_of (span_address o k)).0 < 2 * d
  span_data k b i h = let l = rw i at (span_end b) in omega arith

  -- and in the information partition pages of its type in the bank of its address;
  pub span_info :
      (k : ℕ) → is_bank_erase o ≡ false → is_information o ≡ true → k < span_words o →
      (bank_of d (page_of (span_address o k)) ≡ bank_of d (page_of o.address))
      × (page_in_bank d (page_of (span_address o k)) < info_count o.info)
  span_info k b i h =
      let l = rw i at (span_end b) in
      let m = info_count_most o.info in
      let s = span_start_lem o in
      let there = in_bank d (page_of (span_address o k)) in
      ⊎_elim
      (λ x. let z = ap (λ (n : ℕ). n * d) x.1 in ⊎_elim (λ y. omega arith) (λ y. omega arith) there)
      (λ x. let z = ap (λ (n : ℕ). n * d) x.1 in ⊎_elim (λ y. omega arith) (λ y. omega arith) there)
      (in_bank d (page_of o.address))

  span_inside :
      (k : ℕ) → is_bank_erase o ≡ false → k < span_words o →
      (image_page d (is_information o) o.info (page_of (span_address o k))).0 < 2 * bank_pages d
  span_inside k b h =
      by_test (is_information o)
      (λ i. rw i (info_inside d o.info (page_of (span_address o k)) (span_info k b i h).1))
      (λ i. rw i (data_inside d o.info (page_of (span_address o k)) (span_data k b i h)))

  -- each place lies in the image,
  pub place_inside : (k : ℕ) → k < total_words d o → (place_of d o k).0 < image_words d
  unfolding total_words place_of
  place_inside k h =
      by_test (is_bank_erase o)
      (λ b.
      let l = bank_erase_places d o k b h in
      let m = bank_words_most d o in
      ⊎_elim (λ x. omega (arith, ap (λ (n : ℕ). n * bank_pages d) x.1))
      (λ x. omega (arith, ap (λ (n : ℕ). n * bank_pages d) x.1))
      (in_bank d (page_of o.address)))
      (λ b. rw b (word_at_inside d (is_information o) o.info (span_address o k) (span_inside k b (rw b at h))))

  span_distinct :
      (j k : ℕ) → is_bank_erase o ≡ false → j < span_words o → k < span_words o →
      word_at d (is_information o) o.info (span_address o j) ≡ word_at d (is_information o) o.info (span_address o k) →
      j ≡ k
  unfolding word_at
  span_distinct j k b h l e =
      let pages = sym (page_of_word_at _ _ _ _) ∙ (ap image_page_of e ∙ page_of_word_at _ _ _ _) in
      let numbers : (page_of (span_address o j)).0 ≡ (page_of (span_address o k)).0 =
      by_test (is_information o)
      (λ i. info_unique d o.info _ _ ((span_info j b i h).0 ∙ sym (span_info k b i l).0) (rw i at pages))
      (λ i. data_unique d o.info o.info _ _ (rw i at pages)) in
      omega (arith, ap (λ (w : BusWord). w.0) e, ap (λ (q : ImagePage). q.0) pages)

  -- and different words have different places.
  pub places_distinct :
      (j k : ℕ) → j < total_words d o → k < total_words d o → place_of d o j ≡ place_of d o k → j ≡ k
  unfolding total_words place_of
  places_distinct j k h l e =
      by_test (is_bank_erase o)
      (λ b. omega (arith, rw b at (ap (λ (w : BusWord). w.0) e)))
      (λ b. span_distinct j k b (rw b at h) (rw b at l) (rw b at e))

-- ---- bounds, for D up to 256

limit_le : (i b : Bool) (d t : ℕ) → d ≤ 256 → cond i (cond b 0 1 * d + info_count t) (2 * d) * 1024 ≤ 524288
limit_le true true d t h = omega (arith, info_count_most t)
limit_le true false d t h = omega (arith, info_count_most t)
limit_le false b d t h = omega arith

-- The end of an operation in range fits 32 bits,
pub span_fits : (d : ℕ) (o : Operation) → 10 ≤ d → d ≤ 256 → out_of_range d o ≡ false → is_bank_erase o ≡ false
    → (span_address o (span_words o)).0 ≤ 524288
span_fits d o g h r b =
    let end : (span_address o (span_words o)).0 ≤ span_limit d o = span_end d o g r b in
    let limit : span_limit d o ≤ 524288 = limit_le (is_information o) (ltb (page_of o.address).0 d) d o.info h in
    omega arith

-- and so does the address of each of its words.
pub span_address_fits :
    (d : ℕ) (o : Operation) (k : ℕ) → 10 ≤ d → d ≤ 256 → out_of_range d o ≡ false → is_bank_erase o ≡ false →
    k < total_words d o → (span_address o k).0 < 524288
unfolding total_words
span_address_fits d o k g h r b l =
    let end = span_fits d o g h r b in
    let below : k < span_words o = rw b at l in
    omega arith

-- A bank erase moves the words of at most 269 pages.
pub bank_words_le : (d : ℕ) (o : Operation) → d ≤ 256 → is_bank_erase o ≡ true → total_words d o ≤ 68864
unfolding total_words
bank_words_le d o h b = rw b (omega (arith, bank_words_most d o))
