-- Laws of pages, bus words and byte addresses, for every D. Assumes nothing.
use Prim.Native.Nat.{ℕ, zero, suc, ◌+◌, ◌-◌, ◌*◌, ◌/◌, ◌%◌, ◌≤◌, ◌<◌}
use native.Mathlib.Nat.{not-suc-le-zero, eq-or-lt_of_le, mul-add-div_right, div-eq_of_lt, mul-add-mod_self_right, mod-eq_of_lt, div-lt_iff_lt-mul, div-add-mod', mod-lt}
use native.Mathlib.Omega.{arith}
use mathlib.Core.Bool.{Bool, true, false}
use mathlib.Core.Logic.{◌⊎◌, inl, inr, ⊎_elim}
use mathlib.Core.Path.{◌≡◌, sym, ap, ◌∙◌}
use lib.Dec.{ltb}
use borrow.Author.Tests.{ltb-true, ltb-false, lt-ltb, le-ltb}
use Rattle.model.specs.Geometry.{info_count, info_first, bank_pages, image_words, first_word, image_page_of, byte_address, page_of, page_start, bank_of, page_in_bank, word_in_page, image_page, word_at, area_count, area_image_page}
use Rattle.model.specs.declared.Page.{Page}
use Rattle.model.specs.declared.ImagePage.{ImagePage}
use Rattle.model.specs.declared.BusWord.{BusWord}
use Rattle.model.specs.declared.ByteAddress.{ByteAddress}
use Rattle.model.proofs.Bool.{by_test}

-- A page's first address lies in that page,
pub page_of_start : (p : Page) → page_of (page_start p) ≡ p
page_of_start p = ap (λ (n : ℕ). record { 0 = n }) (omega arith)

-- and an address at the start of a page is that page's first.
pub start_of_page : (a : ByteAddress) → a.0 % 1024 ≡ 0 → page_start (page_of a) ≡ a
start_of_page a h = ap (λ (n : ℕ). record { 0 = n }) (omega arith)

-- Each of the 256 bus words of an image page lies in that page, its first among them,
pub page_of_word : (q : ImagePage) (i : ℕ) → i < 256 → image_page_of (record { 0 = (first_word q).0 + i }) ≡ q
page_of_word q i h = ap (λ (n : ℕ). record { 0 = n }) (omega arith)

pub page_of_first : (q : ImagePage) → image_page_of (first_word q) ≡ q
page_of_first q = ap (λ (n : ℕ). record { 0 = n }) (omega arith)

-- and a bus word at the start of an image page is that page's first.
pub first_of_page : (w : BusWord) → w.0 % 256 ≡ 0 → first_word (image_page_of w) ≡ w
first_of_page w h = ap (λ (n : ℕ). record { 0 = n }) (omega arith)

-- The two sides of a test.
pub lt_or_le : (m n : ℕ) → (m < n) ⊎ (n ≤ m)
lt_or_le m n = by_test (ltb m n) (λ e. inl (ltb-true m n e)) (λ e. inr (ltb-false m n e))

-- A page lies in bank 0, or in bank 1 and counts from its start.
pub in_bank :
    (d : ℕ) (p : Page) →
    ((p.0 < d) × (bank_of d p ≡ 0) × (page_in_bank d p ≡ p.0))
    ⊎ ((d ≤ p.0) × (bank_of d p ≡ 1) × (page_in_bank d p ≡ p.0 - d))
in_bank d p =
    ⊎_elim (λ h. inl (h, rw (lt-ltb _ _ h), rw (lt-ltb _ _ h))) (λ h. inr (h, rw (le-ltb _ _ h), rw (le-ltb _ _ h)))
    (lt_or_le p.0 d)

-- A byte address gives back the bank, the page and the bus word that it was made of.
pub byte_address_lem :
    (d bank page offset : ℕ) → bank < 2 → page < d → offset < 1024 →
    ((page_of (byte_address d bank page offset)).0 ≡ bank * d + page)
    × (bank_of d (page_of (byte_address d bank page offset)) ≡ bank)
    × (page_in_bank d (page_of (byte_address d bank page offset)) ≡ page)
    × (word_in_page (byte_address d bank page offset) ≡ offset / 4)
byte_address_lem d zero page offset b h o =
    ⊎_elim (λ i. omega arith) (λ i. omega arith) (in_bank d (page_of (byte_address d zero page offset)))
byte_address_lem d (suc zero) page offset b h o =
    ⊎_elim (λ i. omega arith) (λ i. omega arith) (in_bank d (page_of (byte_address d (suc zero) page offset)))
byte_address_lem d (suc (suc n)) page offset b h o = omega arith

-- The pages of a type start where the type before it ends, and the third ends at 13.
pub info_first_next : (t : ℕ) → info_first (suc t) ≡ info_first t + info_count t
info_first_next zero = omega arith
info_first_next (suc zero) = omega arith
info_first_next (suc (suc zero)) = omega arith
info_first_next (suc (suc (suc t))) = omega arith

pub info_first_end : info_first 3 ≡ 13
info_first_end = omega arith

-- Where an area's pages start among the pages of its bank.
abbrev pub area_first : ℕ → ℕ → ℕ
area_first d zero = 0
area_first d (suc t) = d + info_first t

-- An area starts where the area before it ends, so after the ends of all before it,
area_next : (d a : ℕ) → area_first d (suc a) ≡ area_first d a + area_count d a
area_next d zero = omega arith
area_next d (suc t) = omega (arith, info_first_next t)

area_before : (d a b : ℕ) → a < b → area_first d a + area_count d a ≤ area_first d b
area_before d a zero h = omega arith
area_before d a (suc b) h =
    ⊎_elim (λ e. rw e (omega (arith, area_next d b))) (λ l. omega (arith, area_next d b, area_before d a b l))
    (eq-or-lt_of_le {n = a} {m = b} (omega arith))

-- and each page of an area is among the pages of its bank.
pub area_end : (d a page : ℕ) → page < area_count d a → area_first d a + page < bank_pages d
area_end d zero page h = omega arith
area_end d (suc zero) page h = omega arith
area_end d (suc (suc zero)) page h = omega arith
area_end d (suc (suc (suc zero))) page h = omega arith
area_end d (suc (suc (suc (suc a)))) page h = omega arith

-- The page of the image that bank, area and page name.
area_image_page_lem :
    (d bank a page : ℕ) → (area_image_page d bank a page).0 ≡ bank * bank_pages d + (area_first d a + page)
area_image_page_lem d bank zero page = omega arith
area_image_page_lem d bank (suc t) page = omega arith

-- Quotient and remainder of a number made of both,
pub quotient : (n a x : ℕ) → x < n → (a * n + x) / n ≡ a
quotient n a x h = omega (arith, mul-add-div_right {m = n} (omega arith) a x, div-eq_of_lt h)

pub remainder : (n a x : ℕ) → x < n → (a * n + x) % n ≡ x
remainder n a x h = mul-add-mod_self_right a n x ∙ mod-eq_of_lt h

-- so they are found again.
parts : {n a b x y : ℕ} → x < n → y < n → a * n + x ≡ b * n + y → (a ≡ b) × (x ≡ y)
parts {n} {a} {b} {x} {y} h k e = (
  sym (quotient n a x h) ∙ (ap (λ (m : ℕ). m / n) e ∙ quotient n b y k),
  sym (remainder n a x h) ∙ (ap (λ (m : ℕ). m % n) e ∙ remainder n b y k),
)

-- A page exists: there are two banks, and the area has so many pages.
abbrev pub Exists : ℕ → ℕ → ℕ → ℕ → Type 0
Exists d bank area page = (bank < 2) × (page < area_count d area)

-- Two names of one page of a bank are the same.
same_page :
    (d a b : ℕ) {p q : ℕ} → p < area_count d a → q < area_count d b → area_first d a + p ≡ area_first d b + q →
    (a ≡ b) × (p ≡ q)
same_page d a b h k e =
    let after : ¬ (a < b) = λ l. omega (arith, area_before d a b l) in
    let before : ¬ (b < a) = λ l. omega (arith, area_before d b a l) in
    let same : a ≡ b = omega arith in
    (same, omega (arith, ap (area_first d) same))

-- Distinct pages have disjoint places: of two pages that have a bus word in common, bank, area, page and word are the same.
pub disjoint :
    (d : ℕ) {bank bank' area area' page page' i i' : ℕ} →
    Exists d bank area page → Exists d bank' area' page' → i < 256 → i' < 256 →
    (first_word (area_image_page d bank area page)).0 + i ≡ (first_word (area_image_page d bank' area' page')).0 + i' →
    (bank ≡ bank') × (area ≡ area') × (page ≡ page') × (i ≡ i')
disjoint d {bank} {bank'} {area} {area'} {page} {page'} x x' h h' e =
    let words = parts {n = 256} h h' e in
    let joined = sym (area_image_page_lem d bank area page) ∙ (words.0 ∙ area_image_page_lem d bank' area' page') in
    let pages = parts (area_end d area page x.1) (area_end d area' page' x'.1) joined in
    let same = same_page d area area' x.1 x'.1 pages.1 in
    (pages.0, same.0, same.1, words.1)

-- Each existing page lies in the image, with its words.
pub page_inside : (d bank area page : ℕ) → Exists d bank area page → (area_image_page d bank area page).0 < 2 * bank_pages d
page_inside d zero area page x = omega (arith, area_image_page_lem d zero area page, area_end d area page x.1)
page_inside d (suc zero) area page x = omega (arith, area_image_page_lem d (suc zero) area page, area_end d area page x.1)
page_inside d (suc (suc n)) area page x = omega arith

pub word_inside :
    (d bank area page i : ℕ) → Exists d bank area page → i < 256 →
    (first_word (area_image_page d bank area page)).0 + i < image_words d
word_inside d bank area page i x h = omega (arith, page_inside d bank area page x)

-- A place of the image, as a bus word of an existing page.
pub record Held (d place : ℕ) : Type 0 where
  pub bank : ℕ
  pub area : ℕ
  pub page : ℕ
  pub word : ℕ
  pub exists : Exists d bank area page
  pub inside : word < 256
  pub here : place ≡ (first_word (area_image_page d bank area page)).0 + word

-- The pages of the first areas of a bank leave no gap.
area_of :
    (d n x : ℕ) → x < area_first d n →
    (a : ℕ) × (page : ℕ) × (page < area_count d a) × (x ≡ area_first d a + page)
area_of d zero x h = absurd (not-suc-le-zero h)
area_of d (suc n) x h =
    ⊎_elim (λ l. area_of d n x l) (λ l. (n, x - area_first d n, omega (arith, area_next d n), omega arith))
    (lt_or_le x (area_first d n))

-- Together the pages are the whole image.
pub whole_image : (d place : ℕ) → place < image_words d → Held d place
whole_image d place h =
    let q : ℕ = place / 256 in
    let n : ℕ = bank_pages d in
    let found = area_of d 4 (q % n) (mod-lt q {m = n} (omega arith)) in
    record {
      bank = q / n;
      area = found.0;
      page = found.1;
      word = place % 256;
      exists = ((div-lt_iff_lt-mul {k = n} {x = q} {y = 2} (omega arith)).1 (omega arith), found.2);
      inside = omega arith;
      here = omega (arith, area_image_page_lem d (q / n) found.0 found.1, div-add-mod' q n);
    }

-- A page number below 2D means a data page of the image,
pub data_inside : (d t : ℕ) (p : Page) → p.0 < 2 * d → (image_page d false t p).0 < 2 * bank_pages d
unfolding image_page
data_inside d t p h =
    page_inside d (bank_of d p) zero (page_in_bank d p)
    (⊎_elim (λ i. omega arith) (λ i. omega arith) (in_bank d p))

-- and one that is a page of its type in its bank means an information page of the image.
pub info_inside :
    (d t : ℕ) (p : Page) → page_in_bank d p < info_count t → (image_page d true t p).0 < 2 * bank_pages d
unfolding image_page
info_inside d t p h =
    page_inside d (bank_of d p) (suc t) (page_in_bank d p)
    (⊎_elim (λ i. omega arith) (λ i. omega arith) (in_bank d p), h)

-- The bus word that an address means lies in the image page of the address's page, so in the image where that page does.
pub page_of_word_at :
    (d : ℕ) (information : Bool) (t : ℕ) (a : ByteAddress) →
    image_page_of (word_at d information t a) ≡ image_page d information t (page_of a)
unfolding word_at
page_of_word_at d information t a = page_of_word (image_page d information t (page_of a)) (word_in_page a) (omega arith)

pub word_at_inside :
    (d : ℕ) (information : Bool) (t : ℕ) (a : ByteAddress) →
    (image_page d information t (page_of a)).0 < 2 * bank_pages d → (word_at d information t a).0 < image_words d
unfolding word_at
word_at_inside d information t a h = omega arith

-- Data pages keep their numbers in bank 0, and come 13 later in bank 1,
data_place :
    (d t : ℕ) (p : Page) →
    ((p.0 < d) × ((image_page d false t p).0 ≡ p.0)) ⊎ ((d ≤ p.0) × ((image_page d false t p).0 ≡ p.0 + 13))
unfolding image_page
data_place d t p =
    ⊎_elim (λ i. inl (i.0, rw (i.1, i.2) (omega arith))) (λ i. inr (i.0, rw (i.1, i.2) (omega arith)))
    (in_bank d p)

-- so different ones lie in different pages of the image.
pub data_unique :
    (d t u : ℕ) (p q : Page) → image_page d false t p ≡ image_page d false u q → p.0 ≡ q.0
data_unique d t u p q e =
    let same : (image_page d false t p).0 ≡ (image_page d false u q).0 = ap (λ (r : ImagePage). r.0) e in
    ⊎_elim
    (λ x. ⊎_elim (λ y. omega arith) (λ y. omega arith) (data_place d u q))
    (λ x. ⊎_elim (λ y. omega arith) (λ y. omega arith) (data_place d u q))
    (data_place d t p)

-- Of one type and bank, different information pages do too.
pub info_unique :
    (d t : ℕ) (p q : Page) → bank_of d p ≡ bank_of d q → image_page d true t p ≡ image_page d true t q → p.0 ≡ q.0
unfolding image_page
info_unique d t p q b e =
    let same : page_in_bank d p ≡ page_in_bank d q =
    omega (arith, ap (λ (r : ImagePage). r.0) e, ap (λ (n : ℕ). n * bank_pages d) b) in
    ⊎_elim
    (λ x. ⊎_elim (λ y. omega arith) (λ y. omega arith) (in_bank d q))
    (λ x. ⊎_elim (λ y. omega arith) (λ y. omega arith) (in_bank d q))
    (in_bank d p)

-- A bank's number times n is at most n: there is no bank 2.
pub bank_times : (bank n : ℕ) → bank ≤ 1 → bank * n ≤ n
bank_times zero n h = omega arith
bank_times (suc zero) n h = omega arith
bank_times (suc (suc b)) n h = omega arith
