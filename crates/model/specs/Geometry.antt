-- Pages, bus words and byte addresses, for every number D of data pages in a bank. (01, 'The shelf: pages and words')
use Rattle.std.specs.Prelude.{ℕ, zero, suc, ◌+◌, ◌-◌, ◌*◌, ◌/◌, ◌%◌, Bool, ◌&&◌, cond, ltb, leb}
use Rattle.model.specs.declared.Page.{Page}
use Rattle.model.specs.declared.ImagePage.{ImagePage}
use Rattle.model.specs.declared.BusWord.{BusWord}
use Rattle.model.specs.declared.ByteAddress.{ByteAddress}

-- There are 2 banks (000). D is 10 to 256.
abbrev pub pages_fit : ℕ → Bool
pages_fit d = leb 10 d && leb d 256

-- The data pages of both banks count 0 to 2D - 1.
abbrev pub data_pages : ℕ → ℕ
data_pages d = 2 * d

-- Each bank has 10 information pages of type 0, 1 of type 1 and 2 of type 2 (000).
abbrev pub info_count : ℕ → ℕ
info_count zero = 10
info_count (suc zero) = 1
info_count (suc (suc zero)) = 2
info_count (suc (suc (suc t))) = 0

-- Where the pages of a type start among the 13 information pages of their bank: type 0, then 1, then 2.
abbrev pub info_first : ℕ → ℕ
info_first zero = 0
info_first (suc zero) = 10
info_first (suc (suc zero)) = 11
info_first (suc (suc (suc t))) = 13

-- A bank has D data pages and 13 information pages.
abbrev pub bank_pages : ℕ → ℕ
bank_pages d = d + 13

-- A page is 1,024 bytes, or 256 bus words of 32 bits (002: 128 flash words of 64 bits).
abbrev pub page_bytes : ℕ
page_bytes = 1024

abbrev pub page_words : ℕ
page_words = 256

-- The image is exactly 2 x (D + 13) x 256 bus words (house).
abbrev pub image_words : ℕ → ℕ
image_words d = 2 * bank_pages d * page_words

-- The image holds the data pages of bank 0, its pages of type 0, 1 and 2, then bank 1 alike (house):
-- a data page, by its bank and its number in the bank,
abbrev pub data_image_page : ℕ → ℕ → ℕ → ImagePage
data_image_page d bank page = record { 0 = bank * bank_pages d + page }

-- and an information page, by its bank, its type and its number in the type.
abbrev pub info_image_page : ℕ → ℕ → ℕ → ℕ → ImagePage
info_image_page d bank t page = record { 0 = bank * bank_pages d + d + (info_first t + page) }

-- The first bus word of a page of the image, and the page that holds a bus word.
abbrev pub first_word : ImagePage → BusWord
first_word q = record { 0 = q.0 * page_words }

abbrev pub image_page_of : BusWord → ImagePage
image_page_of w = record { 0 = w.0 / page_words }

-- A byte address is bank x D x 1,024 + page x 1,024 + offset. Information pages use the same addresses (000).
abbrev pub byte_address : ℕ → ℕ → ℕ → ℕ → ByteAddress
byte_address d bank page offset = record { 0 = bank * d * page_bytes + page * page_bytes + offset }

-- The page that holds an address, and a page's first address.
abbrev pub page_of : ByteAddress → Page
page_of a = record { 0 = a.0 / page_bytes }

abbrev pub page_start : Page → ByteAddress
page_start p = record { 0 = p.0 * page_bytes }

-- The bank of a page, its number in that bank, and the bus word of the page at which an address lies.
abbrev pub bank_of : ℕ → Page → ℕ
bank_of d p = cond (ltb p.0 d) 0 1

abbrev pub page_in_bank : ℕ → Page → ℕ
page_in_bank d p = cond (ltb p.0 d) p.0 (p.0 - d)

abbrev pub word_in_page : ByteAddress → ℕ
word_in_page a = a.0 % page_bytes / 4

-- The page of the image that a page number means: in the data partition, or among the information pages of type t.
unfoldable pub image_page : ℕ → Bool → ℕ → Page → ImagePage
image_page d information t p =
    cond information
    (info_image_page d (bank_of d p) t (page_in_bank d p))
    (data_image_page d (bank_of d p) (page_in_bank d p))

-- The bus word of the image that a byte address means.
unfoldable pub word_at : ℕ → Bool → ℕ → ByteAddress → BusWord
word_at d information t a = record { 0 = (first_word (image_page d information t (page_of a))).0 + word_in_page a }

-- The 26 information pages of both banks, numbered as the settings hold them.
abbrev pub info_index : ℕ → ℕ → ℕ → ℕ
info_index bank t page = bank * 13 + (info_first t + page)

-- Special pages, all of bank 0 and type 0: the creator seed page is 1, the owner seed page 2, the isolated page 3 (000).
abbrev pub creator_page : ℕ
creator_page = 1

abbrev pub owner_page : ℕ
owner_page = 2

abbrev pub isolated_page : ℕ
isolated_page = 3

abbrev pub special_page : ℕ → ℕ → ImagePage
special_page d page = info_image_page d 0 0 page

-- A page of the image: its bank, and its number there. A bank's data pages are 0 to D - 1, its 13 information pages follow.
abbrev pub bank_of_page : ℕ → ImagePage → ℕ
bank_of_page d q = q.0 / bank_pages d

abbrev pub number_in_bank : ℕ → ImagePage → ℕ
number_in_bank d q = q.0 % bank_pages d

abbrev pub is_data : ℕ → ImagePage → Bool
is_data d q = ltb (number_in_bank d q) d

-- The bank of a bus word of the image: bank 0's words come first.
abbrev pub bank_of_word : ℕ → BusWord → ℕ
bank_of_word d w = cond (ltb w.0 (bank_pages d * page_words)) 0 1

-- A data page's number over both banks, and an information page's among the 26.
abbrev pub data_page_of : ℕ → ImagePage → Page
data_page_of d q = record { 0 = bank_of_page d q * d + number_in_bank d q }

abbrev pub info_index_of : ℕ → ImagePage → ℕ
info_index_of d q = bank_of_page d q * 13 + (number_in_bank d q - d)

-- The areas of a bank: 0 is its data pages, 1 + t its information pages of type t. How many pages an area has,
abbrev pub area_count : ℕ → ℕ → ℕ
area_count d zero = d
area_count d (suc t) = info_count t

-- and the page of the image that bank, area and page name.
abbrev pub area_image_page : ℕ → ℕ → ℕ → ℕ → ImagePage
area_image_page d bank zero page = data_image_page d bank page
area_image_page d bank (suc t) page = info_image_page d bank t page
