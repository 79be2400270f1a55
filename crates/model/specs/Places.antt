-- The words of an operation: where they begin, how many there are, and where each lies in the image. (01, 'Steps')
use Rattle.std.specs.Prelude.{ℕ, ◌+◌, ◌*◌, cond}
use Rattle.model.specs.Geometry.{page_words, bank_pages, page_of, page_start, bank_of, data_image_page, first_word, word_at}
use Rattle.model.specs.Kinds.{is_page_erase, is_bank_erase, is_information}
use Rattle.model.specs.declared.BusWord.{BusWord}
use Rattle.model.specs.declared.ByteAddress.{ByteAddress}
use Rattle.model.specs.declared.Operation.{Operation}

-- A read or a program covers n bus words from its address on, a page erase the 256 of the page that holds the address.
abbrev pub span_start : Operation → ByteAddress
span_start o = cond (is_page_erase o) (page_start (page_of o.address)) o.address

abbrev pub span_words : Operation → ℕ
span_words o = cond (is_page_erase o) page_words o.count

-- The address of its word k, counted from 0; word `span_words` would be the first past its end.
abbrev pub span_address : Operation → ℕ → ByteAddress
span_address o k = record { 0 = (span_start o).0 + 4 * k }

-- A bank erase covers its bank's data pages and, if information is selected, also all its information pages (001).
abbrev pub bank_words : ℕ → Operation → ℕ
bank_words d o = cond (is_information o) (bank_pages d) d * page_words

-- How many words an operation moves, one in each moving step.
unfoldable pub total_words : ℕ → Operation → ℕ
total_words d o = cond (is_bank_erase o) (bank_words d o) (span_words o)

-- The place of word k in the image. A bank erase goes up from the first word of its bank: lowest place first (house).
unfoldable pub place_of : ℕ → Operation → ℕ → BusWord
place_of d o k =
    cond (is_bank_erase o)
    (record { 0 = (first_word (data_image_page d (bank_of d (page_of o.address)) 0)).0 + k })
    (word_at d (is_information o) o.info (span_address o k))
