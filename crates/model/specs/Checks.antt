-- Checks 5, 7, 8 and 9 of an operation. (01, 'When the desk says no')
use Rattle.std.specs.Prelude.{ℕ, ◌+◌, ◌-◌, ◌*◌, ◌/◌, ◌%◌, Bool, ◌&&◌, ◌||◌, not, cond, ltb, leb, eqb, Err}
use Rattle.model.specs.Geometry.{data_pages, info_count, page_bytes, page_of, bank_of}
use Rattle.model.specs.Kinds.{is_program, is_bank_erase, is_information, no_kind, no_partition, uses_count, uses_type, max_count}
use Rattle.model.specs.Places.{span_words, span_address}
use Rattle.model.specs.Rights.{denied, decider_of}
use Rattle.model.specs.Refusals.{check, or_else}
use Rattle.model.specs.declared.ByteAddress.{ByteAddress}
use Rattle.model.specs.declared.Operation.{Operation}
use Rattle.model.specs.declared.Setup.{Setup}
use Rattle.model.specs.Refusals.{Answer}
use Rattle.model.specs.declared.Refusal.TheVariants.{Malformed, OutOfRange, CrossesWindow, Denied}

-- 5: no such kind, partition over 1, type over 2 where used, address not a multiple of 4, or n outside 1 to 1,024 for
-- read and program.
abbrev pub unaligned : ByteAddress → Bool
unaligned a = not (eqb (a.0 % 4) 0)

abbrev pub bad_count : Operation → Bool
bad_count o = eqb o.count 0 || ltb max_count o.count

unfoldable pub malformed : Operation → Bool
malformed o =
    no_kind o
    || (no_partition o
    || ((uses_type o && ltb 2 o.info)
    || (unaligned o.address
    || (uses_count o && bad_count o))))

-- 7: any address at or past 2D x 1,024;
abbrev pub past_data : ℕ → ByteAddress → Bool
past_data d a = leb (data_pages d * page_bytes) a.0

-- data span past 2D pages; information span of a read, program or page erase beyond its type's pages in its bank.
abbrev pub span_limit : ℕ → Operation → ℕ
span_limit d o =
    cond (is_information o) (bank_of d (page_of o.address) * d + info_count o.info) (data_pages d) * page_bytes

unfoldable pub out_of_range : ℕ → Operation → Bool
out_of_range d o =
    past_data d o.address
    || (not (is_bank_erase o) && ltb (span_limit d o) (span_address o (span_words o)).0)

-- 8: program whose first and last bytes lie in different 64-byte windows.
abbrev pub window_bytes : ℕ
window_bytes = 64

unfoldable pub crosses_window : Operation → Bool
crosses_window o =
    is_program o
    && not (eqb (o.address.0 / window_bytes) ((o.address.0 + 4 * o.count - 1) / window_bytes))

-- Checks 5, 7, 8 and 9, in this order: the first that applies answers.
unfoldable pub operation_answer : Setup → Operation → Answer
operation_answer s o =
    or_else (check (malformed o) (Err Malformed))
    (or_else (check (out_of_range s.pages o) (Err OutOfRange))
    (or_else (check (crosses_window o) (Err CrossesWindow))
    (check (denied s o) (Err (Denied (decider_of s o))))))
