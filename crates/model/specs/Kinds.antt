-- Kinds and partitions of operations: the facts that every other definition shares. (01, 'What may be asked')
use Rattle.std.specs.Prelude.{ℕ, Bool, ◌&&◌, not, cond, ltb, leb, eqb}
use Rattle.model.specs.declared.Operation.{Operation}

-- Kinds: 0 read, 1 program, 2 page erase, 3 bank erase; 4 to 255 are no kind.
abbrev pub is_read : Operation → Bool
is_read o = eqb o.kind 0

abbrev pub is_program : Operation → Bool
is_program o = eqb o.kind 1

abbrev pub is_page_erase : Operation → Bool
is_page_erase o = eqb o.kind 2

abbrev pub is_bank_erase : Operation → Bool
is_bank_erase o = eqb o.kind 3

abbrev pub no_kind : Operation → Bool
no_kind o = leb 4 o.kind

-- Partitions: 0 data, 1 information.
abbrev pub is_information : Operation → Bool
is_information o = eqb o.partition 1

abbrev pub no_partition : Operation → Bool
no_partition o = ltb 1 o.partition

-- Erases ignore n. Data operations and bank erases ignore the type.
abbrev pub uses_count : Operation → Bool
uses_count o = ltb o.kind 2

abbrev pub uses_type : Operation → Bool
uses_type o = is_information o && not (is_bank_erase o)

-- The largest n of a read or a program (01, refusal 5).
abbrev pub max_count : ℕ
max_count = 1024

-- Rights: read 1, program 2, erase 4, added up.
abbrev pub read_right : ℕ
read_right = 1

abbrev pub program_right : ℕ
program_right = 2

abbrev pub erase_right : ℕ
erase_right = 4

-- The right that a read, a program or a page erase needs on each of its pages. (A bank erase looks at no page's rights.)
abbrev pub right_needed : Operation → ℕ
right_needed o = cond (is_read o) read_right (cond (is_program o) program_right erase_right)
