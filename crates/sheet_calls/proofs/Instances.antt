-- The calls of two sheets, worked out. Assumes nothing.
use Prim.Native.Nat.{ℕ}
use mathlib.Core.Path.{◌≡◌, refl}
use mathlib.Core.List.{List, [], ◌∷◌, map}
use lib.ListN.{replicate}
use lib.Seq.{sets}
use Rattle.model.specs.Kinds.{max_count}
use Rattle.model.specs.Bench.{op}
use Rattle.promises.specs.Calls.{Call, SetDefault, Whole}
use Rattle.numbers.specs.Number.{continued, last_group, groups_value, shortest, number_between, number_at, limited, number_to, then_number, then_numbers}
use Rattle.sheets.specs.Sheet.{kind_at, partition_at, type_at, address_at, count_at, operation_at, carried, stated_at, entry_with, block_with, block_at, verdict_of, expanded}
use Rattle.sheets.specs.Sheet.{request_at, words_from, loaded}
use Rattle.sheet_calls.specs.SheetCalls.{requests_of, calls_of}

abbrev zeros : List ℕ
zeros = replicate max_count 0

abbrev read : Call
read = Whole (op 0 0 0 0 1) zeros

-- 02's ten bytes: three times the read of one word at 0. Rights 3, then the program of words 5 and 6 at 8.
pub calls : map calls_of ((2 ∷ 3 ∷ 1 ∷ 0 ∷ 0 ∷ 0 ∷ 0 ∷ 1 ∷ 0 ∷ 0 ∷ []) ∷ (3 ∷ 3 ∷ 1 ∷ 1 ∷ 0 ∷ 0 ∷ 8 ∷ 2 ∷ 5 ∷ 6 ∷ 0 ∷ []) ∷ [])
    ≡ (read ∷ read ∷ read ∷ []) ∷ (SetDefault 3 ∷ Whole (op 1 0 0 8 2) (sets zeros 0 (5 ∷ 6 ∷ [])) ∷ []) ∷ []
unfolding continued last_group groups_value shortest number_between number_at limited number_to then_number then_numbers kind_at partition_at type_at address_at count_at operation_at carried stated_at entry_with block_with block_at verdict_of expanded request_at words_from loaded requests_of calls_of
calls = refl
