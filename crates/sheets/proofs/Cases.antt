-- Bench sheets, worked out. Assumes nothing.
use Prim.Native.Nat.{ℕ}
use mathlib.Core.Path.{◌≡◌, refl}
use mathlib.Core.List.{[], ◌∷◌, map}
use lib.ListN.{replicate, take}
use Rattle.numbers.specs.Number.{continued, last_group, groups_value, shortest, number_between, number_at, limited, number_to, then_number, then_numbers}
use Rattle.sheets.specs.declared.Request.TheVariants.{Whole, Rights}
use Rattle.std.proofs.Common.{Ok, Err}
use Rattle.sheets.specs.Sheet.{kind_at, partition_at, type_at, address_at, count_at, operation_at, carried, stated_at, entry_with, block_with, block_at, verdict_of, expanded, request_at, words_from, loaded}

-- Nothing; an empty block, and a byte after one; a tag that does not end, and one in a longer form; rights that do not end; a tag that
-- is none, and 1 in a longer form; kind 256; a word in a longer form; an address of 2^32; repeats of 0 and 256; rights 8; a block that does not end; eight
-- repeats, and a ninth; 255 repeats eight deep of nothing; an expansion that is too large, alone and before a byte more; 4,096
-- and 4,097 entries; 02's example.
pub verdicts : map verdict_of (
    ([])
    ∷ (0 ∷ [])
    ∷ (0 ∷ 128 ∷ [])
    ∷ (128 ∷ [])
    ∷ (128 ∷ 0 ∷ [])
    ∷ (3 ∷ 255 ∷ 255 ∷ 255 ∷ 255 ∷ 255 ∷ 255 ∷ [])
    ∷ (4 ∷ 0 ∷ [])
    ∷ (129 ∷ 0 ∷ 0 ∷ [])
    ∷ (1 ∷ 128 ∷ 2 ∷ 0 ∷ 0 ∷ 0 ∷ 1 ∷ 0 ∷ [])
    ∷ (1 ∷ 1 ∷ 0 ∷ 0 ∷ 0 ∷ 1 ∷ 133 ∷ 0 ∷ 0 ∷ [])
    ∷ (1 ∷ 0 ∷ 0 ∷ 0 ∷ 128 ∷ 128 ∷ 128 ∷ 128 ∷ 16 ∷ 1 ∷ 0 ∷ [])
    ∷ (2 ∷ 0 ∷ 0 ∷ 0 ∷ [])
    ∷ (2 ∷ 128 ∷ 2 ∷ 0 ∷ 0 ∷ [])
    ∷ (3 ∷ 8 ∷ 0 ∷ [])
    ∷ (2 ∷ 5 ∷ 0 ∷ [])
    ∷ (2 ∷ 1 ∷ 2 ∷ 1 ∷ 2 ∷ 1 ∷ 2 ∷ 1 ∷ 2 ∷ 1 ∷ 2 ∷ 1 ∷ 2 ∷ 1 ∷ 2 ∷ 1 ∷ 3 ∷ 1 ∷ 0 ∷ 0 ∷ 0 ∷ 0 ∷ 0 ∷ 0 ∷ 0 ∷ 0 ∷ 0 ∷ [])
    ∷ (2 ∷ 1 ∷ 2 ∷ 1 ∷ 2 ∷ 1 ∷ 2 ∷ 1 ∷ 2 ∷ 1 ∷ 2 ∷ 1 ∷ 2 ∷ 1 ∷ 2 ∷ 1 ∷ 2 ∷ 1 ∷ 0 ∷ 0 ∷ 0 ∷ 0 ∷ 0 ∷ 0 ∷ 0 ∷ 0 ∷ 0 ∷ 0 ∷ [])
    ∷ (2 ∷ 255 ∷ 1 ∷ 2 ∷ 255 ∷ 1 ∷ 2 ∷ 255 ∷ 1 ∷ 2 ∷ 255 ∷ 1 ∷ 2 ∷ 255 ∷ 1 ∷ 2 ∷ 255 ∷ 1 ∷ 2 ∷ 255 ∷ 1 ∷ 2 ∷ 255 ∷ 1 ∷ 0 ∷ 0 ∷ 0 ∷ 0 ∷ 0 ∷ 0 ∷ 0 ∷ 0 ∷ 0 ∷ [])
    ∷ (2 ∷ 255 ∷ 1 ∷ 2 ∷ 255 ∷ 1 ∷ 3 ∷ 7 ∷ 0 ∷ 0 ∷ 0 ∷ [])
    ∷ (2 ∷ 255 ∷ 1 ∷ 2 ∷ 255 ∷ 1 ∷ 3 ∷ 7 ∷ 0 ∷ 0 ∷ 0 ∷ 9 ∷ [])
    ∷ (2 ∷ 128 ∷ 1 ∷ 2 ∷ 32 ∷ 3 ∷ 7 ∷ 0 ∷ 0 ∷ 0 ∷ [])
    ∷ (2 ∷ 17 ∷ 2 ∷ 241 ∷ 1 ∷ 3 ∷ 7 ∷ 0 ∷ 0 ∷ 0 ∷ [])
    ∷ (2 ∷ 3 ∷ 1 ∷ 0 ∷ 0 ∷ 0 ∷ 0 ∷ 1 ∷ 0 ∷ 0 ∷ [])
    ∷ [])
    ≡ Err 0 ∷ Ok 0 ∷ Err 1 ∷ Err 1 ∷ Err 0 ∷ Err 7 ∷ Err 0 ∷ Err 0 ∷ Err 1
    ∷ Err 6 ∷ Err 4 ∷ Err 1 ∷ Err 1 ∷ Err 1 ∷ Err 3 ∷ Ok 1 ∷ Err 16 ∷ Ok 0 ∷ Err 0 ∷ Err 11 ∷ Ok 4096 ∷ Err 0 ∷ Ok 3 ∷ []
unfolding verdict_of block_at block_with entry_with stated_at operation_at kind_at partition_at type_at address_at count_at carried continued last_group groups_value shortest number_between number_at limited number_to then_number then_numbers
verdicts = refl

-- 4,097 zeros.
pub too_long : verdict_of (replicate 4097 0) ≡ Err 4096
unfolding verdict_of
too_long = refl

-- Rights, a repeat of two entries, and rights again: where the tags stand that run.
pub order : expanded (3 ∷ 1 ∷ 2 ∷ 2 ∷ 3 ∷ 5 ∷ 3 ∷ 6 ∷ 0 ∷ 3 ∷ 7 ∷ 0 ∷ []) ≡ 0 ∷ 4 ∷ 6 ∷ 4 ∷ 6 ∷ 9 ∷ []
unfolding expanded verdict_of block_at block_with entry_with continued last_group groups_value shortest number_between number_at limited number_to
order = refl

-- Entries 1 and 3; the first words of the buffer of a program of two, and of one of seventeen.
pub asked : map (request_at (1 ∷ 1 ∷ 0 ∷ 2 ∷ 64 ∷ 2 ∷ 5 ∷ 128 ∷ 1 ∷ 3 ∷ 6 ∷ 0 ∷ [])) (0 ∷ 9 ∷ [])
    ≡ Whole (record { kind = 1; partition = 0; info = 2; address = record { 0 = 64 }; count = 2 }) 6 ∷ Rights 6 ∷ []
unfolding request_at stated_at operation_at kind_at partition_at type_at address_at count_at carried continued last_group groups_value shortest number_between number_at limited number_to then_number then_numbers
asked = refl

pub words : map (λ (n : ℕ). take 3 (loaded (5 ∷ 128 ∷ 1 ∷ 9 ∷ []) (record { kind = 1; partition = 0; info = 0; address = record { 0 = 0 }; count = n }) 0)) (2 ∷ 17 ∷ [])
    ≡ (5 ∷ 128 ∷ 0 ∷ []) ∷ (0 ∷ 0 ∷ 0 ∷ []) ∷ []
unfolding loaded words_from carried continued last_group groups_value shortest number_between number_at limited number_to then_number
words = refl
