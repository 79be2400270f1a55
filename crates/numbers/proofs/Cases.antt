-- Numbers, worked out. Assumes nothing.
use mathlib.Core.Path.{◌≡◌, refl}
use mathlib.Core.List.{[], ◌∷◌, map}
use Prim.Native.Nat.{ℕ}
use Rattle.std.proofs.Common.{Ok, Err}
use Rattle.numbers.specs.Number.{Parsed, continued, last_group, groups_value, shortest, number_between, number_at, limited, number_to, then_number, then_numbers}

-- What is read where a number stands.
abbrev numeral : ℕ → ℕ → Parsed
numeral v n = Ok (record { value = v; next = n })

-- None; one, two and five groups, the largest among them; 2^32; six groups; 0 and 5 in two groups; two that do not end.
pub cases : map (λ s. number_at s 0) (
    ([])
    ∷ (0 ∷ [])
    ∷ (127 ∷ [])
    ∷ (128 ∷ 1 ∷ [])
    ∷ (255 ∷ 127 ∷ 5 ∷ [])
    ∷ (255 ∷ 255 ∷ 255 ∷ 255 ∷ 15 ∷ [])
    ∷ (128 ∷ 128 ∷ 128 ∷ 128 ∷ 16 ∷ [])
    ∷ (129 ∷ 128 ∷ 128 ∷ 128 ∷ 128 ∷ 1 ∷ [])
    ∷ (128 ∷ 0 ∷ [])
    ∷ (133 ∷ 0 ∷ [])
    ∷ (128 ∷ [])
    ∷ (255 ∷ 255 ∷ 255 ∷ 255 ∷ 255 ∷ 255 ∷ 255 ∷ [])
    ∷ [])
    ≡ Err 0 ∷ numeral 0 1 ∷ numeral 127 1 ∷ numeral 128 2 ∷ numeral 16383 2 ∷ numeral 4294967295 5 ∷ Err 0 ∷ Err 0 ∷ Err 0 ∷ Err 0 ∷ Err 1 ∷ Err 7 ∷ []
unfolding continued last_group groups_value shortest number_between number_at
cases = refl

-- At another place; up to its limit and past it; after a number; after a fault; three more, and three of which the second is bad.
pub further : number_at (0 ∷ 128 ∷ []) 1 ∷ number_to (7 ∷ []) 7 0 ∷ number_to (8 ∷ []) 7 0 ∷ then_number (1 ∷ 5 ∷ []) 255 (numeral 1 1)
    ∷ then_number (1 ∷ 5 ∷ []) 255 (Err 0) ∷ then_numbers (1 ∷ 2 ∷ 3 ∷ 4 ∷ []) 3 (numeral 0 1) ∷ then_numbers (1 ∷ 2 ∷ 128 ∷ 0 ∷ 4 ∷ []) 3 (numeral 0 1) ∷ []
    ≡ Err 2 ∷ numeral 7 1 ∷ Err 0 ∷ numeral 5 2 ∷ Err 0 ∷ numeral 4 4 ∷ Err 2 ∷ []
unfolding continued last_group groups_value shortest number_between number_at limited number_to then_number then_numbers
further = refl
