-- Registers that are cleared, one by one, and what they then stand for. Assumes nothing.
use Prim.Native.Nat.{ℕ, zero, suc, ◌+◌}
use native.Mathlib.Omega.{arith}
use mathlib.Core.Path.{◌≡◌, refl, ap, sym, ◌∙◌}
use mathlib.Core.List.{List, [], ◌∷◌}
use lib.ListN.{length, set, replicate}
use Rattle.model.specs.Queue.{queue_of}
use Rattle.model.specs.State.{reset_controller}
use Rattle.registers.specs.Registers.{regions_of, info_of, progress_at, stands_for, encoded, decode, zeroed, cleared}

-- What lies before registers that are zeroed stays,
zeroed_behind : (x : ℕ) (s : List ℕ) (i n : ℕ) → zeroed (x ∷ s) (suc i) n ≡ x ∷ zeroed s i n
unfolding zeroed
zeroed_behind x s i zero = refl
zeroed_behind x s i (suc n) =
    let next : suc i + 1 ≡ suc (i + 1) = omega arith in
    ap (λ (j : ℕ). zeroed (x ∷ set s i 0) j n) next ∙ zeroed_behind x (set s i 0) (i + 1) n

-- so that all of them are 0 at the end.
zeroed_all : (s : List ℕ) → zeroed s 0 (length s) ≡ replicate (length s) 0
unfolding zeroed
zeroed_all [] = refl
zeroed_all (x ∷ s) = zeroed_behind 0 s 0 (length s) ∙ ap (λ (t : List ℕ). 0 ∷ t) (zeroed_all s)

zeros_all : (s : List ℕ) → length s ≡ 137 → zeroed s 0 137 ≡ replicate 137 0
zeros_all s long = ap (zeroed s 0) (sym long) ∙ zeroed_all s ∙ ap (λ (n : ℕ). replicate n 0) long

-- D written over zeros clears the registers.
pub zeros_cleared : (s : List ℕ) (d : ℕ) → length s ≡ 137 → set (replicate 137 0) 0 d ≡ cleared s d
unfolding cleared
zeros_cleared s d long = rw (zeros_all s long)

-- Registers that are all 0 but D stand for the controller after reset.
pub decode_cleared : (s : List ℕ) (d : ℕ) → length s ≡ 137 → decode (cleared s d) ≡ reset_controller d
unfolding cleared decode encoded stands_for regions_of info_of progress_at queue_of
decode_cleared s d long =
    rw (zeros_all s long)
