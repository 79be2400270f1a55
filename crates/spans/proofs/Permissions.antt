-- The banks' permissions, as a list and where they lie. Assumes nothing.
use Prim.Native.Nat.{ℕ, zero, suc, ◌≤◌}
use native.Mathlib.Omega.{arith}
use mathlib.Core.Path.{◌≡◌, refl}
use mathlib.Core.Bool.{false}
use mathlib.Core.List.{List}
use lib.ListN.{get_or}
use Rattle.registers.specs.Layout.{permission_at}
use Rattle.registers.specs.Registers.{is_on, settings_of}

pub permission_of : (s : List ℕ) (bank : ℕ) → bank ≤ 1 → is_on (get_or s (permission_at bank) 0) ≡ get_or (settings_of s).erase bank false
permission_of s zero h = refl
permission_of s (suc zero) h = refl
permission_of s (suc (suc n)) h = absurd (omega arith)
