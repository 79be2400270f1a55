-- What is in progress, and the lost counts, read where they lie. Assumes nothing.
use Rattle.std.specs.Prelude.{None, Some}
use Prim.Native.Nat.{ℕ, zero, suc, ◌+◌, ◌≤◌}
use native.Mathlib.Omega.{arith}
use mathlib.Core.Path.{◌≡◌, refl, ap}
use mathlib.Core.Bool.{Bool, true, false, cond}
use mathlib.Core.List.{List}
use lib.ListN.{length, get_or}
use Rattle.model.specs.Kinds.{is_read, is_program}
use Rattle.model.specs.State.{operation_of, moved_of}
use Rattle.model.specs.Rounds.{lost_in}
use Rattle.model.specs.declared.Work.{Work}
use Rattle.model.specs.State.{Progress}
use Rattle.model.proofs.Bool.{by_test}
use Rattle.registers.specs.Layout.{moved_at, running_at, lost_from}
use Rattle.registers.specs.Registers.{is_on, operation_at, work_at, progress_at, stands_for}

-- ---- the operation in progress

abbrev work_in : Progress → Work → Work
work_in None v = v
work_in (Some w) v = w

is_work : (on : Bool) (v w : Work) → cond on (Some v) None ≡ Some w → v ≡ w
is_work true v w e = ap (λ (p : Progress). work_in p v) e
is_work false v w e = ap (λ (p : Progress). work_in p v) e

pub work_lies : (s : List ℕ) (w : Work) → progress_at s ≡ Some w → work_at s ≡ w
unfolding progress_at
work_lies s w e = is_work (is_on (get_or s running_at 0)) (work_at s) w e

pub operation_lies : (s : List ℕ) → (operation_of (work_at s) ≡ operation_at s) × (moved_of (work_at s) ≡ get_or s moved_at 0)
operation_lies s =
    by_test (is_read (operation_at s)) (λ r. rw r (refl, refl))
    (λ n. by_test (is_program (operation_at s)) (λ p. rw (n, p) (refl, refl)) (λ e. rw (n, e) (refl, refl)))

-- ---- a bank's lost count

pub lost_lies : (s : List ℕ) (bank : ℕ) → bank ≤ 1 → get_or s (lost_from + bank) 0 ≡ lost_in (stands_for s) bank
unfolding stands_for
lost_lies s zero b = refl
lost_lies s (suc zero) b = refl
lost_lies s (suc (suc n)) b = absurd (omega arith)

pub two_counts : (s : List ℕ) → length (stands_for s).physical.lost ≡ 2
unfolding stands_for
two_counts s = refl
