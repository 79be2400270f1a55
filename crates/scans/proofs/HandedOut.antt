-- What a take hands out, by what was decided for it and by whether the power was cut. Assumes nothing.
use Prim.Native.Nat.{ℕ, ◌+◌, ◌-◌, ◌≤◌}
use native.Mathlib.Omega.{arith}
use mathlib.Core.Path.{◌≡◌, refl, sym, ap, ◌∙◌}
use mathlib.Core.List.{List, [], ◌∷◌}
use lib.ListN.{length, take, drop, length-drop}
use lib.Seq.{length-take-le}
use Rattle.std.specs.Prelude.{Option, None, Some}
use Rattle.calls.specs.Calls.{LeftFlash}
use Rattle.scan_queue.specs.Slots.{Entry}
use Rattle.slots.specs.declared.Found.{Found}
use Rattle.scan_plans.specs.declared.TakePlan.{TakePlan}
use Rattle.scan_plans.specs.Plans.{HandsOut, OldestIs, padded}
use Rattle.scans.specs.Scans.{no_scan, scan_told, unless_cut, mark_told}
use Rattle.scans.specs.declared.ToldScan.{ToldScan}

-- The head of the queue, where something was decided to be taken: it is what was found in the slot at p.
pub record Hands (m : List ℕ) (p : ℕ) (f : Found) (q : List Entry) : Type 0 where
  pub entry : Entry
  pub others : List Entry
  pub is : q ≡ entry ∷ others
  pub out : HandsOut m p f entry

pub hands : (m : List ℕ) (t : TakePlan) (q : List Entry) → OldestIs m (Some t) q → Hands m t.place t.found q
hands m t [] k = absurd k
hands m t (x ∷ l) k = record { entry = x; others = l; is = refl; out = k }

pub nothing_waits : (m : List ℕ) (q : List Entry) → OldestIs m None q → q ≡ []
nothing_waits m [] k = refl
nothing_waits m (x ∷ l) k = absurd k

-- What is handed out,
pub told_scan : (serial start count : ℕ) (l bytes : List ℕ) → start + count ≤ length l → bytes ≡ padded (take count (drop start l))
    → record { answer = 0; cut = 0; serial = serial; length = count; bytes = bytes } ≡ scan_told serial (take count (drop start l))
told_scan serial start count l bytes h e =
    let d : length (drop start l) ≡ length l - start = length-drop start l in
    let n : length (take count (drop start l)) ≡ count = length-take-le count (drop start l) (omega arith) in
    rw (e, n) refl

-- unless the power is cut.
module _ (t : ToldScan) (l x : LeftFlash (Option ℕ)) (e : l ≡ x) where
  told : ToldScan → LeftFlash ToldScan
  told y = record { told = y; registers = l.registers; flash = l.flash }

  told_by : (left : Option ℕ) → l.told ≡ left → told (unless_cut t left) ≡ mark_told t x
  unfolding told
  told_by left h = ap (λ (u : Option ℕ). told (unless_cut t u)) (sym h) ∙ ap (mark_told t) e

  pub mark_cut : l.told ≡ None → record { told = no_scan 0 1; registers = l.registers; flash = l.flash } ≡ mark_told t x
  unfolding told
  mark_cut h = told_by None h

  pub mark_scan : (u : ToldScan) → u ≡ t → (left : ℕ) → l.told ≡ Some left
      → record { told = u; registers = l.registers; flash = l.flash } ≡ mark_told t x
  unfolding told
  mark_scan u q left h = ap told q ∙ told_by (Some left) h
