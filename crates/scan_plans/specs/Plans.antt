-- What the code's decisions mean: what a write does, and the scan that a take hands out.
use Rattle.std.specs.Prelude.{ℕ, ◌+◌, ◌-◌, ◌≤◌, ◌<◌, ◌≡◌, List, [], ◌∷◌, ◌++◌, length, replicate, Option, None, Some, Result, Ok, Err, IfOk}
use Rattle.slots.specs.declared.Found.{Found}
use Rattle.scan_queue.specs.declared.ScanRefusal.{ScanRefusal}
use Rattle.scan_queue.specs.Payload.{Scan, max_length}
use Rattle.scan_queue.specs.Slots.{Entry}
use Rattle.scan_queue.specs.Decisions.{Decision, Refused, Puts, Erases, write}
use Rattle.slots.specs.Code.{payload_bytes, to_scan}
use Rattle.scan_plans.specs.declared.WritePlan.{WritePlan}
use Rattle.scan_plans.specs.declared.WritePlan.TheVariants as write_plan
use Rattle.scan_plans.specs.declared.TakePlan.{TakePlan}

-- ---- a write of these bytes

abbrev pub scan_with : ℕ → List ℕ → Scan
scan_with serial bytes = record { serial = serial; bytes = bytes }

abbrev pub decision_of : List ℕ → Result WritePlan ScanRefusal → Decision
decision_of bytes (Err refusal) = Refused refusal
decision_of bytes (Ok (write_plan.Puts p serial)) = Puts p (scan_with serial bytes)
decision_of bytes (Ok (write_plan.Erases q serial)) = Erases q (scan_with serial bytes)

-- The slot lies in the image; serial and length are in range.
abbrev pub Writes : List ℕ → List ℕ → ℕ → ℕ → Type 0
Writes m bytes p serial = (p + 16 ≤ length m) × (serial < 268435456) × (length bytes ≤ 48)

abbrev pub Inside : List ℕ → List ℕ → WritePlan → Type 0
Inside m bytes (write_plan.Puts p serial) = Writes m bytes p serial
Inside m bytes (write_plan.Erases q serial) = Writes m bytes q serial

pub record Decided (m : List ℕ) (a b : ℕ) (bytes : List ℕ) (r : Result WritePlan ScanRefusal) : Type 0 where
  pub is : decision_of bytes r ≡ write m a b bytes
  pub inside : IfOk r (Inside m bytes)

-- ---- a take

-- The oldest waiting scan is the one found in the slot at p, whose bytes lie in it.
pub record HandsOut (m : List ℕ) (p : ℕ) (f : Found) (e : Entry) : Type 0 where
  pub place : p ≡ e.place
  pub scan : to_scan (payload_bytes m p) f ≡ e.scan
  pub inside : p + 16 ≤ length m
  pub fits : f.count ≤ 48
  pub lies : f.start + f.count ≤ 56

abbrev pub OldestIs : List ℕ → Option TakePlan → List Entry → Type 0
OldestIs m None [] = Unit {0}
OldestIs m None (e ∷ l) = ⊥
OldestIs m (Some t) [] = ⊥
OldestIs m (Some t) (e ∷ l) = HandsOut m t.place t.found e

-- What is handed out has 48 bytes, '0 where unused'.
abbrev pub padded : List ℕ → List ℕ
padded l = l ++ replicate (max_length - length l) 0
