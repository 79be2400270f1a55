-- A refused scan call changes nothing. Assumes nothing.
use Prim.Native.Nat.{ℕ}
use mathlib.Core.Path.{◌≡◌, refl}
use mathlib.Core.Bool.{true, false}
use mathlib.Core.Logic.{⊎_elim}
use mathlib.Core.List.{List, [], ◌∷◌}
use lib.Dec.{eqb}
use Rattle.std.specs.Prelude.{Option, None, Some}
use Rattle.model.specs.State.{Flash}
use Rattle.model.proofs.Bool.{which}
use Rattle.registers.specs.Registers.{setup_of, decode}
use Rattle.scan_queue.specs.Slots.{Entry}
use Rattle.scan_queue.specs.Decisions.{Decision, Refused, Puts, Erases, Marks, taking}
use Rattle.scan_pages.specs.Pages.{pages_answer}
use Rattle.scans.specs.Jobs.{jobs, jobs_in}
use Rattle.scans.specs.Scans.{write_refused, write_done, writing, write_in, unless_cut, no_scan, scan_of, take_done, waiting, take_in}
use Rattle.scan_promises.specs.Refusals.{Refusals}

-- ---- a write

write_decided : (n : ℕ) (s : List ℕ) (f : Flash) (d : Decision) → ((write_done n s f d).told.answer ≡ 0 → ⊥)
    → write_done n s f d ≡ write_refused (write_done n s f d).told.answer s f
unfolding write_done jobs jobs_in
write_decided n s f (Refused k) h = refl
write_decided n s f (Puts p t) h = absurd (h refl)
write_decided n s f (Erases q t) h = absurd (h refl)
write_decided n s f (Marks p) h = absurd (h refl)

write_refusal : (n : ℕ) (s : List ℕ) (f : Flash) (a b : ℕ) (bytes : List ℕ) → ((write_in n s f a b bytes).told.answer ≡ 0 → ⊥)
    → write_in n s f a b bytes ≡ write_refused (write_in n s f a b bytes).told.answer s f
unfolding write_in
write_refusal n s f a b bytes h =
    ⊎_elim
    (λ (e : eqb (pages_answer (decode s) f a b) 0 ≡ true). rw e (write_decided n s f (writing s f a b bytes) (rw e at h)))
    (λ (e : eqb (pages_answer (decode s) f a b) 0 ≡ false). rw e refl)
    (which (eqb (pages_answer (decode s) f a b) 0))

-- ---- a take

-- Cut or not, an accepted one answers 0.
zero_either : (left : Option ℕ) (e : Entry) → (unless_cut (scan_of e) left).answer ≡ 0
zero_either None e = refl
zero_either (Some n) e = refl

take_decided : (n : ℕ) (s : List ℕ) (f : Flash) (q : List Entry) → ((take_done n s f q).told.answer ≡ 0 → ⊥)
    → take_done n s f q ≡ record { told = no_scan (take_done n s f q).told.answer 0; registers = s; flash = f }
unfolding take_done
take_decided n s f [] h = refl
take_decided n s f (e ∷ l) h = absurd (h (zero_either (jobs_in n s f (jobs (setup_of s).pages (taking (e ∷ l)))).told e))

take_refusal : (n : ℕ) (s : List ℕ) (f : Flash) (a b : ℕ) → ((take_in n s f a b).told.answer ≡ 0 → ⊥)
    → take_in n s f a b ≡ record { told = no_scan (take_in n s f a b).told.answer 0; registers = s; flash = f }
unfolding take_in
take_refusal n s f a b h =
    ⊎_elim
    (λ (e : eqb (pages_answer (decode s) f a b) 0 ≡ true). rw e (take_decided n s f (waiting s f a b) (rw e at h)))
    (λ (e : eqb (pages_answer (decode s) f a b) 0 ≡ false). rw e refl)
    (which (eqb (pages_answer (decode s) f a b) 0))

pub refusals_hold : Refusals
refusals_hold = record { writes = write_refusal; takes = take_refusal }
