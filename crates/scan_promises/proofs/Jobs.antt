-- Operations one after the other, cut after n steps in all: the words are those after the first n of all their steps. Assumes nothing.
use Prim.Native.Nat.{ℕ, zero, suc, ◌-◌, ◌<◌, ◌≤◌, min}
use native.Mathlib.Omega.{arith}
use mathlib.Core.Path.{◌≡◌, refl, sym, ap, ◌∙◌}
use mathlib.Core.Bool.{true, false}
use mathlib.Core.Logic.{⊎_elim}
use mathlib.Core.List.{List, [], ◌∷◌, ◌++◌}
use lib.Dec.{ltb}
use lib.ListN.{length, take}
use lib.Seq.{take-length}
use borrow.Author.Tests.{ltb-true, ltb-false}
use Rattle.std.specs.Prelude.{Option}
use Rattle.model.specs.State.{Flash}
use Rattle.model.specs.declared.Setup.{Setup}
use Rattle.model.proofs.Bool.{which}
use Rattle.calls.specs.Calls.{LeftFlash}
use Rattle.driving.specs.Drives.{driven_in}
use Rattle.scan_queue.specs.Cuts.{Step, run}
use Rattle.scan_queue.proofs.Words.{run_append}
use Rattle.scans.specs.Jobs.{Job, jobs_in}
use Rattle.scans.proofs.Jobs.{cut_job, next_job}
use Rattle.scan_promises.proofs.Runs.{Good, Runs}

-- ---- the first n of two lists

take_front : (xs ys : List Step) (n : ℕ) → n ≤ length xs → take n (xs ++ ys) ≡ take n xs
take_front xs ys zero h = refl
take_front [] ys (suc n) h = absurd (omega arith)
take_front (x ∷ xs) ys (suc n) h = ap (λ (l : List Step). x ∷ l) (take_front xs ys n (omega arith))

take_past : (xs ys : List Step) (n : ℕ) → length xs ≤ n → take n (xs ++ ys) ≡ xs ++ take (n - length xs) ys
take_past [] ys n h = let e : n ≡ n - 0 = omega arith in ap (λ (k : ℕ). take k ys) e
take_past (x ∷ xs) ys zero h = absurd (omega arith)
take_past (x ∷ xs) ys (suc n) h =
    let e : n - length xs ≡ suc n - suc (length xs) = omega arith in
    ap (λ (l : List Step). x ∷ l) (take_past xs ys n (omega arith) ∙ ap (λ (k : ℕ). xs ++ take k ys) e)

-- ---- the operations

pub data AllRun (S : Setup) : List Job → List Step → Type 0 where
  none : AllRun S [] []
  more : {j : Job} {js : List Job} {ss ts : List Step} → Runs S j ss → AllRun S js ts → AllRun S (j ∷ js) (ss ++ ts)

pub jobs_run : (S : Setup) (js : List Job) (ts : List Step) → AllRun S js ts → (n : ℕ) (s : List ℕ) (f : Flash) → Good S s f
    → (jobs_in n s f js).flash.words ≡ run (take n ts) f.words
unfolding jobs_in run
jobs_run S [] [] none zero s f g = refl
jobs_run S [] [] none (suc n) s f g = refl
jobs_run S [] (_ ∷ _) rs n s f g = elim rs [ ]
jobs_run S (j ∷ js) us (more {ss = ss} {ts = ts} r rs) n s f g =
    let one = r n s f g in
    ⊎_elim
    (λ (e : ltb n (length ss) ≡ true).
    let few : n < length ss = ltb-true n (length ss) e in
    let m : min n (length ss) ≡ n = omega arith in
    ap (λ (l : LeftFlash (Option ℕ)). l.flash.words) (sym (cut_job n s f j _ refl (one.cut ∙ e) js))
    ∙ one.words ∙ rw (m, take_front ss ts n (omega arith)) refl)
    (λ (e : ltb n (length ss) ≡ false).
    let all : length ss ≤ n = ltb-false n (length ss) e in
    let m : min n (length ss) ≡ length ss = omega arith in
    let done : (driven_in n s f j.operation j.words).flash.words ≡ run ss f.words = one.words ∙ rw (m, take-length ss) refl in
    ap (λ (l : LeftFlash (Option ℕ)). l.flash.words) (sym (next_job n s f j _ refl (one.cut ∙ e) js))
    ∙ jobs_run S js ts rs _ _ _ (one.again all)
    ∙ rw (one.left, m, done) (sym (ap (λ (l : List Step). run l f.words) (take_past ss ts n all) ∙ run_append ss (take (n - length ss) ts) f.words)))
    (which (ltb n (length ss)))
