-- A take hands out the first of the waiting list and leaves the rest to be found. Assumes nothing.
use Prim.Native.Nat.{ℕ, suc, ◌+◌}
use native.Mathlib.Omega.{arith}
use mathlib.Core.Path.{◌≡◌, refl, sym, ap, subst, ◌∙◌}
use mathlib.Core.List.{List, [], ◌∷◌, ◌++◌, map}
use lib.ListN.{length}
use Rattle.std.specs.Prelude.{Option, Some}
use Rattle.model.specs.State.{Flash}
use Rattle.model.specs.declared.Setup.{Setup}
use Rattle.registers.specs.Layout.{register_count}
use Rattle.registers.specs.Registers.{setup_of, decode}
use Rattle.calls.specs.Calls.{LeftFlash}
use Rattle.driving.specs.Drives.{driven_in}
use Rattle.scan_queue.specs.Payload.{Scan}
use Rattle.scan_queue.specs.Slots.{Entry, waits, slot_at, places, queue, scans, waiting_list}
use Rattle.scan_queue.specs.Cuts.{Program, tail}
use Rattle.scan_queue.proofs.Order.{head_in}
use Rattle.scan_pages.specs.Pages.{page_word, lower, higher, pages_answer}
use Rattle.scans.specs.declared.ToldScan.{ToldScan}
use Rattle.scans.specs.Jobs.{Job, zero_job, jobs, jobs_in}
use Rattle.scans.specs.Scans.{no_scan, scan_told, scan_of, mark_told, take_done, waiting, take_in}
use Rattle.scans.proofs.Jobs.{next_job}
use Rattle.scans.proofs.Passed.{served, pages_same}
use Rattle.scan_promises.specs.PowerCut.{listed, TakeGives, takes, handed, Found, SameSetup}
use Rattle.scan_promises.proofs.Runs.{Good, RunsOn}
use Rattle.scan_promises.proofs.Placed.{SlotOf, slot_of, zero_runs}
use Rattle.scan_promises.proofs.PowerCutProof.{good, in_order, take_cut}

module _ (s : List ℕ) (f : Flash) (a b : ℕ) (size : length s ≡ register_count) (ok : pages_answer (decode s) f a b ≡ 0) where
  -- ---- the mark of the oldest

  module _ (e : Entry) (l : List Entry) (first : waiting s f a b ≡ e ∷ l) where
    slot : SlotOf (decode s).setup e.place
    unfolding queue
    slot =
        let at : queue f.words (places (page_word (decode s).setup.pages (lower a b)) (page_word (decode s).setup.pages (higher a b))) ≡ e ∷ l
        = rw (pages_same s f a b _ refl ok) first in
        let o = in_order s f a b size ok in
        slot_of (decode s).setup (lower a b) (higher a b) e.place o.0 o.1
        (head_in (λ q. waits (slot_at f.words q)) _ e l at).0

    job : Job
    job = zero_job (setup_of s).pages (e.place + 1)

    marks : RunsOn (decode s).setup job (Program (e.place + 1) 0 ∷ []) 1 s f
    unfolding job
    marks =
        subst (λ (d : ℕ). RunsOn (decode s).setup (zero_job d (e.place + 1)) (Program (e.place + 1) 0 ∷ []) 1 s f) (pages_same s f a b _ refl ok)
        (zero_runs (decode s).setup e.place slot 1 (omega arith) 1 s f (good s f a b size ok))

    left : LeftFlash (Option ℕ)
    left = record {
      told = Some (driven_in 1 s f job.operation job.words).told.left;
      registers = (driven_in 1 s f job.operation job.words).registers;
      flash = (driven_in 1 s f job.operation job.words).flash;
    }

    jobs_are : jobs_in 1 s f (job ∷ []) ≡ left
    unfolding jobs_in left
    jobs_are = sym (next_job 1 s f job _ refl marks.cut [])

    took : take_in 1 s f a b ≡ mark_told (scan_of e) left
    unfolding take_in take_done jobs job
    took = rw (ok, first) (ap (mark_told (scan_of e)) jobs_are)

    still_good : Good (decode s).setup (take_in 1 s f a b).registers (take_in 1 s f a b).flash
    unfolding left
    still_good =
        subst (λ (x : LeftFlash ToldScan). Good (decode s).setup x.registers x.flash) (sym took) (marks.again (omega arith))

    told_is : (take_in 1 s f a b).told ≡ scan_told e.scan.serial e.scan.bytes
    unfolding left
    told_is = ap (λ (x : LeftFlash ToldScan). x.told) took

  none_took : waiting s f a b ≡ [] → take_in 1 s f a b ≡ record { told = no_scan 19 0; registers = s; flash = f }
  unfolding take_in take_done
  none_took h = rw (ok, h) refl

  serves_again : (t : List ℕ) (g : Flash) → Good (decode s).setup t g → pages_answer (decode t) g a b ≡ 0
  unfolding pages_answer
  serves_again t g h = rw (h.free, h.setup, served s f a b _ refl ok) refl

  pub take_gives : TakeGives s f a b
  unfolding waiting_list scans
  take_gives = go (waiting s f a b) refl
    where
      go : (q : List Entry) → waiting s f a b ≡ q → TakeGives s f a b
      go [] h = record {
        none = λ n. none_took h;
        gives = λ x l n. let z : ◌≡◌ {A = List Scan} [] (x ∷ l) = rw h at n in absurd (let y : ◌≡◌ {A = ℕ} 0 (suc (length l)) = ap length z in omega arith);
        rest = (take_cut s f a b size ok 1).done (omega arith);
        again = subst (λ (x : LeftFlash ToldScan). pages_answer (decode x.registers) x.flash a b ≡ 0) (sym (none_took h)) ok;
        setup = ap (λ (x : LeftFlash ToldScan). (decode x.registers).setup) (none_took h);
        size = ap (λ (x : LeftFlash ToldScan). length x.registers) (none_took h) ∙ size;
      }
      go (e ∷ l) h = record {
        none = λ n. let z : ◌≡◌ {A = List Scan} (e.scan ∷ scans l) [] = rw h at n in absurd (let y : ◌≡◌ {A = ℕ} (suc (length (scans l))) 0 = ap length z in omega arith);
        gives = λ x k n.
            let z : ◌≡◌ {A = List Scan} (e.scan ∷ scans l) (x ∷ k) = rw h at n in
            let same : e.scan ≡ x = cc in
            told_is e l h ∙ ap (λ (y : Scan). scan_told y.serial y.bytes) same;
        rest = (take_cut s f a b size ok 1).done (omega arith);
        again = serves_again _ _ (still_good e l h);
        setup = (still_good e l h).setup;
        size = (still_good e l h).long.size;
      }

-- ---- the same setup

same_found : SameSetup
unfolding pages_answer
same_found s t f g a b size ok free setup =
    let serves : pages_answer (decode t) g a b ≡ 0 = rw (free, setup, served s f a b _ refl ok) refl in
    let pages : (setup_of t).pages ≡ (setup_of s).pages
    = sym (pages_same t g a b _ refl serves) ∙ ap (λ (x : Setup). x.pages) setup ∙ pages_same s f a b _ refl ok in
    record { serves = serves; list = rw pages refl }

pub same_setup : SameSetup
same_setup = same_found

-- ---- all takes

takes_all : (l : List Scan) (s : List ℕ) (f : Flash) (a b : ℕ) → length s ≡ register_count → pages_answer (decode s) f a b ≡ 0 → listed s f a b ≡ l
    → takes (suc (length l)) s f a b ≡ map handed l ++ (no_scan 19 0 ∷ [])
unfolding takes
takes_all [] s f a b size ok h =
    let g = take_gives s f a b size ok in
    ap (λ (t : LeftFlash ToldScan). t.told ∷ []) (g.none h)
takes_all (x ∷ l) s f a b size ok h =
    let g = take_gives s f a b size ok in
    let t : List ℕ = (take_in 1 s f a b).registers in
    let k : Flash = (take_in 1 s f a b).flash in
    let pages : (setup_of (take_in 1 s f a b).registers).pages ≡ (setup_of s).pages
    = sym (pages_same (take_in 1 s f a b).registers (take_in 1 s f a b).flash a b _ refl g.again) ∙ ap (λ (y : Setup). y.pages) g.setup ∙ pages_same s f a b _ refl ok in
    let here : listed (take_in 1 s f a b).registers (take_in 1 s f a b).flash a b ≡ listed s (take_in 1 s f a b).flash a b = rw pages refl in
    let rest : listed s (take_in 1 s f a b).flash a b ≡ l = g.rest ∙ ap tail h in
    ap (λ (y : ToldScan). y ∷ takes (suc (length l)) t k a b) (g.gives x l h)
    ∙ ap (λ (ys : List ToldScan). handed x ∷ ys) (takes_all l t k a b g.size g.again (here ∙ rest))

pub found_holds : Found
found_holds s f a b size ok = record { one = take_gives s f a b size ok; all = takes_all (listed s f a b) s f a b size ok refl }
