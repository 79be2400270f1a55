-- A scan call is its calls, operation by operation; so it leaves a valid state valid. Assumes nothing.
use Prim.Native.Nat.{ℕ, zero, suc, ◌≤◌, min}
use native.Mathlib.Omega.{arith}
use mathlib.Core.Path.{◌≡◌, refl, sym, ap, subst, ◌∙◌}
use mathlib.Core.Bool.{true, false, cond}
use mathlib.Core.List.{List, [], ◌∷◌, ◌++◌}
use lib.Dec.{eqb}
use lib.ListN.{length}
use Rattle.model.specs.Kinds.{is_read, is_program}
use Rattle.model.specs.Places.{total_words}
use Rattle.model.specs.State.{Flash}
use Rattle.model.specs.Refusals.{accepts}
use Rattle.model.specs.Steps.{starts, start}
use Rattle.model.specs.Valid.{valid}
use Rattle.model.specs.Whole.{Run, turn, turns, whole_answer, short_buffer}
use Rattle.model.specs.declared.Operation.{Operation}
use Rattle.model.specs.declared.Controller.{Controller}
use Rattle.model.proofs.Bool.{and_left, and_right, by_test}
use Rattle.promises.specs.Calls.{Call, State, Shaped, perform, run}
use Rattle.promises.proofs.Validity.{valid_stays}
use Rattle.registers.specs.Layout.{register_count}
use Rattle.registers.specs.Registers.{is_on, setup_of, decode}
use Rattle.registers.proofs.There.{stands_shaped}
use Rattle.validity.proofs.Taken.{taken_stands}
use Rattle.plans.specs.Limited.{driven_from, driven}
use Rattle.driving.specs.Drives.{driven_in}
use Rattle.scan_queue.specs.Slots.{Entry}
use Rattle.scan_queue.specs.Decisions.{Decision, Refused, Puts, Erases, Marks, taking}
use Rattle.scan_pages.specs.Pages.{pages_answer}
use Rattle.scans.specs.Jobs.{Job, jobs, jobs_in}
use Rattle.scans.specs.Scans.{write_done, writing, write_in, take_done, waiting, take_in}
use Rattle.scan_promises.specs.ScanIsCalls.{standing, word_calls, turn_calls, driven_calls, job_calls, write_calls, take_calls, is_driving, drives_only, IsCalls, TypesFit, ScanIsCalls, ScanStaysValid}
use Rattle.scan_promises.proofs.Refining.{drives_as}

-- ---- two lists of calls, one after the other

run_both : (t : State) (ks ls : List Call) → run t (ks ++ ls) ≡ run (run t ks) ls
run_both t [] ls = refl
run_both t (k ∷ ks) ls = run_both (perform t k).state ks ls

only_both : (ks ls : List Call) → drives_only ks ≡ true → drives_only ls ≡ true → drives_only (ks ++ ls) ≡ true
only_both [] ls h g = g
only_both (k ∷ ks) ls h g = rw (and_left (is_driving k) _ h) (only_both ks ls (and_right (is_driving k) _ h) g)

-- ---- the words of an operation

abbrev state : Run → State
state r = record { controller = r.controller; flash = r.flash }

module _ (o : Operation) where
  -- Only a read changes the buffer,
  turn_buffer : (k : ℕ) (r : Run) → is_read o ≡ false → (turn o k r).buffer ≡ r.buffer
  unfolding turn
  turn_buffer k r e = by_test (is_program o) (λ p. rw (e, p)) (λ p. rw (e, p))

  turns_buffer : (n : ℕ) (r : Run) → is_read o ≡ false → (turns o n r).buffer ≡ r.buffer
  unfolding turns
  turns_buffer zero r e = refl
  turns_buffer (suc n) r e = turn_buffer n (turns o n r) e ∙ turns_buffer n r e

  -- and only a program pushes from it.
  turn_is_calls : (k : ℕ) (r : Run) (b : List ℕ) → (is_read o ≡ false → r.buffer ≡ b) → state (turn o k r) ≡ run (state r) (word_calls o b k)
  unfolding turn perform
  turn_is_calls k r b same =
      by_test (is_read o) (λ e. rw e)
      (λ e. by_test (is_program o) (λ p. rw (e, p, same e)) (λ p. rw (e, p)))

  turns_are_calls : (n : ℕ) (r : Run) → state (turns o n r) ≡ run (state r) (turn_calls o r.buffer n)
  unfolding turns turn_calls
  turns_are_calls zero r = refl
  turns_are_calls (suc n) r =
      turn_is_calls n (turns o n r) r.buffer (turns_buffer n r)
      ∙ ap (λ (t : State). run t (word_calls o r.buffer n)) (turns_are_calls n r)
      ∙ sym (run_both (state r) (turn_calls o r.buffer n) (word_calls o r.buffer n))

-- ---- an operation

driven_is_calls : (n : ℕ) (c : Controller) (f : Flash) (o : Operation) (b : List ℕ)
    → run (record { controller = c; flash = f }) (driven_calls n c f o b)
    ≡ record { controller = (driven n c f o b).result.controller; flash = (driven n c f o b).flash }
unfolding driven_calls driven driven_from perform
driven_is_calls n c f o b =
    by_test (accepts (whole_answer c f))
    (λ free. by_test (short_buffer o b) (λ short. rw (free, short))
    (λ room. by_test (starts o (start c o).answer)
    (λ go. rw (free, room, go)
    (sym (turns_are_calls o (min n (total_words c.setup.pages o)) (record { controller = (start c o).controller; flash = f; buffer = b; bits = 0 }))))
    (λ stop. rw (free, room, stop))))
    (λ no. rw no)

drives_calls : (n : ℕ) (s : List ℕ) (f : Flash) (o : Operation) (b : List ℕ) → length s ≡ register_count → o.info ≤ 255
    → run (standing s f) (driven_calls n (decode s) f o b) ≡ standing (driven_in n s f o b).registers (driven_in n s f o b).flash
drives_calls n s f o b size info =
    let led = drives_as n s f o b (record { size = size }) info in
    rw (led.controller, led.flash) (driven_is_calls n (decode s) f o b)

-- ---- operations one after the other

jobs_are_calls : (js : List Job) (n : ℕ) (s : List ℕ) (f : Flash) → length s ≡ register_count → TypesFit js
    → run (standing s f) (job_calls n s f js) ≡ standing (jobs_in n s f js).registers (jobs_in n s f js).flash
unfolding job_calls jobs_in
jobs_are_calls [] n s f size fit = refl
jobs_are_calls (j ∷ js) n s f size fit =
    let d = driven_in n s f j.operation j.words in
    let led = drives_as n s f j.operation j.words (record { size = size }) fit.0 in
    let rest : List Call = cond (is_on d.told.cut) [] (job_calls d.told.left d.registers d.flash js) in
    run_both (standing s f) (driven_calls n (decode s) f j.operation j.words) rest
    ∙ ap (λ (t : State). run t rest) (drives_calls n s f j.operation j.words size fit.0)
    ∙ by_test (is_on d.told.cut) (λ e. rw e) (λ e. rw e (jobs_are_calls js d.told.left d.registers d.flash led.long.size fit.1))

-- Those of a scan call have type 0,
scan_types : (d : ℕ) (x : Decision) → TypesFit (jobs d x)
unfolding jobs
scan_types d (Refused k) = tt
scan_types d (Puts p t) = (omega arith, (omega arith, tt))
scan_types d (Erases q t) = (omega arith, (omega arith, (omega arith, tt)))
scan_types d (Marks p) = (omega arith, tt)

-- and none of them reads.
abbrev NoReads : List Job → Type 0
NoReads [] = Unit {0}
NoReads (j ∷ js) = (is_read j.operation ≡ false) × NoReads js

scan_reads : (d : ℕ) (x : Decision) → NoReads (jobs d x)
unfolding jobs
scan_reads d (Refused k) = tt
scan_reads d (Puts p t) = (refl, (refl, tt))
scan_reads d (Erases q t) = (refl, (refl, (refl, tt)))
scan_reads d (Marks p) = (refl, tt)

word_only : (o : Operation) (b : List ℕ) (k : ℕ) → is_read o ≡ false → drives_only (word_calls o b k) ≡ true
word_only o b k e = by_test (is_program o) (λ p. rw (e, p)) (λ p. rw (e, p))

turns_only : (o : Operation) (b : List ℕ) (n : ℕ) → is_read o ≡ false → drives_only (turn_calls o b n) ≡ true
unfolding turn_calls
turns_only o b zero e = refl
turns_only o b (suc n) e = only_both (turn_calls o b n) (word_calls o b n) (turns_only o b n e) (word_only o b n e)

driven_only : (n : ℕ) (c : Controller) (f : Flash) (o : Operation) (b : List ℕ) → is_read o ≡ false → drives_only (driven_calls n c f o b) ≡ true
unfolding driven_calls
driven_only n c f o b e =
    by_test (accepts (whole_answer c f))
    (λ free. by_test (short_buffer o b) (λ short. rw (free, short))
    (λ room. by_test (starts o (start c o).answer)
    (λ go. rw (free, room, go) (turns_only o b (min n (total_words c.setup.pages o)) e))
    (λ stop. rw (free, room, stop))))
    (λ no. rw no)

jobs_only : (js : List Job) (n : ℕ) (s : List ℕ) (f : Flash) → NoReads js → drives_only (job_calls n s f js) ≡ true
unfolding job_calls
jobs_only [] n s f h = refl
jobs_only (j ∷ js) n s f h =
    let d = driven_in n s f j.operation j.words in
    only_both (driven_calls n (decode s) f j.operation j.words) _ (driven_only n (decode s) f j.operation j.words h.0)
    (by_test (is_on d.told.cut) (λ e. rw e) (λ e. rw e (jobs_only js d.told.left d.registers d.flash h.1)))

-- ---- the two scan calls

module _ (n : ℕ) (s : List ℕ) (f : Flash) (a b : ℕ) (size : length s ≡ register_count) where
  decision_is_calls : (x : Decision) → IsCalls s f (job_calls n s f (jobs (setup_of s).pages x))
      (jobs_in n s f (jobs (setup_of s).pages x)).registers (jobs_in n s f (jobs (setup_of s).pages x)).flash
  decision_is_calls x =
      let js = jobs (setup_of s).pages x in
      record { leaves = jobs_are_calls js n s f size (scan_types (setup_of s).pages x); only = jobs_only js n s f (scan_reads (setup_of s).pages x) }

  write_is_calls : (bytes : List ℕ) → IsCalls s f (write_calls n s f a b bytes) (write_in n s f a b bytes).registers (write_in n s f a b bytes).flash
  unfolding write_calls write_in write_done
  write_is_calls bytes =
      by_test (eqb (pages_answer (decode s) f a b) 0)
      (λ e. rw e (decision_is_calls (writing s f a b bytes)))
      (λ e. rw e (record { leaves = refl; only = refl }))

  taking_is_calls : (q : List Entry) → IsCalls s f (job_calls n s f (jobs (setup_of s).pages (taking q))) (take_done n s f q).registers (take_done n s f q).flash
  unfolding take_done jobs job_calls
  taking_is_calls [] = record { leaves = refl; only = refl }
  taking_is_calls (e ∷ l) = decision_is_calls (taking (e ∷ l))

  take_is_calls : IsCalls s f (take_calls n s f a b) (take_in n s f a b).registers (take_in n s f a b).flash
  unfolding take_calls take_in
  take_is_calls =
      by_test (eqb (pages_answer (decode s) f a b) 0)
      (λ e. rw e (taking_is_calls (waiting s f a b)))
      (λ e. rw e (record { leaves = refl; only = refl }))

pub scan_is_calls : ScanIsCalls
scan_is_calls = record {
  drives = drives_calls;
  works = λ n s f js size fit. jobs_are_calls js n s f size fit;
  writes = λ n s f a b bytes size. write_is_calls n s f a b size bytes;
  takes = λ n s f a b size. take_is_calls n s f a b size;
}

-- ---- a valid state stays valid

-- What registers stand for has the shape of its type.
shaped : (s : List ℕ) → valid (decode s) ≡ true → Shaped (decode s)
shaped s v =
    let a = stands_shaped s in
    subst Shaped (sym (taken_stands s v))
    (record { regions = a.regions; info = a.info; erase = a.erase; reads = a.reads; programs = a.programs; lost = a.lost })

calls_stay_valid : (s : List ℕ) (f : Flash) (ks : List Call) (t : List ℕ) (g : Flash) → IsCalls s f ks t g → valid (decode s) ≡ true → valid (decode t) ≡ true
calls_stay_valid s f ks t g h v =
    ap (λ (x : State). valid x.controller) (sym h.leaves) ∙ (valid_stays (standing s f) ks (shaped s v) v).1

pub scan_stays_valid : ScanStaysValid
scan_stays_valid = record {
  writes = λ n s f a b bytes size v. calls_stay_valid s f _ _ _ (write_is_calls n s f a b size bytes) v;
  takes = λ n s f a b size v. calls_stay_valid s f _ _ _ (take_is_calls n s f a b size) v;
}
