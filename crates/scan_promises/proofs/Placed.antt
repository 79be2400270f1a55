-- The operations of a scan call lie in the queue's pages, so that they are accepted and make the plan's steps. Assumes nothing.
use Prim.Native.Nat.{ℕ, zero, suc, ◌+◌, ◌*◌, ◌%◌, ◌<◌, ◌≤◌}
use native.Mathlib.Omega.{arith}
use mathlib.Core.Path.{◌≡◌, refl, sym, ap, subst, ◌∙◌}
use mathlib.Core.Bool.{Bool, true, cond, ◌&&◌}
use mathlib.Core.Logic.{⊎_elim}
use mathlib.Core.List.{List, [], ◌∷◌, ◌++◌, append_assoc}
use lib.Dec.{ltb, leb}
use lib.ListN.{length, length-append}
use borrow.Author.Tests.{ltb-true, leb-true}
use Rattle.std.specs.Prelude.{Option, None, Some}
use Rattle.model.specs.declared.Setup.{Setup}
use Rattle.model.proofs.Bool.{and_left, and_right}
use Rattle.scan_queue.specs.declared.ScanRefusal.TheVariants.{Full, BadScan}
use Rattle.scan_queue.specs.Payload.{Scan, words_of, written}
use Rattle.scan_queue.specs.Slots.{waits, slot_at, slots_from, places, Entry, queue, highest}
use Rattle.scan_queue.specs.Decisions.{Decision, Refused, Puts, Erases, Marks, first_unused, none_waits, into, new_scan, write, taking, take_oldest}
use Rattle.scan_queue.specs.Cuts.{Program, erases, programs, fills, plan, steps_of}
use Rattle.scan_queue.proofs.Order.{In, here, there, head_in}
use Rattle.scan_queue.proofs.Encoding.{Below, Fits, words_length, written_length}
use Rattle.scan_queue.proofs.PowerCut.{in_cons, in_append, first_unused_lem, cases}
use Rattle.scan_pages.specs.Pages.{page_word, word_address}
use Rattle.scan_pages.proofs.Places.{address_of}
use Rattle.scan_pages.proofs.Accepted.{program_at, erase_at, Serves}
use Rattle.scans.specs.Jobs.{Job, erase_job, program_job, fill_job, zero_job, jobs}
use Rattle.scan_promises.proofs.Runs.{Runs, program_runs, erase_runs}
use Rattle.scan_promises.proofs.Jobs.{AllRun, none, more}

-- ---- slots of a page

record SlotAt (q p n : ℕ) : Type 0 where
  j : ℕ
  low : j < n
  is : p ≡ q + 16 * j

slot_at_lem : (n q p : ℕ) → In p (slots_from n q) → SlotAt q p n
unfolding slots_from
slot_at_lem zero q p i = elim i [ ]
slot_at_lem (suc n) q p i =
    ⊎_elim (λ (e : p ≡ q). record { j = 0; low = omega arith; is = omega arith })
    (λ k. let r = slot_at_lem n (q + 16) p k in record { j = suc r.j; low = omega (arith, r.low); is = omega (arith, r.is) })
    (in_cons p q (slots_from n (q + 16)) i)

-- The slot at a word lies in a page that serves.
pub record SlotOf (S : Setup) (p : ℕ) : Type 0 where
  pub page : ℕ
  pub serves : Serves S page
  pub j : ℕ
  pub low : j < 16
  pub is : p ≡ page_word S.pages page + 16 * j

pub record PageOf (S : Setup) (q : ℕ) : Type 0 where
  pub page : ℕ
  pub serves : Serves S page
  pub is : q ≡ page_word S.pages page

pub slot_of : (S : Setup) (x y p : ℕ) → Serves S x → Serves S y → In p (places (page_word S.pages x) (page_word S.pages y)) → SlotOf S p
unfolding places
slot_of S x y p hx hy i =
    ⊎_elim
    (λ k. let r = slot_at_lem 16 (page_word S.pages x) p k in record { page = x; serves = hx; j = r.j; low = r.low; is = r.is })
    (λ k. let r = slot_at_lem 16 (page_word S.pages y) p k in record { page = y; serves = hy; j = r.j; low = r.low; is = r.is })
    (in_append p (slots_from 16 (page_word S.pages x)) (slots_from 16 (page_word S.pages y)) i)

-- ---- the operations and their steps

programs_long : (ws : List ℕ) (q : ℕ) → length (programs ws q) ≡ length ws
unfolding programs
programs_long [] q = refl
programs_long (w ∷ ws) q = ap suc (programs_long ws (suc q))

erases_long : (n q : ℕ) → length (erases n q) ≡ n
unfolding erases
erases_long zero q = refl
erases_long (suc n) q = ap suc (erases_long n (suc q))

-- A program of words at word w, which is word k of a page that serves.
words_run : (S : Setup) (page k w : ℕ) (ws : List ℕ) (count : ℕ) → Serves S page → count ≡ length ws → 1 ≤ length ws → k % 16 + length ws ≤ 16 → k < 256
    → w ≡ page_word S.pages page + k → Runs S (program_job S.pages w count ws) (programs ws w)
words_run S page k w ws count h size some window inside at =
    let address : word_address S.pages w ≡ 1024 * page + 4 * k = ap (word_address S.pages) at ∙ address_of S.pages page k inside in
    let job : program_job S.pages w count ws ≡ record { operation = program_at page k (length ws); words = ws } = rw (address, size) refl in
    subst (λ (x : Job). Runs S x (programs ws w)) (sym job)
    (program_runs S page h k ws some window inside (programs ws w) (ap (programs ws) at) (programs_long ws w))

fill_size : (sc : Scan) → Fits sc → length (words_of (written sc)) ≡ 14
fill_size sc fits = words_length (written sc) ∙ rw (written_length sc fits) refl

module _ (S : Setup) (p : ℕ) (o : SlotOf S p) where
  fill_runs : (sc : Scan) → Fits sc → Runs S (fill_job S.pages p sc) (fills sc p)
  fill_runs sc fits =
      let size : length (words_of (written sc)) ≡ 14 = fill_size sc fits in
      words_run S o.page (16 * o.j + 2) (p + 2) (words_of (written sc)) 14 o.serves (sym size) (rw size (omega arith)) (rw size (omega (arith, o.low)))
      (omega (arith, o.low)) (omega (arith, o.is))

  pub zero_runs : (i : ℕ) → i < 2 → Runs S (zero_job S.pages (p + i)) (Program (p + i) 0 ∷ [])
  unfolding programs
  zero_runs i small =
      words_run S o.page (16 * o.j + i) (p + i) (0 ∷ []) 1 o.serves refl (omega arith) (omega (arith, o.low)) (omega (arith, o.low)) (omega (arith, o.is))

  seal_runs : Runs S (zero_job S.pages p) (Program p 0 ∷ [])
  seal_runs = let z : p + 0 ≡ p = omega arith in subst (λ (w : ℕ). Runs S (zero_job S.pages w) (Program w 0 ∷ [])) z (zero_runs 0 (omega arith))

page_runs : (S : Setup) (q : ℕ) (o : PageOf S q) → Runs S (erase_job S.pages q) (erases 256 q)
page_runs S q o =
    let z : page_word S.pages o.page + 0 ≡ q = omega (arith, o.is) in
    let address : word_address S.pages q ≡ 1024 * o.page = ap (word_address S.pages) (sym z) ∙ address_of S.pages o.page 0 (omega arith) ∙ omega arith in
    let job : erase_job S.pages q ≡ record { operation = erase_at o.page; words = 0 ∷ [] } = rw address refl in
    subst (λ (x : Job). Runs S x (erases 256 q)) (sym job)
    (erase_runs S o.page o.serves (0 ∷ []) (erases 256 q) (ap (erases 256) o.is) (erases_long 256 q))

-- ---- what a call does

abbrev pub Sits : Setup → Decision → Type 0
Sits S (Refused k) = Unit {0}
Sits S (Puts p s) = SlotOf S p × Fits s
Sits S (Erases q s) = PageOf S q × SlotOf S q × Fits s
Sits S (Marks p) = SlotOf S p

pub all_run : (S : Setup) (x : Decision) → Sits S x → AllRun S (jobs S.pages x) (steps_of (plan x))
unfolding jobs
all_run S (Refused k) h = none
all_run S (Puts p s) h = more (fill_runs S p h.0 s h.1) (more (seal_runs S p h.0) none)
all_run S (Erases q s) h =
    subst (AllRun S (jobs S.pages (Erases q s))) (sym (append_assoc (erases 256 q) (fills s q) (Program q 0 ∷ [])))
    (more (page_runs S q h.0) (more (fill_runs S q h.1 s h.2) (more (seal_runs S q h.1) none)))
all_run S (Marks p) h = more (zero_runs S p h 1 (omega arith)) none

-- A write makes at most 271 steps, a take one.
abbrev pub most : Decision → ℕ
most (Refused k) = 0
most (Puts p s) = 15
most (Erases q s) = 271
most (Marks p) = 1

pub steps_few : (S : Setup) (x : Decision) → Sits S x → length (steps_of (plan x)) ≤ most x
steps_few S (Refused k) h = omega arith
steps_few S (Puts p s) h = simp (length-append, programs_long) (omega (arith, fill_size s h.1))
steps_few S (Erases q s) h = simp (length-append, programs_long, erases_long) (omega (arith, fill_size s h.2))
steps_few S (Marks p) h = omega arith

first_in : (n q : ℕ) → In q (slots_from (suc n) q)
unfolding slots_from
first_in n q = here

in_left : (p : ℕ) {ps : List ℕ} (qs : List ℕ) → In p ps → In p (ps ++ qs)
in_left p qs here = here
in_left p qs (there i) = there (in_left p qs i)

in_right : (p : ℕ) (ps qs : List ℕ) → In p qs → In p (ps ++ qs)
in_right p [] qs i = i
in_right p (q ∷ ps) qs i = there (in_right p ps qs i)

module _ (S : Setup) (x y : ℕ) (hx : Serves S x) (hy : Serves S y) (m : List ℕ) where
  low_in : In (page_word S.pages x) (places (page_word S.pages x) (page_word S.pages y))
  unfolding places
  low_in = in_left (page_word S.pages x) (slots_from 16 (page_word S.pages y)) (first_in 15 (page_word S.pages x))

  high_in : In (page_word S.pages y) (places (page_word S.pages x) (page_word S.pages y))
  unfolding places
  high_in = in_right (page_word S.pages y) (slots_from 16 (page_word S.pages x)) (slots_from 16 (page_word S.pages y)) (first_in 15 (page_word S.pages y))

  pub write_sits : (bytes : List ℕ) → Below 256 bytes → Sits S (write m (page_word S.pages x) (page_word S.pages y) bytes)
  unfolding write
  write_sits bytes are =
      let A : ℕ = page_word S.pages x in
      let B : ℕ = page_word S.pages y in
      let t1 : Bool = ltb (suc (highest m (places A B))) 268435456 && leb 1 (length bytes) in
      cases (Sits S) (t1 && leb (length bytes) 48) (into m A B (new_scan m A B bytes) (first_unused m (places A B))) (Refused BadScan)
      (λ e.
      let e1 : (ltb (suc (highest m (places A B))) 268435456 && leb 1 (length bytes)) ≡ true = and_left t1 (leb (length bytes) 48) e in
      room bytes (record {
        low = ltb-true (suc (highest m (places A B))) 268435456 (and_left (ltb (suc (highest m (places A B))) 268435456) (leb 1 (length bytes)) e1);
        some = leb-true 1 (length bytes) (and_right (ltb (suc (highest m (places A B))) 268435456) (leb 1 (length bytes)) e1);
        most = leb-true (length bytes) 48 (and_right t1 (leb (length bytes) 48) e);
        are = are;
      }) (first_unused m (places A B)) refl)
      (λ e. tt)
    where
      room : (bytes : List ℕ) → Fits (new_scan m (page_word S.pages x) (page_word S.pages y) bytes) → (r : Option ℕ)
          → first_unused m (places (page_word S.pages x) (page_word S.pages y)) ≡ r
          → Sits S (into m (page_word S.pages x) (page_word S.pages y) (new_scan m (page_word S.pages x) (page_word S.pages y) bytes) r)
      room bytes fits (Some p) e =
          (slot_of S x y p hx hy (first_unused_lem m (places (page_word S.pages x) (page_word S.pages y)) p e).0, fits)
      room bytes fits None e =
          cases (Sits S) (none_waits m (slots_from 16 (page_word S.pages x)))
          (Erases (page_word S.pages x) (new_scan m (page_word S.pages x) (page_word S.pages y) bytes))
          (cond (none_waits m (slots_from 16 (page_word S.pages y))) (Erases (page_word S.pages y) (new_scan m (page_word S.pages x) (page_word S.pages y) bytes)) (Refused Full))
          (λ h. (record { page = x; serves = hx; is = refl }, slot_of S x y (page_word S.pages x) hx hy low_in, fits))
          (λ h. cases (Sits S) (none_waits m (slots_from 16 (page_word S.pages y)))
          (Erases (page_word S.pages y) (new_scan m (page_word S.pages x) (page_word S.pages y) bytes)) (Refused Full)
          (λ k. (record { page = y; serves = hy; is = refl }, slot_of S x y (page_word S.pages y) hx hy high_in, fits)) (λ k. tt))

  pub take_sits : Sits S (take_oldest m (page_word S.pages x) (page_word S.pages y))
  unfolding take_oldest queue
  take_sits = go (queue m (places (page_word S.pages x) (page_word S.pages y))) refl
    where
      go : (q : List Entry) → queue m (places (page_word S.pages x) (page_word S.pages y)) ≡ q → Sits S (taking q)
      go [] h = tt
      go (e ∷ l) h =
          slot_of S x y e.place hx hy
          (head_in (λ q. waits (slot_at m q)) (places (page_word S.pages x) (page_word S.pages y)) e l h).0
