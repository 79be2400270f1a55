-- Cut the power between any two steps of a call: the waiting list is the one before the call or the one after it. Assumes nothing.
use mathlib.Core.Path.{◌≡◌, refl, sym, ap, ◌∙◌, subst}
use mathlib.Core.Logic.{◌⊎◌, inl, inr, ⊎_elim, ◌≢◌}
use mathlib.Core.Bool.{Bool, true, false, cond, ◌&&◌, true≢false}
use mathlib.Core.List.{List, [], ◌∷◌, ◌++◌}
use Prim.Native.Nat.{ℕ, zero, suc, ◌+◌, ◌*◌, ◌<◌, ◌≤◌}
use native.Mathlib.Omega.{arith}
use lib.Dec.{ltb, leb, eqb}
use lib.Bits.{bit_and, and_zero_r}
use lib.ListN.{length, get_or, take}
use lib.Seq.{get_or-set_same}
use Rattle.std.specs.Prelude.{Option, None, Some, is_none}
use Rattle.model.proofs.Bool.{which, and_left, and_right}
use borrow.Author.Tests.{eqb-true, eqb-false, ltb-true, ltb-false, leb-true}
use Rattle.scan_queue.specs.declared.ScanRefusal.TheVariants.{Full, BadScan}
use Rattle.scan_queue.specs.Payload.{Scan, all, bytes_of, words_of, payload_of, written}
use Rattle.scan_queue.specs.Slots.{blank, words_at, Slot, Unused, Dead, Waiting, Taken, Odd, sealed_of, slot_at}
use Rattle.scan_queue.specs.Slots.{waits, serial_of, is_unused, slots_from, places, Pages, Entry, sorted, queue, scans, waiting_list, highest}
use Rattle.scan_queue.specs.Decisions.{Decision, Refused, Erases, first_unused, none_waits, into, new_scan, write, taking, take_oldest}
use Rattle.scan_queue.specs.Cuts.{Step, Program, does, run, erases, plan, Plan, NoSteps, Steps, fills, ScanCall, Write, Take, steps_of, after, cut, when_done, tail, list_after}
use Rattle.scan_queue.proofs.Order.{In, here, there, Spread, none, one, entries_same, one_more, one_less, head_in}
use Rattle.scan_queue.proofs.Encoding.{Below, Fits, bytes_words, words_below, words_length, written_length, written_below, payload_written}
use Rattle.scan_queue.proofs.Words.{words_same, seal_blank, marked, does_other, slot_other, Still, still_take, still_all, still_append, run_append}
use Rattle.scan_queue.proofs.Words.{run_length, below, above, passed, programs_still, programs_other, programs_words, Ahead, erases_still, erases_blank}

-- ---- places

in_nil : (p : ℕ) → In p [] → ⊥
in_nil p i = elim i [ ]

pub in_cons : (p q : ℕ) (ps : List ℕ) → In p (q ∷ ps) → (p ≡ q) ⊎ In p ps
in_cons p q ps here = inl refl
in_cons p q ps (there i) = inr i

pub in_append : (p : ℕ) (ps qs : List ℕ) → In p (ps ++ qs) → In p ps ⊎ In p qs
in_append p [] qs i = inr i
in_append p (q ∷ ps) qs here = inl here
in_append p (q ∷ ps) qs (there i) = ⊎_elim (λ j. inl (there j)) (λ j. inr j) (in_append p ps qs i)

in_left : (p : ℕ) {ps : List ℕ} (qs : List ℕ) → In p ps → In p (ps ++ qs)
in_left p qs here = here
in_left p qs (there i) = there (in_left p qs i)

in_right : (p : ℕ) (ps qs : List ℕ) → In p qs → In p (ps ++ qs)
in_right p [] qs i = i
in_right p (q ∷ ps) qs i = there (in_right p ps qs i)

slots_in : (n q p : ℕ) → In p (slots_from n q) → (q ≤ p) × (p + 16 ≤ q + 16 * n)
unfolding slots_from
slots_in zero q p i = absurd (in_nil p i)
slots_in (suc n) q p i =
    ⊎_elim (λ (e : p ≡ q). (omega arith, omega arith))
    (λ j. let h : (q + 16 ≤ p) × (p + 16 ≤ q + 16 + 16 * n) = slots_in n (q + 16) p j in (omega arith, omega arith))
    (in_cons p q (slots_from n (q + 16)) i)

slots_spread : (n q : ℕ) → Spread (slots_from n q)
unfolding slots_from
slots_spread zero q = none
slots_spread (suc n) q = one (λ p i. (slots_in n (q + 16) p i).0) (slots_spread n (q + 16))

spread_append : (ps qs : List ℕ) → Spread ps → Spread qs → ((p q : ℕ) → In p ps → In q qs → p + 16 ≤ q) → Spread (ps ++ qs)
spread_append ps qs none t h = t
spread_append ps qs (one {p = p} {ps = rs} far s) t h =
    one (λ q i. ⊎_elim (λ j. far q j) (λ j. h p q here j) (in_append q rs qs i)) (spread_append rs qs s t (λ q r i j. h q r (there i) j))

spread_places : (m : List ℕ) (a b : ℕ) → Pages m a b → Spread (places a b)
unfolding places
spread_places m a b g =
    spread_append (slots_from 16 a) (slots_from 16 b) (slots_spread 16 a) (slots_spread 16 b)
    (λ p q i j. let x = slots_in 16 a p i in let y = slots_in 16 b q j in omega arith)

-- Two of them lie apart.
spread_apart : (p q : ℕ) {ps : List ℕ} → Spread ps → In p ps → In q ps → q ≢ p → (p + 16 ≤ q) ⊎ (q + 16 ≤ p)
spread_apart p q none i j ne = absurd (in_nil p i)
spread_apart p q (one {p = r} {ps = rs} far s) i j ne =
    ⊎_elim
    (λ (e : p ≡ r). ⊎_elim (λ (f : q ≡ r). absurd (ne (f ∙ sym e))) (λ f. inl (rw e (far q f))) (in_cons q r rs j))
    (λ e. ⊎_elim (λ (f : q ≡ r). inr (rw f (far p e))) (λ f. spread_apart p q s e f ne) (in_cons q r rs j))
    (in_cons p r rs i)

pub places_inside : (m : List ℕ) (a b p : ℕ) → Pages m a b → In p (places a b) → p + 16 ≤ length m
unfolding places
places_inside m a b p g i =
    ⊎_elim (λ j. let x = slots_in 16 a p j in omega arith) (λ j. let x = slots_in 16 b p j in omega arith)
    (in_append p (slots_from 16 a) (slots_from 16 b) i)

-- ---- what waits decides the list

queue_same : (ps m l : List ℕ) → ((p : ℕ) → In p ps → waits (slot_at l p) ≡ waits (slot_at m p)) → queue l ps ≡ queue m ps
unfolding queue
queue_same ps m l h = ap sorted (entries_same (λ p. waits (slot_at m p)) (λ p. waits (slot_at l p)) ps h)

list_same : (ps m l : List ℕ) → ((p : ℕ) → In p ps → waits (slot_at l p) ≡ waits (slot_at m p)) → waiting_list l ps ≡ waiting_list m ps
unfolding waiting_list
list_same ps m l h = ap scans (queue_same ps m l h)

scans_append : (l k : List Entry) → scans (l ++ k) ≡ scans l ++ scans k
unfolding scans
scans_append [] k = refl
scans_append (e ∷ l) k = ap (λ (r : List Scan). e.scan ∷ r) (scans_append l k)

-- ---- a scan put into a blank slot

module _ (ps m : List ℕ) (s : Scan) (p : ℕ) (sp : Spread ps) (i : In p ps) (long : p + 16 ≤ length m)
    (ones : (k : ℕ) → p ≤ k → k < p + 16 → get_or m k 0 ≡ blank) (fits : Fits s) where
  ws_length : length (words_of (written s)) ≡ 14
  ws_length = words_length (written s) ∙ rw (written_length s fits) refl

  put_still : Still ps m (fills s p)
  put_still =
      programs_still (words_of (written s)) (p + 2) ps m
      (λ q j. ⊎_elim
      (λ (e : eqb q p ≡ true). let f : q ≡ p = eqb-true q p e in passed (omega arith) (rw f (ones p (omega arith) (omega arith))))
      (λ (e : eqb q p ≡ false). ⊎_elim (λ (x : p + 16 ≤ q). above (rw ws_length (omega arith))) (λ (x : q + 16 ≤ p). below (omega arith))
      (spread_apart p q sp i j (eqb-false q p e)))
      (which (eqb q p)))

  filled_in : List ℕ
  filled_in = run (fills s p) m

  sealed_in : List ℕ
  sealed_in = does (Program p 0) (run (fills s p) m)

  fill_length : length (run (fills s p) m) ≡ length m
  fill_length = run_length (fills s p) m

  seal_is : get_or sealed_in p 0 ≡ 0
  unfolding sealed_in
  seal_is =
      let l : p < length (run (fills s p) m) = rw fill_length (omega arith) in
      get_or-set_same (run (fills s p) m) p (bit_and (get_or (run (fills s p) m) p 0) 0) 0 l ∙ and_zero_r (get_or (run (fills s p) m) p 0)

  mark_is : get_or sealed_in (p + 1) 0 ≡ blank
  unfolding sealed_in
  mark_is =
      does_other (Program p 0) (run (fills s p) m) (p + 1) (λ e. omega arith)
      ∙ programs_other (words_of (written s)) (p + 2) m (p + 1) (inl (omega arith)) ∙ ones (p + 1) (omega arith) (omega arith)

  words_are : words_at 14 sealed_in (p + 2) ≡ words_of (written s)
  unfolding sealed_in
  words_are =
      words_same 14 (run (fills s p) m) (does (Program p 0) (run (fills s p) m)) (p + 2)
      (λ k a b. does_other (Program p 0) (run (fills s p) m) k (λ e. omega arith))
      ∙ subst (λ (n : ℕ). words_at n (run (fills s p) m) (p + 2) ≡ words_of (written s)) ws_length
      (programs_words (words_of (written s)) (p + 2) m (words_below (written s) (written_below s fits)) (rw ws_length (omega arith))
      (λ k a b. ones k (omega arith) (let c : k < p + 2 + 14 = rw ws_length at b in omega arith)))

  put_waits : waits (slot_at sealed_in p) ≡ Some s
  unfolding slot_at
  put_waits =
      rw (seal_is, mark_is, words_are, bytes_words (written s) (rw (written_length s fits) refl) (written_below s fits), payload_written s fits)

  put_other : (q : ℕ) → In q ps → q ≢ p → waits (slot_at sealed_in q) ≡ waits (slot_at m q)
  unfolding sealed_in
  put_other q j ne =
      ap waits (slot_other (Program p 0) (run (fills s p) m) q
      (⊎_elim (λ (x : p + 16 ≤ q). inl (omega arith)) (λ (x : q + 16 ≤ p). inr (omega arith)) (spread_apart p q sp i j ne)))
      ∙ still_all ps m (fills s p) put_still q j

  put_adds : ((q : ℕ) → In q ps → (t : Scan) → waits (slot_at m q) ≡ Some t → t.serial < s.serial)
      → waiting_list (does (Program p 0) (run (fills s p) m)) ps ≡ waiting_list m ps ++ (s ∷ [])
  unfolding waiting_list queue sealed_in scans
  put_adds low =
      ap scans (one_more (λ q. waits (slot_at m q)) (λ q. waits (slot_at sealed_in q)) p s i sp put_other
      (seal_blank m p (ones p (omega arith) (omega arith))) put_waits low)
      ∙ scans_append (queue m ps) (record { place = p; scan = s } ∷ [])

-- ---- what the tests of a write say

all_words : (n : ℕ) (m : List ℕ) (p : ℕ) → all blank (words_at n m p) ≡ true → (k : ℕ) → p ≤ k → k < p + n → get_or m k 0 ≡ blank
unfolding all words_at
all_words zero m p h k a b = absurd (omega arith)
all_words (suc n) m p h k a b =
    ⊎_elim
    (λ (e : ltb p k ≡ true). all_words n m (suc p) (and_right (eqb (get_or m p 0) blank) (all blank (words_at n m (suc p))) h) k (ltb-true p k e) (omega arith))
    (λ (e : ltb p k ≡ false).
    let at : k ≡ p = omega (arith, ltb-false p k e) in
    rw at (eqb-true (get_or m p 0) blank (and_left (eqb (get_or m p 0) blank) (all blank (words_at n m (suc p))) h)))
    (which (ltb p k))

sealed_used : (mark : ℕ) (w : Option Scan) → is_unused (sealed_of mark w) ≡ false
sealed_used mark None = refl
sealed_used mark (Some s) =
    ⊎_elim (λ (e : eqb mark blank ≡ true). rw e refl)
    (λ (e : eqb mark blank ≡ false). rw e (⊎_elim (λ f. rw f refl) (λ f. rw f refl) (which (eqb mark 0)))) (which (eqb mark blank))

-- An unused slot is blank, word by word.
unused_blank : (m : List ℕ) (p : ℕ) → is_unused (slot_at m p) ≡ true → (k : ℕ) → p ≤ k → k < p + 16 → get_or m k 0 ≡ blank
unfolding slot_at
unused_blank m p h =
    ⊎_elim
    (λ (e : eqb (get_or m p 0) 0 ≡ true).
    let w : Option Scan = payload_of (bytes_of (words_at 14 m (p + 2))) in
    let u : is_unused (sealed_of (get_or m (p + 1) 0) w) ≡ true = rw e at h in
    absurd (true≢false (sym u ∙ sealed_used (get_or m (p + 1) 0) w)))
    (λ (e : eqb (get_or m p 0) 0 ≡ false).
    let u : is_unused (cond (all blank (words_at 16 m p)) Unused Dead) ≡ true = rw e at h in
    ⊎_elim (λ (f : all blank (words_at 16 m p) ≡ true). all_words 16 m p f)
    (λ (f : all blank (words_at 16 m p) ≡ false). let v : is_unused Dead ≡ true = rw f at u in absurd (true≢false (sym v)))
    (which (all blank (words_at 16 m p))))
    (which (eqb (get_or m p 0) 0))

pub first_unused_lem : (m ps : List ℕ) (p : ℕ) → first_unused m ps ≡ Some p → In p ps × (is_unused (slot_at m p) ≡ true)
unfolding first_unused
first_unused_lem m [] p h = let z : None ≡ Some p = h in let y : ◌≡◌ {A = ℕ} 0 1 = cc in absurd (omega arith)
first_unused_lem m (q ∷ ps) p h =
    ⊎_elim
    (λ (e : is_unused (slot_at m q) ≡ true).
    let z : Some q ≡ Some p = rw e at h in
    let y : p ≡ q = cc in
    (rw y here, rw y e))
    (λ (e : is_unused (slot_at m q) ≡ false).
    let r = first_unused_lem m ps p (rw e at h) in
    (there r.0, r.1))
    (which (is_unused (slot_at m q)))

nothing_is : (w : Option Scan) → is_none w ≡ true → w ≡ None
nothing_is None h = refl
nothing_is (Some s) h = absurd (true≢false (sym h))

none_waits_lem : (m : List ℕ) (p : ℕ) {ps : List ℕ} → In p ps → none_waits m ps ≡ true → waits (slot_at m p) ≡ None
unfolding none_waits
none_waits_lem m p (here {ps = ps}) h = nothing_is (waits (slot_at m p)) (and_left (is_none (waits (slot_at m p))) (none_waits m ps) h)
none_waits_lem m p (there {q = q} {ps = ps} i) h = none_waits_lem m p i (and_right (is_none (waits (slot_at m q))) (none_waits m ps) h)

waiting_serial : (x : Slot) (t : Scan) → waits x ≡ Some t → t.serial ≡ serial_of x
waiting_serial Unused t h = let y : ◌≡◌ {A = ℕ} 0 1 = cc in absurd (omega arith)
waiting_serial Dead t h = let y : ◌≡◌ {A = ℕ} 0 1 = cc in absurd (omega arith)
waiting_serial (Waiting s) t h = let y : t ≡ s = cc in ap (λ (x : Scan). x.serial) y
waiting_serial (Taken s) t h = let y : ◌≡◌ {A = ℕ} 0 1 = cc in absurd (omega arith)
waiting_serial (Odd s) t h = let y : ◌≡◌ {A = ℕ} 0 1 = cc in absurd (omega arith)

highest_le : (m : List ℕ) (p : ℕ) {ps : List ℕ} → In p ps → serial_of (slot_at m p) ≤ highest m ps
unfolding highest
highest_le m p here = omega arith
highest_le m p (there i) = omega (arith, highest_le m p i)

new_above : (m ps : List ℕ) (q : ℕ) → In q ps → (t : Scan) → waits (slot_at m q) ≡ Some t → t.serial < suc (highest m ps)
new_above m ps q i t h = omega (arith, waiting_serial (slot_at m q) t h, highest_le m q i)

-- ---- a call: all but its last step change nothing that waits

pub record Quiet (m ps : List ℕ) (ss : List Step) (s : Step) (list : List Scan) : Type 0 where
  pub still : Still ps m ss
  pub done : waiting_list (does s (run ss m)) ps ≡ list

module _ (m : List ℕ) (a b : ℕ) (g : Pages m a b) (s : Scan) (fits : Fits s)
    (above_all : (q : ℕ) → In q (places a b) → (t : Scan) → waits (slot_at m q) ≡ Some t → t.serial < s.serial) where
  quiet_put : (p : ℕ) → first_unused m (places a b) ≡ Some p
      → Quiet m (places a b) (fills s p) (Program p 0) (waiting_list m (places a b) ++ (s ∷ []))
  quiet_put p h =
      let sp : Spread (places a b) = spread_places m a b g in
      let r = first_unused_lem m (places a b) p h in
      let l : p + 16 ≤ length m = places_inside m a b p g r.0 in
      let ones : (k : ℕ) → p ≤ k → k < p + 16 → get_or m k 0 ≡ blank = unused_blank m p r.1 in
      record {
        still = put_still (places a b) m s p sp r.0 l ones fits;
        done = put_adds (places a b) m s p sp r.0 l ones fits above_all;
      }

  -- Page q is erased: nothing waits in its slots, and the other page's lie outside.
  quiet_erase : (q : ℕ) → In q (places a b) → q + 256 ≤ length m
      → ((p : ℕ) → In p (places a b) → Ahead q 256 m p)
      → Quiet m (places a b) (erases 256 q ++ fills s q) (Program q 0) (waiting_list m (places a b) ++ (s ∷ []))
  quiet_erase q i l h =
      let ps : List ℕ = places a b in
      let sp : Spread (places a b) = spread_places m a b g in
      let n : List ℕ = run (erases 256 q) m in
      let long : length (run (erases 256 q) m) ≡ length m = run_length (erases 256 q) m in
      let e : Still (places a b) m (erases 256 q) = erases_still 256 q (places a b) m l h in
      let kept : (p : ℕ) → In p (places a b) → waits (slot_at (run (erases 256 q) m) p) ≡ waits (slot_at m p) = still_all (places a b) m (erases 256 q) e in
      let l' : q + 16 ≤ length (run (erases 256 q) m) = omega arith in
      let ones : (k : ℕ) → q ≤ k → k < q + 16 → get_or (run (erases 256 q) m) k 0 ≡ blank = λ k x y. erases_blank 256 q m k l x (omega arith) in
      record {
        still = still_append (places a b) m (erases 256 q) (fills s q) e (put_still (places a b) n s q sp i l' ones fits);
        done =
            ap (λ (x : List ℕ). waiting_list (does (Program q 0) x) (places a b)) (run_append (erases 256 q) (fills s q) m)
            ∙ put_adds (places a b) n s q sp i l' ones fits (λ p j t w. above_all p j t (sym (kept p j) ∙ w))
            ∙ ap (λ (x : List Scan). x ++ (s ∷ [])) (list_same (places a b) m n kept);
      }

  quiet_lower : none_waits m (slots_from 16 a) ≡ true
      → Quiet m (places a b) (erases 256 a ++ fills s a) (Program a 0) (waiting_list m (places a b) ++ (s ∷ []))
  unfolding places slots_from
  quiet_lower h =
      quiet_erase a here (omega arith)
      (λ p i. ⊎_elim (λ j. inr ((slots_in 16 a p j).0, none_waits_lem m p j h)) (λ j. inl (above (let x = slots_in 16 b p j in omega arith)))
      (in_append p (slots_from 16 a) (slots_from 16 b) i))

  quiet_higher : none_waits m (slots_from 16 b) ≡ true
      → Quiet m (places a b) (erases 256 b ++ fills s b) (Program b 0) (waiting_list m (places a b) ++ (s ∷ []))
  unfolding places slots_from
  quiet_higher h =
      quiet_erase b (in_right b (slots_from 16 a) (slots_from 16 b) here) g.inside
      (λ p i. ⊎_elim (λ j. inl (below (let x = slots_in 16 a p j in omega arith))) (λ j. inr ((slots_in 16 b p j).0, none_waits_lem m p j h))
      (in_append p (slots_from 16 a) (slots_from 16 b) i))

-- ---- a write

-- A plan that ends with this list: all but its last step change nothing that waits.
abbrev Shown : List ℕ → List ℕ → List Scan → Plan → Type 0
Shown m ps list NoSteps = Unit {0}
Shown m ps list (Steps ss s) = Quiet m ps ss s list

-- A fact of both ways of a test.
pub cases : {A : Type 0} (P : A → Type 0) (t : Bool) (x y : A) → (t ≡ true → P x) → (t ≡ false → P y) → P (cond t x y)
cases P true x y f g = f refl
cases P false x y f g = g refl

-- The bytes of a call are bytes.
abbrev pub OfBytes : ScanCall → Type 0
OfBytes (Write bytes) = Below 256 bytes
OfBytes Take = Unit {0}

write_shown : (m : List ℕ) (a b : ℕ) (bytes : List ℕ) → Pages m a b → Below 256 bytes
    → Shown m (places a b) (waiting_list m (places a b) ++ (new_scan m a b bytes ∷ [])) (plan (write m a b bytes))
unfolding write
write_shown m a b bytes g are =
    let list : List Scan = waiting_list m (places a b) ++ (new_scan m a b bytes ∷ []) in
    let serial : ℕ = suc (highest m (places a b)) in
    let t1 : Bool = ltb serial 268435456 && leb 1 (length bytes) in
    cases (λ (d : Decision). Shown m (places a b) list (plan d)) (t1 && leb (length bytes) 48) (into m a b (new_scan m a b bytes) (first_unused m (places a b))) (Refused BadScan)
    (λ e.
    let e1 : (ltb serial 268435456 && leb 1 (length bytes)) ≡ true = and_left t1 (leb (length bytes) 48) e in
    let fits : Fits (new_scan m a b bytes) = record {
      low = ltb-true serial 268435456 (and_left (ltb serial 268435456) (leb 1 (length bytes)) e1);
      some = leb-true 1 (length bytes) (and_right (ltb serial 268435456) (leb 1 (length bytes)) e1);
      most = leb-true (length bytes) 48 (and_right t1 (leb (length bytes) 48) e);
      are = are;
    } in
    room fits (first_unused m (places a b)) refl)
    (λ e. tt)
  where
    room : Fits (new_scan m a b bytes) → (r : Option ℕ) → first_unused m (places a b) ≡ r
        → Shown m (places a b) (waiting_list m (places a b) ++ (new_scan m a b bytes ∷ [])) (plan (into m a b (new_scan m a b bytes) r))
    room fits (Some p) e = quiet_put m a b g (new_scan m a b bytes) fits (new_above m (places a b)) p e
    room fits None e =
        cases (λ (d : Decision). Shown m (places a b) (waiting_list m (places a b) ++ (new_scan m a b bytes ∷ [])) (plan d)) (none_waits m (slots_from 16 a))
        (Erases a (new_scan m a b bytes)) (cond (none_waits m (slots_from 16 b)) (Erases b (new_scan m a b bytes)) (Refused Full))
        (λ h. quiet_lower m a b g (new_scan m a b bytes) fits (new_above m (places a b)) h)
        (λ h. cases (λ (d : Decision). Shown m (places a b) (waiting_list m (places a b) ++ (new_scan m a b bytes ∷ [])) (plan d)) (none_waits m (slots_from 16 b))
        (Erases b (new_scan m a b bytes)) (Refused Full)
        (λ k. quiet_higher m a b g (new_scan m a b bytes) fits (new_above m (places a b)) k) (λ k. tt))

-- ---- a take

take_shown : (m : List ℕ) (a b : ℕ) → Pages m a b → Shown m (places a b) (tail (waiting_list m (places a b))) (plan (take_oldest m a b))
unfolding take_oldest waiting_list queue scans run
take_shown m a b g = go (queue m (places a b)) refl
  where
    go : (q : List Entry) → queue m (places a b) ≡ q → Shown m (places a b) (tail (scans q)) (plan (taking q))
    go [] h = tt
    go (e ∷ l) h =
        let p : ℕ = e.place in
        let sp : Spread (places a b) = spread_places m a b g in
        let i : In e.place (places a b) = (head_in (λ q. waits (slot_at m q)) (places a b) e l h).0 in
        let inside : e.place + 16 ≤ length m = places_inside m a b e.place g i in
        let s : Step = Program (e.place + 1) 0 in
        let zero_mark : get_or (does s m) (p + 1) 0 ≡ 0 = get_or-set_same m (p + 1) (bit_and (get_or m (p + 1) 0) 0) 0 (omega arith) ∙ and_zero_r (get_or m (p + 1) 0) in
        record {
          still = tt;
          done = ap scans (one_less (λ q. waits (slot_at m q)) (λ q. waits (slot_at (does s m) q)) e l sp h
              (λ q j ne. ap waits (slot_other s m q
              (⊎_elim (λ (x : e.place + 16 ≤ q). inl (omega arith)) (λ (x : q + 16 ≤ e.place). inr (omega arith)) (spread_apart e.place q sp i j ne))))
              (marked (does s m) e.place zero_mark));
        }

-- ---- the promise

take_snoc : (ss : List Step) (s : Step) (n : ℕ) → (take n (ss ++ (s ∷ [])) ≡ take n ss) ⊎ (take n (ss ++ (s ∷ [])) ≡ ss ++ (s ∷ []))
take_snoc [] s zero = inl refl
take_snoc [] s (suc zero) = inr refl
take_snoc [] s (suc (suc n)) = inr refl
take_snoc (t ∷ ss) s zero = inl refl
take_snoc (t ∷ ss) s (suc n) =
    ⊎_elim (λ e. inl (ap (λ (l : List Step). t ∷ l) e)) (λ e. inr (ap (λ (l : List Step). t ∷ l) e)) (take_snoc ss s n)

plan_cut : (m ps : List ℕ) (list : List Scan) (x : Plan) → Shown m ps list x → (n : ℕ)
    → (waiting_list (run (take n (steps_of x)) m) ps ≡ waiting_list m ps) ⊎ (waiting_list (run (take n (steps_of x)) m) ps ≡ waiting_list (run (steps_of x) m) ps)
unfolding run
plan_cut m ps list NoSteps h zero = inl refl
plan_cut m ps list NoSteps h (suc n) = inl refl
plan_cut m ps list (Steps ss s) h n =
    ⊎_elim
    (λ (e : take n (ss ++ (s ∷ [])) ≡ take n ss).
    inl (ap (λ (l : List Step). waiting_list (run l m) ps) e ∙ list_same ps m (run (take n ss) m) (still_take ps m ss h.still n)))
    (λ (e : take n (ss ++ (s ∷ [])) ≡ ss ++ (s ∷ [])). inr (ap (λ (l : List Step). waiting_list (run l m) ps) e))
    (take_snoc ss s n)

plan_done : (m ps : List ℕ) (list : List Scan) (x : Plan) → Shown m ps list x
    → waiting_list (run (steps_of x) m) ps ≡ when_done x (waiting_list m ps) list
unfolding run
plan_done m ps list NoSteps h = refl
plan_done m ps list (Steps ss s) h = ap (λ (l : List ℕ). waiting_list l ps) (run_append ss (s ∷ []) m) ∙ h.done

tail_done : (m ps : List ℕ) (q : List Entry) → queue m ps ≡ q → when_done (plan (taking q)) (waiting_list m ps) (tail (waiting_list m ps)) ≡ tail (waiting_list m ps)
unfolding waiting_list scans
tail_done m ps [] h = rw h
tail_done m ps (e ∷ l) h = refl

-- A call whose every step is done leaves the list that it should.
pub call_done : (m : List ℕ) (a b : ℕ) (c : ScanCall) → Pages m a b → OfBytes c → waiting_list (after m a b c) (places a b) ≡ list_after m a b c
unfolding after take_oldest
call_done m a b (Write bytes) g h =
    plan_done m (places a b) (waiting_list m (places a b) ++ (new_scan m a b bytes ∷ [])) (plan (write m a b bytes)) (write_shown m a b bytes g h)
call_done m a b Take g h =
    plan_done m (places a b) (tail (waiting_list m (places a b))) (plan (take_oldest m a b)) (take_shown m a b g)
    ∙ tail_done m (places a b) (queue m (places a b)) refl

-- Whatever the image holds, and wherever the power is cut, the waiting list is the one before the call or the one after it.
pub power_cut : (m : List ℕ) (a b : ℕ) (c : ScanCall) (n : ℕ) → Pages m a b → OfBytes c
    → (waiting_list (cut n m a b c) (places a b) ≡ waiting_list m (places a b))
    ⊎ (waiting_list (cut n m a b c) (places a b) ≡ waiting_list (after m a b c) (places a b))
unfolding after cut
power_cut m a b (Write bytes) n g h =
    plan_cut m (places a b) (waiting_list m (places a b) ++ (new_scan m a b bytes ∷ [])) (plan (write m a b bytes)) (write_shown m a b bytes g h) n
power_cut m a b Take n g h = plan_cut m (places a b) (tail (waiting_list m (places a b))) (plan (take_oldest m a b)) (take_shown m a b g) n
