-- What single steps, erases and programs do to the words, and to what waits in a slot. Assumes nothing.
use mathlib.Core.Path.{◌≡◌, refl, sym, ap, ap₂, ◌∙◌}
use mathlib.Core.Logic.{◌⊎◌, inl, inr, ⊎_elim, ◌≢◌}
use mathlib.Core.Bool.{true}
use mathlib.Core.List.{List, [], ◌∷◌, ◌++◌}
use Prim.Native.Nat.{ℕ, zero, suc, ◌+◌, ◌<◌, ◌≤◌}
use native.Mathlib.Nat.{mod-eq_of_lt}
use native.Mathlib.Omega.{arith}
use lib.Dec.{ltb, eqb}
use lib.Bits.{bit_and, and_comm, and_mask}
use lib.ListN.{length, get_or, take, length-set}
use lib.Seq.{get_or-set_same, get_or-set_other}
use Rattle.std.specs.Prelude.{Option, None, Some}
use Rattle.model.proofs.Bool.{which}
use borrow.Author.Tests.{ne_eqb, eqb-false, ltb-true, ltb-false}
use Rattle.scan_queue.specs.Payload.{Scan, all, bytes_of, payload_of}
use Rattle.scan_queue.specs.Slots.{blank, words_at, sealed_of, slot_at, waits}
use Rattle.scan_queue.specs.Cuts.{Step, Erase, Program, does, run, erases, programs}
use Rattle.scan_queue.proofs.Order.{In}
use Rattle.scan_queue.proofs.Encoding.{Below}

-- ---- slots, by their words

pub words_same : (n : ℕ) (m l : List ℕ) (p : ℕ) → ((k : ℕ) → p ≤ k → k < p + n → get_or l k 0 ≡ get_or m k 0) → words_at n l p ≡ words_at n m p
unfolding words_at
words_same zero m l p h = refl
words_same (suc n) m l p h =
    ap₂ {C = List ℕ} (λ x xs. x ∷ xs) (h p (omega arith) (omega arith)) (words_same n m l (suc p) (λ k a b. h k (omega arith) (omega arith)))

pub slot_same : (m l : List ℕ) (p : ℕ) → ((k : ℕ) → p ≤ k → k < p + 16 → get_or l k 0 ≡ get_or m k 0) → slot_at l p ≡ slot_at m p
unfolding slot_at
slot_same m l p h =
    rw (
      h p (omega arith) (omega arith),
      h (p + 1) (omega arith) (omega arith),
      words_same 14 m l (p + 2) (λ k a b. h k (omega arith) (omega arith)),
      words_same 16 m l p h,
    )

-- A seal that is not 0: nothing waits.
pub unsealed : (m : List ℕ) (p : ℕ) → get_or m p 0 ≢ 0 → waits (slot_at m p) ≡ None
unfolding slot_at
unsealed m p h =
    rw (ne_eqb (get_or m p 0) 0 h) (⊎_elim (λ e. rw e) (λ e. rw e) (which (all blank (words_at 16 m p))))

pub seal_blank : (m : List ℕ) (p : ℕ) → get_or m p 0 ≡ blank → waits (slot_at m p) ≡ None
seal_blank m p h = unsealed m p (λ e. omega arith)

marked_payload : (w : Option Scan) → waits (sealed_of 0 w) ≡ None
marked_payload None = refl
marked_payload (Some s) = refl

-- A mark of 0: nothing waits.
pub marked : (m : List ℕ) (p : ℕ) → get_or m (p + 1) 0 ≡ 0 → waits (slot_at m p) ≡ None
unfolding slot_at
marked m p h =
    ⊎_elim (λ (e : eqb (get_or m p 0) 0 ≡ true). rw (e, h) (marked_payload (payload_of (bytes_of (words_at 14 m (p + 2)))))) (λ e. unsealed m p (eqb-false (get_or m p 0) 0 e))
    (which (eqb (get_or m p 0) 0))

-- ---- steps

abbrev pub place_of : Step → ℕ
place_of (Erase k) = k
place_of (Program k w) = k

pub does_other : (s : Step) (m : List ℕ) (j : ℕ) → j ≢ place_of s → get_or (does s m) j 0 ≡ get_or m j 0
does_other (Erase k) m j h = get_or-set_other m k j blank 0 h
does_other (Program k w) m j h = get_or-set_other m k j (bit_and (get_or m k 0) w) 0 h

pub does_length : (s : Step) (m : List ℕ) → length (does s m) ≡ length m
does_length (Erase k) m = length-set m k blank
does_length (Program k w) m = length-set m k (bit_and (get_or m k 0) w)

-- A step outside a slot leaves what it is.
pub slot_other : (s : Step) (m : List ℕ) (p : ℕ) → (place_of s < p) ⊎ (p + 16 ≤ place_of s) → slot_at (does s m) p ≡ slot_at m p
slot_other s m p h =
    slot_same m (does s m) p (λ k a b. does_other s m k (λ e. ⊎_elim (λ x. omega arith) (λ x. omega arith) h))

-- ---- runs of steps that change nothing that waits

abbrev pub Still : List ℕ → List ℕ → List Step → Type 0
Still ps m [] = Unit {0}
Still ps m (s ∷ ss) = ((p : ℕ) → In p ps → waits (slot_at (does s m) p) ≡ waits (slot_at m p)) × Still ps (does s m) ss

pub still_take : (ps m : List ℕ) (ss : List Step) → Still ps m ss → (n p : ℕ) → In p ps → waits (slot_at (run (take n ss) m) p) ≡ waits (slot_at m p)
unfolding run
still_take ps m [] h zero p i = refl
still_take ps m [] h (suc n) p i = refl
still_take ps m (s ∷ ss) h zero p i = refl
still_take ps m (s ∷ ss) h (suc n) p i = still_take ps (does s m) ss h.1 n p i ∙ h.0 p i

pub still_all : (ps m : List ℕ) (ss : List Step) → Still ps m ss → (p : ℕ) → In p ps → waits (slot_at (run ss m) p) ≡ waits (slot_at m p)
unfolding run
still_all ps m [] h p i = refl
still_all ps m (s ∷ ss) h p i = still_all ps (does s m) ss h.1 p i ∙ h.0 p i

pub still_append : (ps m : List ℕ) (ss ts : List Step) → Still ps m ss → Still ps (run ss m) ts → Still ps m (ss ++ ts)
unfolding run
still_append ps m [] ts h g = g
still_append ps m (s ∷ ss) ts h g = (h.0, still_append ps (does s m) ss ts h.1 g)

pub run_append : (ss ts : List Step) (m : List ℕ) → run (ss ++ ts) m ≡ run ts (run ss m)
unfolding run
run_append [] ts m = refl
run_append (s ∷ ss) ts m = run_append ss ts (does s m)

pub run_length : (ss : List Step) (m : List ℕ) → length (run ss m) ≡ length m
unfolding run
run_length [] m = refl
run_length (s ∷ ss) m = run_length ss (does s m) ∙ does_length s m

-- ---- a run over n words from word q on leaves the slot at p as it is, or finds and leaves its seal blank

pub data Calm (q n : ℕ) (m : List ℕ) (p : ℕ) : Type 0 where
  below : p + 16 ≤ q → Calm q n m p
  above : q + n ≤ p → Calm q n m p
  passed : p < q → get_or m p 0 ≡ blank → Calm q n m p

calm_step : (s : Step) (q n : ℕ) (m : List ℕ) (p : ℕ) → place_of s ≡ q → Calm q (suc n) m p
    → (waits (slot_at (does s m) p) ≡ waits (slot_at m p)) × Calm (suc q) n (does s m) p
calm_step s q n m p e (below h) = (ap waits (slot_other s m p (inr (omega arith))), below (omega arith))
calm_step s q n m p e (above h) = (ap waits (slot_other s m p (inl (omega arith))), above (omega arith))
calm_step s q n m p e (passed h b) =
    let k : get_or (does s m) p 0 ≡ blank = does_other s m p (λ z. omega arith) ∙ b in
    (seal_blank (does s m) p k ∙ sym (seal_blank m p b), passed (omega arith) k)

-- ---- programs

pub programs_still : (ws : List ℕ) (q : ℕ) (ps m : List ℕ) → ((p : ℕ) → In p ps → Calm q (length ws) m p) → Still ps m (programs ws q)
unfolding programs
programs_still [] q ps m h = tt
programs_still (w ∷ ws) q ps m h = (
  (λ p i. (calm_step (Program q w) q (length ws) m p refl (h p i)).0),
  programs_still ws (suc q) ps (does (Program q w) m) (λ p i. (calm_step (Program q w) q (length ws) m p refl (h p i)).1),
)

pub programs_other : (ws : List ℕ) (q : ℕ) (m : List ℕ) (k : ℕ) → (k < q) ⊎ (q + length ws ≤ k) → get_or (run (programs ws q) m) k 0 ≡ get_or m k 0
unfolding programs run
programs_other [] q m k h = refl
programs_other (w ∷ ws) q m k h =
    programs_other ws (suc q) (does (Program q w) m) k (⊎_elim (λ x. inl (omega arith)) (λ x. inr (omega arith)) h)
    ∙ does_other (Program q w) m k (λ e. ⊎_elim (λ x. omega arith) (λ x. omega arith) h)

and_blank : (w : ℕ) → w < 4294967296 → bit_and blank w ≡ w
and_blank w h = and_comm blank w ∙ and_mask w 32 ∙ mod-eq_of_lt h

-- Words programmed onto ones are there.
pub programs_words : (ws : List ℕ) (q : ℕ) (m : List ℕ) → Below 4294967296 ws → q + length ws ≤ length m
    → ((k : ℕ) → q ≤ k → k < q + length ws → get_or m k 0 ≡ blank) → words_at (length ws) (run (programs ws q) m) q ≡ ws
unfolding programs run words_at
programs_words [] q m h l b = refl
programs_words (w ∷ ws) q m h l b =
    let n : List ℕ = does (Program q w) m in
    let inside : q < length m = omega arith in
    let first : get_or (run (programs ws (suc q)) n) q 0 ≡ w =
    programs_other ws (suc q) n q (inl (omega arith)) ∙ get_or-set_same m q (bit_and (get_or m q 0) w) 0 inside
    ∙ ap (λ (x : ℕ). bit_and x w) (b q (omega arith) (omega arith)) ∙ and_blank w h.0 in
    let long : length n ≡ length m = does_length (Program q w) m in
    ap₂ {C = List ℕ} (λ x xs. x ∷ xs) first
    (programs_words ws (suc q) n h.1 (omega arith)
    (λ k x y. does_other (Program q w) m k (λ e. omega arith) ∙ b k (omega arith) (omega arith)))

-- ---- erases

-- The slot's seal is still to be erased, and nothing waits in it.
abbrev pub Ahead : ℕ → ℕ → List ℕ → ℕ → Type 0
Ahead q n m p = Calm q n m p ⊎ ((q ≤ p) × (waits (slot_at m p) ≡ None))

erase_step : (q n : ℕ) (m : List ℕ) (p : ℕ) → q < length m → Ahead q (suc n) m p
    → (waits (slot_at (does (Erase q) m) p) ≡ waits (slot_at m p)) × Ahead (suc q) n (does (Erase q) m) p
erase_step q n m p l (inl c) =
    let r = calm_step (Erase q) q n m p refl c in
    (r.0, inl r.1)
erase_step q n m p l (inr h) =
    ⊎_elim
    (λ e.
    let lt : q < p = ltb-true q p e in
    let s : waits (slot_at (does (Erase q) m) p) ≡ waits (slot_at m p) = ap waits (slot_other (Erase q) m p (inl lt)) in
    (s, inr (omega arith, s ∙ h.1)))
    (λ e.
    let at : q ≡ p = omega (arith, ltb-false q p e) in
    let k : get_or (does (Erase q) m) p 0 ≡ blank = rw (← at) (get_or-set_same m q blank 0 l) in
    (seal_blank (does (Erase q) m) p k ∙ sym h.1, inl (passed (omega arith) k)))
    (which (ltb q p))

pub erases_still : (n q : ℕ) (ps m : List ℕ) → q + n ≤ length m → ((p : ℕ) → In p ps → Ahead q n m p) → Still ps m (erases n q)
unfolding erases
erases_still zero q ps m l h = tt
erases_still (suc n) q ps m l h =
    let long : length (does (Erase q) m) ≡ length m = does_length (Erase q) m in (
      (λ p i. (erase_step q n m p (omega arith) (h p i)).0),
      erases_still n (suc q) ps (does (Erase q) m) (omega arith) (λ p i. (erase_step q n m p (omega arith) (h p i)).1),
    )

pub erases_other : (n q : ℕ) (m : List ℕ) (k : ℕ) → (k < q) ⊎ (q + n ≤ k) → get_or (run (erases n q) m) k 0 ≡ get_or m k 0
unfolding erases run
erases_other zero q m k h = refl
erases_other (suc n) q m k h =
    erases_other n (suc q) (does (Erase q) m) k (⊎_elim (λ x. inl (omega arith)) (λ x. inr (omega arith)) h)
    ∙ does_other (Erase q) m k (λ e. ⊎_elim (λ x. omega arith) (λ x. omega arith) h)

pub erases_blank : (n q : ℕ) (m : List ℕ) (k : ℕ) → q + n ≤ length m → q ≤ k → k < q + n → get_or (run (erases n q) m) k 0 ≡ blank
unfolding erases run
erases_blank zero q m k l a b = absurd (omega arith)
erases_blank (suc n) q m k l a b =
    let long : length (does (Erase q) m) ≡ length m = does_length (Erase q) m in
    let inside : q < length m = omega arith in
    ⊎_elim
    (λ e. erases_blank n (suc q) (does (Erase q) m) k (omega arith) (ltb-true q k e) (omega arith))
    (λ e.
    let at : q ≡ k = omega (arith, ltb-false q k e) in
    erases_other n (suc q) (does (Erase q) m) k (inl (omega arith)) ∙ rw (← at) (get_or-set_same m q blank 0 inside))
    (which (ltb q k))
