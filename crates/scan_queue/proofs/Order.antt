-- The waiting list as a function of what waits at each place: one scan more at the end, or the oldest gone. Assumes nothing.
use mathlib.Core.Path.{◌≡◌, refl, sym, ap, ap₂, ◌∙◌, subst}
use mathlib.Core.Logic.{◌⊎◌, inl, inr, ⊎_elim, ◌≢◌}
use mathlib.Core.List.{List, [], ◌∷◌, ◌++◌}
use Prim.Native.Nat.{ℕ, ◌+◌, ◌<◌, ◌≤◌}
use native.Mathlib.Omega.{arith}
use lib.Dec.{leb}
use Rattle.std.specs.Prelude.{Option, None, Some}
use Rattle.model.proofs.Bool.{which}
use borrow.Author.Tests.{le-leb, lt-leb}
use Rattle.scan_queue.specs.Payload.{Scan}
use Rattle.scan_queue.specs.Slots.{Entry, cons, entries, insert, sorted}

-- p is one of these places.
pub data In (p : ℕ) : List ℕ → Type 0 where
  here : {ps : List ℕ} → In p (p ∷ ps)
  there : {q : ℕ} {ps : List ℕ} → In p ps → In p (q ∷ ps)

-- Places in ascending order, 16 words or more apart.
pub data Spread : List ℕ → Type 0 where
  none : Spread []
  one : {p : ℕ} {ps : List ℕ} → ((q : ℕ) → In q ps → p + 16 ≤ q) → Spread ps → Spread (p ∷ ps)

abbrev pub serial : Entry → ℕ
serial e = e.scan.serial

-- ---- what waits decides the entries

pub entries_same : (f g : ℕ → Option Scan) (ps : List ℕ) → ((p : ℕ) → In p ps → g p ≡ f p) → entries g ps ≡ entries f ps
unfolding entries
entries_same f g [] h = refl
entries_same f g (p ∷ ps) h = ap₂ (λ w l. cons p w l) (h p here) (entries_same f g ps (λ q i. h q (there i)))

-- ---- a fact of every entry

abbrev All : (Entry → Type 0) → List Entry → Type 0
All P [] = Unit {0}
All P (e ∷ l) = P e × All P l

all_insert : (P : Entry → Type 0) (x : Entry) (l : List Entry) → P x → All P l → All P (insert x l)
unfolding insert
all_insert P x [] h k = (h, tt)
all_insert P x (y ∷ l) h k =
    ⊎_elim (λ e. rw e (h, k)) (λ e. rw e (k.0, all_insert P x l h k.1)) (which (leb (serial x) (serial y)))

all_cons : (P : Entry → Type 0) (p : ℕ) (w : Option Scan) (l : List Entry) → ((s : Scan) → w ≡ Some s → P (record { place = p; scan = s }))
    → All P (sorted l) → All P (sorted (cons p w l))
unfolding sorted
all_cons P p None l h k = k
all_cons P p (Some s) l h k = all_insert P (record { place = p; scan = s }) (sorted l) (h s refl) k

-- A fact of what waits at every place is a fact of every entry.
pub all_entries : (P : Entry → Type 0) (f : ℕ → Option Scan) (ps : List ℕ)
    → ((p : ℕ) → In p ps → (s : Scan) → f p ≡ Some s → P (record { place = p; scan = s })) → All P (sorted (entries f ps))
unfolding sorted entries
all_entries P f [] h = tt
all_entries P f (p ∷ ps) h = all_cons P p (f p) (entries f ps) (h p here) (all_entries P f ps (λ q i. h q (there i)))

-- ---- one more, whose serial is above all

insert_last : (x : Entry) (l : List Entry) → All (λ y. serial y < serial x) l → insert x l ≡ l ++ (x ∷ [])
unfolding insert
insert_last x [] h = refl
insert_last x (y ∷ l) h = rw (lt-leb (serial x) (serial y) h.0) (ap (λ (r : List Entry). y ∷ r) (insert_last x l h.1))

insert_before : (x n : Entry) (l : List Entry) → serial x < serial n → insert x (l ++ (n ∷ [])) ≡ insert x l ++ (n ∷ [])
unfolding insert
insert_before x n [] h =
    let le : serial x ≤ serial n = omega arith in
    rw (le-leb (serial x) (serial n) le)
insert_before x n (y ∷ l) h =
    ⊎_elim (λ e. rw e) (λ e. rw e (ap (λ (r : List Entry). y ∷ r) (insert_before x n l h))) (which (leb (serial x) (serial y)))

cons_last : (p : ℕ) (w : Option Scan) (l k : List Entry) (n : Entry) → ((s : Scan) → w ≡ Some s → s.serial < serial n)
    → sorted l ≡ sorted k ++ (n ∷ []) → sorted (cons p w l) ≡ sorted (cons p w k) ++ (n ∷ [])
unfolding sorted
cons_last p None l k n h e = e
cons_last p (Some s) l k n h e = rw e (insert_before (record { place = p; scan = s }) n (sorted k) (h s refl))

pub one_more : (f g : ℕ → Option Scan) (p : ℕ) (s : Scan) {ps : List ℕ} → In p ps → Spread ps
    → ((q : ℕ) → In q ps → q ≢ p → g q ≡ f q) → f p ≡ None → g p ≡ Some s
    → ((q : ℕ) → In q ps → (t : Scan) → f q ≡ Some t → t.serial < s.serial)
    → sorted (entries g ps) ≡ sorted (entries f ps) ++ (record { place = p; scan = s } ∷ [])
unfolding sorted entries
one_more f g p s (here {ps = ps}) (one far sp) same empty full low =
    rw (empty, full, entries_same f g ps (λ q i. same q (there i) (λ e. let h = far q i in omega arith)))
    (insert_last (record { place = p; scan = s }) (sorted (entries f ps))
    (all_entries (λ e. serial e < s.serial) f ps (λ q i. low q (there i))))
one_more f g p s (there {q = q} {ps = ps} i) (one far sp) same empty full low =
    rw (same q here (λ e. let h = far p i in omega arith))
    (cons_last q (f q) (entries g ps) (entries f ps) (record { place = p; scan = s }) (low q here)
    (one_more f g p s i sp (λ r j. same r (there j)) empty full (λ r j. low r (there j))))

-- ---- the oldest gone

-- The head of the list waits at one of the places.
pub head_in : (f : ℕ → Option Scan) (ps : List ℕ) (e : Entry) (l : List Entry) → sorted (entries f ps) ≡ e ∷ l
    → In e.place ps × (f e.place ≡ Some e.scan)
head_in f ps e l h = (subst (All (λ x. In x.place ps × (f x.place ≡ Some x.scan))) h
    (all_entries (λ x. In x.place ps × (f x.place ≡ Some x.scan)) f ps (λ p i s w. (i, w)))).0

-- The head after one more is inserted: the new one, or the head before.
first : (x : Entry) (l k : List Entry) (e : Entry) → insert x l ≡ e ∷ k
    → ((e ≡ x) × (k ≡ l)) ⊎ ((r : List Entry) × (l ≡ e ∷ r) × (k ≡ insert x r))
unfolding insert
first x [] k e h = inl (cc, cc)
first x (y ∷ l) k e h =
    ⊎_elim (λ t. let g : x ∷ y ∷ l ≡ e ∷ k = rw t at h in inl (cc, cc))
    (λ t. let g : y ∷ insert x l ≡ e ∷ k = rw t at h in inr (l, cc, cc))
    (which (leb (serial x) (serial y)))

pub one_less : (f g : ℕ → Option Scan) (e : Entry) (l : List Entry) {ps : List ℕ} → Spread ps → sorted (entries f ps) ≡ e ∷ l
    → ((q : ℕ) → In q ps → q ≢ e.place → g q ≡ f q) → g e.place ≡ None → sorted (entries g ps) ≡ l
unfolding sorted entries
one_less f g e l none h same gone = let z : ◌≡◌ {A = List Entry} [] (e ∷ l) = h in cc
one_less f g e l (one {p = p} {ps = ps} far sp) h same gone =
    go (f p) refl h (λ r k. one_less f g e r sp k (λ q i. same q (there i)) gone)
  where
    go : (w : Option Scan) → f p ≡ w → sorted (cons p w (entries f ps)) ≡ e ∷ l
        → ((r : List Entry) → sorted (entries f ps) ≡ e ∷ r → sorted (entries g ps) ≡ r) → sorted (cons p (g p) (entries g ps)) ≡ l
    go None w k rec =
        let i : In e.place ps = (head_in f ps e l k).0 in
        rw (same p here (λ q. let d = far e.place i in omega arith), w) (rec l k)
    go (Some s) w k rec =
        let x : Entry = record { place = p; scan = s } in
        ⊎_elim
        (λ t.
        let at : p ≡ e.place = ap (λ (y : Entry). y.place) (sym t.0) in
        let g0 : g p ≡ None = rw at gone in
        rw (g0, entries_same f g ps (λ q i. same q (there i) (λ z. let d = far q i in omega arith))) (sym t.1))
        (λ t.
        let i : In e.place ps = (head_in f ps e t.0 t.1).0 in
        rw (same p here (λ q. let d = far e.place i in omega arith), w) (ap (insert x) (rec t.0 t.1) ∙ sym t.2))
        (first x (sorted (entries f ps)) l e k)
