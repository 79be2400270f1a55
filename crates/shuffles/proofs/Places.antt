-- What a plan does at its places: it changes only the pages of its places, and what it gives and leaves there depends on those
-- pages alone. Assumes nothing.
use Prim.Native.Nat.{ℕ, suc, ◌+◌, ◌-◌}
use native.Mathlib.Nat.{sub-zero}
use native.Mathlib.Omega.{arith}
use mathlib.Core.Path.{◌≡◌, refl, sym, ap, ap₂, ◌∙◌}
use mathlib.Core.Bool.{Bool, true, false, ◌||◌, or-true, false≢true}
use mathlib.Core.List.{List, [], ◌∷◌, ◌++◌}
use lib.Dec.{ltb, eqb}
use lib.ListN.{length, take, drop, length-set}
use lib.Seq.{get_or-set_other}
use borrow.Author.Tests.{eqb-false, eq-eqb, ltb-true, ltb-false}
use Rattle.model.specs.Geometry.{image_page_of}
use Rattle.model.specs.Words.{changed_bits}
use Rattle.model.specs.State.{Flash, stored, with_word}
use Rattle.model.specs.Refusals.{no_decider}
use Rattle.model.specs.Steps.{delivered, read_word, counted_bits}
use Rattle.model.specs.Whole.{leaving}
use Rattle.model.specs.declared.ImagePage.{ImagePage}
use Rattle.model.specs.declared.BusWord.{BusWord}
use Rattle.model.specs.declared.Operation.{Operation}
use Rattle.model.specs.declared.Setup.{Setup}
use Rattle.model.specs.declared.Controller.{Controller}
use Rattle.model.proofs.Bool.{or_left, or_right, by_test}
use Rattle.plans.specs.Plan.{Plan, Refused, Recorded, Reads, Programs, Erases, delivered_at, stored_all, changed_all, programming, erasing, performed}
use Rattle.shuffles.specs.Shuffle.{given_of, has_one, changes_page, touches_page}
use Rattle.shuffles.proofs.Pages.{Off, Agree, AsLong, same_set}

-- ---- words stored at places

-- They leave the image as long as it was,
stored_long : (new : ℕ → ℕ → ℕ) (k : ℕ) (ps : List BusWord) (f : Flash) → AsLong (stored_all new k ps f) f
stored_long new k [] f = refl
stored_long new k (p ∷ ps) f =
    stored_long new (k + 1) ps (with_word f p (new k (stored f p))) ∙ length-set f.words p.0 (new k (stored f p))

-- and the other pages as they were.
stored_off : (new : ℕ → ℕ → ℕ) (k : ℕ) (ps : List BusWord) (f : Flash) → Off (has_one ps) (stored_all new k ps f) f
stored_off new k [] f w h = refl
stored_off new k (p ∷ ps) f w h =
    stored_off new (k + 1) ps (with_word f p (new k (stored f p))) w (or_right (eqb (image_page_of p).0 (image_page_of w).0) _ h)
    ∙ get_or-set_other f.words p.0 w.0 (new k (stored f p)) 0
    (λ e.
    eqb-false (image_page_of p).0 (image_page_of w).0 (or_left (eqb (image_page_of p).0 (image_page_of w).0) _ h)
    (ap (λ (n : ℕ). (image_page_of (record { 0 = n })).0) (sym e)))

-- The pages of the places are among those of P.
abbrev Among : List BusWord → (ImagePage → Bool) → Type 0
Among ps P = (q : ImagePage) → has_one ps q ≡ true → P q ≡ true

-- So is the page of the first,
among_head : (P : ImagePage → Bool) (p : BusWord) (ps : List BusWord) → Among (p ∷ ps) P → P (image_page_of p) ≡ true
among_head P p ps h = h (image_page_of p) (rw (eq-eqb (image_page_of p).0 (image_page_of p).0 refl) refl)

-- and so are those of the others.
among_tail : (P : ImagePage → Bool) (p : BusWord) (ps : List BusWord) → Among (p ∷ ps) P → Among ps P
among_tail P p ps h q e = h q (rw e (or-true (eqb (image_page_of p).0 q.0)))

-- Where two flashes agree on the pages of its true words that are left, a read delivers the same from word k on,
delivered_same : (P : ImagePage → Bool) (readable k : ℕ) (ps : List BusWord) (f g : Flash) → Among (take (readable - k) ps) P → Agree P f g
    → delivered_at f readable k ps ≡ delivered_at g readable k ps
unfolding delivered read_word
delivered_same P readable k [] f g h a = refl
delivered_same P readable k (p ∷ ps) f g h a =
    by_test (ltb k readable)
    (λ t.
    let left : readable - k ≡ suc (readable - (k + 1)) = omega (arith, ltb-true k readable t) in
    let rest : List BusWord = take (readable - (k + 1)) ps in
    let among : Among (p ∷ rest) P = rw left at h in
    rw (t, a p (among_head P p rest among), delivered_same P readable (k + 1) ps f g (among_tail P p rest among) a))
    (λ t.
    let none : readable - (k + 1) ≡ 0 = omega (arith, ltb-false k readable t) in
    rw (t, delivered_same P readable (k + 1) ps f g (rw none (λ q e. absurd (false≢true e))) a))

-- and stored words change as many bits, and leave the same.
stored_same : (P : ImagePage → Bool) (new : ℕ → ℕ → ℕ) (k : ℕ) (ps : List BusWord) (s t : Setup) (f g : Flash) → AsLong f g
    → Among ps P → Agree P f g
    → (changed_all s new k ps f ≡ changed_all t new k ps g) × Agree P (stored_all new k ps f) (stored_all new k ps g)
unfolding counted_bits
stored_same P new k [] s t f g e h a = (refl, a)
stored_same P new k (p ∷ ps) s t f g e h a =
    let old : stored f p ≡ stored g p = a p (among_head P p ps h) in
    let rest = stored_same P new (k + 1) ps s t (with_word f p (new k (stored f p))) (with_word g p (new k (stored g p)))
    (length-set f.words p.0 (new k (stored f p)) ∙ e ∙ sym (length-set g.words p.0 (new k (stored g p))))
    (among_tail P p ps h)
    (λ w q. same_set f.words g.words p.0 (new k (stored f p)) w.0 e (a w q)
    ∙ ap (λ (x : ℕ). stored (with_word g p (new k x)) w) old) in
    (ap₂ {C = ℕ} (λ x y. changed_bits x (new k x) + y) old rest.0, rest.1)

-- ---- a plan, performed

-- The image keeps its length,
pub plan_long : (c : Controller) (f : Flash) (o : Operation) (b : List ℕ) (p : Plan) → AsLong (performed c f o b p).flash f
unfolding performed
plan_long c f o b (Refused a) = refl
plan_long c f o b (Recorded a) = refl
plan_long c f o b (Reads a readable ps) = refl
plan_long c f o b (Programs ps) = stored_long (programming b) 0 ps f
plan_long c f o b (Erases ps) = stored_long erasing 0 ps f

-- other pages than those that it changes keep their words,
pub plan_off : (c : Controller) (f : Flash) (o : Operation) (b : List ℕ) (p : Plan) → Off (changes_page p) (performed c f o b p).flash f
unfolding performed
plan_off c f o b (Refused a) w h = refl
plan_off c f o b (Recorded a) w h = refl
plan_off c f o b (Reads a readable ps) w h = refl
plan_off c f o b (Programs ps) w h = stored_off (programming b) 0 ps f w h
plan_off c f o b (Erases ps) w h = stored_off erasing 0 ps f w h

-- (any two flashes agree on no pages)
on_none : (f g : Flash) → Agree (λ q. false) f g
on_none f g w t = absurd (false≢true t)

-- and where two flashes agree on the pages that it touches, it gives the same and leaves the same on those that it changes.
pub plan_same : (c d : Controller) (f g : Flash) (o : Operation) (b : List ℕ) (p : Plan) → AsLong f g → Agree (touches_page p) f g
    → (given_of (performed c f o b p) ≡ given_of (performed d g o b p))
    × Agree (changes_page p) (performed c f o b p).flash (performed d g o b p).flash
unfolding performed
plan_same c d f g o b (Refused a) e h = (refl, on_none f g)
plan_same c d f g o b (Recorded a) e h = (refl, on_none f g)
plan_same c d f g o b (Reads a readable ps) e h = (
  ap (λ (ws : List ℕ). given_of (leaving c a 0 f (ws ++ drop (length ps) b)))
      (delivered_same (has_one (take readable ps)) readable 0 ps f g (rw sub-zero (λ q t. t)) (λ w t. h w (ap (λ (x : Bool). x || false) t))),
  on_none f g,
)
plan_same c d f g o b (Programs ps) e h =
    let t = stored_same (has_one ps) (programming b) 0 ps c.setup d.setup f g e (λ q t. t) h in
    (ap (λ (n : ℕ). record { answer = 0; decider = no_decider; words = b; bits = n }) t.0, t.1)
plan_same c d f g o b (Erases ps) e h =
    let t = stored_same (has_one ps) erasing 0 ps c.setup d.setup f g e (λ q t. t) h in
    (ap (λ (n : ℕ). record { answer = 0; decider = no_decider; words = b; bits = n }) t.0, t.1)
