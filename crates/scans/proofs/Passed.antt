-- The two calls, once checks 1 to 4 and 16 have passed or refused. Assumes nothing.
use Prim.Native.Nat.{ℕ, ◌+◌, ◌*◌, ◌≤◌, ◌<◌}
use native.Mathlib.Omega.{arith}
use mathlib.Core.Path.{◌≡◌, refl, sym, ap, ◌∙◌}
use mathlib.Core.Bool.{true, false, not}
use mathlib.Core.Logic.{⊎_elim}
use mathlib.Core.List.{List, [], ◌∷◌}
use lib.Dec.{ltb, eqb}
use lib.ListN.{length}
use borrow.Author.Tests.{ne_eqb, ltb-true, ltb-false, eqb-false, not-true}
use Rattle.model.specs.Geometry.{data_pages}
use Rattle.model.specs.State.{Flash}
use Rattle.model.specs.Refusals.{number_of, accepts}
use Rattle.model.specs.Whole.{whole_answer}
use Rattle.model.specs.declared.Controller.{Controller}
use Rattle.model.proofs.Bool.{which, and_left, and_right}
use Rattle.model.proofs.Free.{whole_free, whole_fits}
use Rattle.model.proofs.Flashes.{fits_length}
use Rattle.model.proofs.Order.{pages_bound}
use Rattle.registers.specs.Registers.{setup_of, stands_for, decode}
use Rattle.validity.proofs.Taken.{taken_stands}
use Rattle.scan_queue.specs.Slots.{Pages, Entry}
use Rattle.scan_queue.specs.Decisions.{Decision, refusal_of}
use Rattle.scan_pages.specs.Pages.{page_word, lower, higher, pages_serve, pages_answer}
use Rattle.scan_pages.proofs.Places.{low_page, high_page}
use Rattle.model.proofs.Answers.{told_accepts}
use Rattle.scans.specs.Jobs.{zero_job, jobs, jobs_in}
use Rattle.scans.specs.Scans.{write_told, write_refused, write_done, writing, write_in, no_scan, scan_of, mark_told, take_done, waiting, take_in}
use Rattle.scans.specs.declared.ToldScan.{ToldScan}

-- ---- the pages, once 1 to 4 and 16 have passed

module _ (s : List ℕ) (f : Flash) (a b : ℕ) (first : ℕ) (is : first ≡ pages_answer (decode s) f a b) where
  module _ (ok : first ≡ 0) where
    pub accepted : accepts (whole_answer (decode s) f) ≡ true
    unfolding pages_answer
    accepted =
        ⊎_elim (λ e. e)
        (λ (no : accepts (whole_answer (decode s) f) ≡ false).
        let n : number_of (whole_answer (decode s) f) ≡ 0 = (rw no at (sym is)) ∙ ok in
        absurd (eqb-false (number_of (whole_answer (decode s) f)) 0 (told_accepts _ ∙ no) n))
        (which (accepts (whole_answer (decode s) f)))

    pub served : pages_serve (decode s).setup a b ≡ true
    unfolding pages_answer
    served =
        ⊎_elim (λ e. e)
        (λ (no : pages_serve (decode s).setup a b ≡ false).
        let n : ◌≡◌ {A = ℕ} 16 0 = (rw (accepted, no) at (sym is)) ∙ ok in
        absurd (omega arith))
        (which (pages_serve (decode s).setup a b))

    same : decode s ≡ stands_for s
    same = taken_stands s (whole_free (decode s) f accepted).fits

    pub pages_same : (decode s).setup.pages ≡ (setup_of s).pages
    unfolding stands_for
    pages_same = ap (λ (c : Controller). c.setup.pages) same

    -- The image is as long as D says,
    image_long : length f.words ≡ 2 * ((setup_of s).pages + 13) * 256
    image_long = rw (← pages_same) (fits_length (decode s).setup.pages f (whole_fits (decode s) f accepted))

    few_pages : (10 ≤ (setup_of s).pages) × ((setup_of s).pages ≤ 256)
    few_pages = rw (← pages_same) (pages_bound (decode s) (whole_free (decode s) f accepted).fits)

    pub image_short : length f.words ≤ 137728
    image_short = omega (arith, image_long, few_pages.1)

    -- and both pages lie in it, the lower first.
    pub there : (a < 2 * (setup_of s).pages) × (b < 2 * (setup_of s).pages) × (a ≡ b → ⊥)
    unfolding pages_serve
    there =
        let one = and_left (ltb a (data_pages (decode s).setup.pages)) _ served in
        let rest = and_right (ltb a (data_pages (decode s).setup.pages)) _ served in
        let two = and_left (ltb b (data_pages (decode s).setup.pages)) _ rest in
        let far = and_left (not (eqb a b)) _ (and_right (ltb b (data_pages (decode s).setup.pages)) _ rest) in (
          rw pages_same at (ltb-true a (data_pages (decode s).setup.pages) one),
          rw pages_same at (ltb-true b (data_pages (decode s).setup.pages) two),
          eqb-false a b (not-true _ far),
        )

    in_order : (x y : ℕ) → x < y → y < 2 * (setup_of s).pages → Pages f.words (page_word (setup_of s).pages x) (page_word (setup_of s).pages y)
    in_order x y h k =
        let long = image_long in
        ⊎_elim
        (λ (e : ltb y (setup_of s).pages ≡ true).
        let yl = ltb-true y (setup_of s).pages e in
        let p = low_page (setup_of s).pages x (omega arith) in
        let q = low_page (setup_of s).pages y yl in
        record { apart = omega (arith, p, q); inside = omega (arith, q, long) })
        (λ (e : ltb y (setup_of s).pages ≡ false).
        let yh = ltb-false y (setup_of s).pages e in
        let q = high_page (setup_of s).pages y yh in
        ⊎_elim
        (λ (g : ltb x (setup_of s).pages ≡ true).
        let p = low_page (setup_of s).pages x (ltb-true x (setup_of s).pages g) in
        record { apart = omega (arith, p, q); inside = omega (arith, q, long) })
        (λ (g : ltb x (setup_of s).pages ≡ false).
        let p = high_page (setup_of s).pages x (ltb-false x (setup_of s).pages g) in
        record { apart = omega (arith, p, q); inside = omega (arith, q, long) })
        (which (ltb x (setup_of s).pages)))
        (which (ltb y (setup_of s).pages))

    pub both_pages : Pages f.words (page_word (setup_of s).pages (lower a b)) (page_word (setup_of s).pages (higher a b))
    both_pages =
        ⊎_elim
        (λ (e : ltb a b ≡ true). rw e (in_order a b (ltb-true a b e) there.1))
        (λ (e : ltb a b ≡ false). rw e (in_order b a (let h = ltb-false a b e in let n = there.2 in lt_of a b h n) there.0))
        (which (ltb a b))
      where
        lt_of : (x y : ℕ) → y ≤ x → (x ≡ y → ⊥) → y < x
        lt_of x y h n = omega (arith, h, n)

    -- ---- what is done

    module _ (steps : ℕ) where
      pub write_goes : (bytes : List ℕ) (d : Decision) → d ≡ writing s f a b bytes → (x : ℕ) → x ≡ (setup_of s).pages
          → write_told (refusal_of d) (jobs_in steps s f (jobs x d)) ≡ write_in steps s f a b bytes
      unfolding write_in write_done
      write_goes bytes d e x q = rw (← is, ok, q, e) refl

      pub take_none : (q : List Entry) → q ≡ waiting s f a b → q ≡ [] → record { told = no_scan 19 0; registers = s; flash = f } ≡ take_in steps s f a b
      unfolding take_in take_done
      take_none q e n = rw (← is, ok, ← e, n) refl

      pub take_goes : (e : Entry) (l : List Entry) → waiting s f a b ≡ e ∷ l → (x p : ℕ) → x ≡ (setup_of s).pages → p ≡ e.place → (t : ToldScan) → t ≡ scan_of e
          → mark_told t (jobs_in steps s f (zero_job x (p + 1) ∷ [])) ≡ take_in steps s f a b
      unfolding take_in take_done jobs
      take_goes e l k x p q at t is_t = rw (← is, ok, k, q, at, is_t) refl

  -- Refused by 1 to 4 or 16, a call leaves everything.
  module _ (steps : ℕ) (no : first ≡ 0 → ⊥) where
    stops : eqb (pages_answer (decode s) f a b) 0 ≡ false
    stops = rw (← is) (ne_eqb first 0 no)

    pub write_refused_lem : (bytes : List ℕ) → write_refused first s f ≡ write_in steps s f a b bytes
    unfolding write_in
    write_refused_lem bytes = rw (stops, is) refl

    pub take_refused : record { told = no_scan first 0; registers = s; flash = f } ≡ take_in steps s f a b
    unfolding take_in
    take_refused = rw (stops, is) refl
