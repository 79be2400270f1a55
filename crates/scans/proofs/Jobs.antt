-- Whole operations one after the other, by the tests that the code makes. Assumes nothing.
use Prim.Native.Nat.{ℕ}
use mathlib.Core.Path.{◌≡◌, sym, ap, ◌∙◌}
use mathlib.Core.Bool.{true, false, not}
use mathlib.Core.Logic.{⊎_elim}
use mathlib.Core.List.{List, [], ◌∷◌}
use lib.Dec.{eqb}
use Rattle.std.specs.Prelude.{Option, None, Some}
use Rattle.std.specs.Bool.{then_some}
use Rattle.model.proofs.Bool.{which}
use Rattle.model.specs.State.{Flash}
use Rattle.registers.specs.Registers.{is_on}
use Rattle.calls.specs.Calls.{LeftFlash, LeftBuffer}
use Rattle.driving.specs.declared.Driven.{Driven}
use Rattle.driving.specs.Drives.{driven_in}
use Rattle.scans.specs.Jobs.{Job, stopped, jobs_in}

module _ (steps : ℕ) (s : List ℕ) (f : Flash) (j : Job) (l : LeftBuffer Driven) (is : l ≡ driven_in steps s f j.operation j.words) where
  -- Where the power is cut, no other begins;
  pub cut_job : is_on l.told.cut ≡ true → (js : List Job) → stopped l ≡ jobs_in steps s f (j ∷ js)
  unfolding jobs_in
  cut_job e js =
      let t : is_on (driven_in steps s f j.operation j.words).told.cut ≡ true = sym (ap (λ (x : LeftBuffer Driven). is_on x.told.cut) is) ∙ e in
      rw t (ap stopped is)

  -- otherwise the others follow, on what it left.
  pub next_job : is_on l.told.cut ≡ false → (js : List Job) → jobs_in l.told.left l.registers l.flash js ≡ jobs_in steps s f (j ∷ js)
  unfolding jobs_in
  next_job e js =
      let t : is_on (driven_in steps s f j.operation j.words).told.cut ≡ false = sym (ap (λ (x : LeftBuffer Driven). is_on x.told.cut) is) ∙ e in
      rw t (ap (λ (x : LeftBuffer Driven). jobs_in x.told.left x.registers x.flash js) is)

  -- One alone.
  pub one_job : record { told = then_some (eqb l.told.cut 0) l.told.left; registers = l.registers; flash = l.flash } ≡ jobs_in steps s f (j ∷ [])
  unfolding jobs_in
  one_job =
      ⊎_elim
      (λ (e : eqb l.told.cut 0 ≡ true). rw e (next_job (ap not e) []))
      (λ (e : eqb l.told.cut 0 ≡ false). rw e (cut_job (ap not e) []))
      (which (eqb l.told.cut 0))

-- The first of several, by what it told alone.
module _ (steps : ℕ) (s : List ℕ) (f : Flash) (j : Job) (l : LeftFlash (Option ℕ)) (is : l ≡ jobs_in steps s f (j ∷ [])) (js : List Job) where
  pub first_cut : l.told ≡ None → record { told = None; registers = l.registers; flash = l.flash } ≡ jobs_in steps s f (j ∷ js)
  unfolding jobs_in
  first_cut e =
      ⊎_elim
      (λ (t : is_on (driven_in steps s f j.operation j.words).told.cut ≡ true). rw t (ap (λ (x : LeftFlash (Option ℕ)). record { told = None; registers = x.registers; flash = x.flash }) (rw t at is)))
      (λ (t : is_on (driven_in steps s f j.operation j.words).told.cut ≡ false).
      let z : Some (driven_in steps s f j.operation j.words).told.left ≡ None = sym (ap (λ (x : LeftFlash (Option ℕ)). x.told) (rw t at is)) ∙ e in cc)
      (which (is_on (driven_in steps s f j.operation j.words).told.cut))

  pub first_done : (left : ℕ) → l.told ≡ Some left → jobs_in left l.registers l.flash js ≡ jobs_in steps s f (j ∷ js)
  unfolding jobs_in
  first_done left e =
      ⊎_elim
      (λ (t : is_on (driven_in steps s f j.operation j.words).told.cut ≡ true).
      let z : None ≡ Some left = sym (ap (λ (x : LeftFlash (Option ℕ)). x.told) (rw t at is)) ∙ e in cc)
      (λ (t : is_on (driven_in steps s f j.operation j.words).told.cut ≡ false).
      let d = driven_in steps s f j.operation j.words in
      let h = rw t at is in
      let z : Some d.told.left ≡ Some left = sym (ap (λ (x : LeftFlash (Option ℕ)). x.told) h) ∙ e in
      let n : d.told.left ≡ left = cc in
      rw (t, n) (ap (λ (x : LeftFlash (Option ℕ)). jobs_in left x.registers x.flash js) h))
      (which (is_on (driven_in steps s f j.operation j.words).told.cut))
