-- Validity: its parts, and tests over lists, one element at a time. Assumes nothing.
use Prim.Native.Nat.{ℕ, ◌+◌, ◌≤◌, ◌<◌}
use native.Mathlib.Numerals.{add-one}
use mathlib.Core.Path.{◌≡◌, refl, sym, ◌∙◌}
use mathlib.Core.Bool.{Bool, true, ◌&&◌, ◌||◌, and_assoc, and-true}
use mathlib.Core.List.{List}
use lib.Dec.{leb}
use lib.ListN.{length, get_or, drop, drop_of_length-le}
use lib.Seq.{drop-cons}
use borrow.Author.Tests.{leb-true}
use Rattle.model.specs.Geometry.{pages_fit}
use Rattle.model.specs.State.{is_ready}
use Rattle.model.specs.Valid.{all, settings_fit, errors_fit, both_empty, queues_fit, progress_fits, physical_fits, running_fits, valid}
use Rattle.model.specs.declared.Phase.{Phase}
use Rattle.model.specs.declared.Errors.{Errors}
use Rattle.model.specs.declared.Queue.{Queue}
use Rattle.model.specs.declared.Queues.{Queues}
use Rattle.model.specs.State.{Progress}
use Rattle.model.specs.declared.Controller.{Controller}
use Rattle.model.proofs.Bool.{and_left, and_right}

-- ---- a valid state, part by part

-- A controller with the same setup and physical part.
abbrev pub changed : Controller → Phase → Errors → Queues → Progress → Controller
changed c ph e q p = record { setup = c.setup; phase = ph; errors = e; queues = q; progress = p; physical = c.physical }

pub record ValidParts (c : Controller) : Type 0 where
  pub pages : pages_fit c.setup.pages ≡ true
  pub settings : settings_fit c.setup.pages c.setup.settings ≡ true
  pub errors : errors_fit c.errors ≡ true
  pub reads : c.queues.reads.len ≤ 16
  pub programs : c.queues.programs.len ≤ 16
  pub closed : (is_ready c.phase || both_empty c.queues) ≡ true
  pub progress : progress_fits (is_ready c.phase) c.progress ≡ true
  pub physical : physical_fits c.physical ≡ true
  pub running : running_fits c.setup c.queues.programs c.progress ≡ true

pub valid_parts : (c : Controller) → valid c ≡ true → ValidParts c
unfolding valid
valid_parts c h =
    let ready : Bool = is_ready c.phase in
    let fits : Queue → Bool = λ q. leb q.len 16 in
    let both : Bool = fits c.queues.reads && fits c.queues.programs in
    let h₁ = and_right (pages_fit c.setup.pages) _ h in
    let h₂ = and_right (settings_fit c.setup.pages c.setup.settings) _ h₁ in
    let h₃ = and_right (errors_fit c.errors) _ h₂ in
    let h₄ = and_right (queues_fit ready c.queues) _ h₃ in
    let h₅ = and_right (progress_fits ready c.progress) _ h₄ in
    let queued = and_left (queues_fit ready c.queues) _ h₃ in
    let held = and_left both _ queued in
    record {
      pages = and_left (pages_fit c.setup.pages) _ h;
      settings = and_left (settings_fit c.setup.pages c.setup.settings) _ h₁;
      errors = and_left (errors_fit c.errors) _ h₂;
      reads = leb-true _ _ (and_left (fits c.queues.reads) _ held);
      programs = leb-true _ _ (and_right (fits c.queues.reads) _ held);
      closed = and_right both _ queued;
      progress = and_left (progress_fits ready c.progress) _ h₄;
      physical = and_left (physical_fits c.physical) _ h₅;
      running = and_right (physical_fits c.physical) _ h₅;
    }

-- ---- a test of each element of a list

-- The elements below i have been tested: ok is the outcome.
pub record Tested {A : Type 0} (test : A → Bool) (l : List A) (i : ℕ) (ok : Bool) : Type 0 where
  pub so_far : (ok && all test (drop i l)) ≡ all test l

pub tested_none : {A : Type 0} {test : A → Bool} {l : List A} → Tested test l 0 true
tested_none = record { so_far = refl }

pub tested_more : {A : Type 0} {test : A → Bool} {l : List A} {i : ℕ} {ok : Bool} (x : A) (one : Bool) → i < length l
    → Tested test l i ok → one ≡ test (get_or l i x) → Tested test l (i + 1) (ok && one)
tested_more {l = l} {i = i} x one h t e =
    record { so_far = rw (e, add-one, and_assoc) (rw (drop-cons l i x h) at t.so_far) }

pub tested_all : {A : Type 0} {test : A → Bool} {l : List A} {i : ℕ} {ok : Bool} → length l ≤ i → Tested test l i ok → ok ≡ all test l
tested_all {l = l} {ok = ok} h t = sym (and-true ok) ∙ (rw (drop_of_length-le l h) at t.so_far)
