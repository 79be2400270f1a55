-- Any driver of a started operation: the calls that change nothing, and a fact that each call keeps. Assumes nothing.
use Rattle.std.specs.Prelude.{Err}
use Prim.Native.Nat.{ℕ, ◌<◌}
use native.Mathlib.Nat.{add-zero}
use native.Mathlib.Omega.{arith}
use mathlib.Core.Path.{◌≡◌, refl}
use mathlib.Core.Bool.{true, false}
use mathlib.Core.Logic.{⊎_elim}
use mathlib.Core.List.{List, [], ◌∷◌}
use lib.Dec.{eqb}
use borrow.Author.Tests.{eqb-true, eqb-false}
use Rattle.model.specs.Kinds.{is_program}
use Rattle.model.specs.Queue.{is_empty}
use Rattle.model.specs.State.{Flash, flash_fits, operation_of}
use Rattle.model.specs.Refusals.{accepts, refused}
use Rattle.model.specs.Steps.{stalls, push}
use Rattle.model.specs.declared.Errors.{Errors}
use Rattle.model.specs.declared.Queues.{Queues}
use Rattle.model.specs.declared.Work.{Work}
use Rattle.model.specs.declared.Controller.{Controller}
use Rattle.model.specs.Refusals.{Answer}
use Rattle.model.specs.declared.Refusal.TheVariants.{Unexpected}
use Rattle.model.proofs.Bool.{which}
use Rattle.model.proofs.WorkParts.{at_word}
use Rattle.plans.specs.Driver.{Drive, Step, Push, Pop, Driven, stepping, pushing, popping, drives}
use Rattle.plans.proofs.Running.{words_of, state_at, Begun, Queued, steps_done, steps_wait, pops_none, pushes_unexpected}

-- What a driver has seen.
abbrev pub seen : Controller → Flash → List ℕ → List ℕ → ℕ → Driven
seen c f given taken bits = record { controller = c; flash = f; given = given; taken = taken; bits = bits }

module _ {c : Controller} {es : Errors} {w : Work} {k : ℕ} {q : Queues} (b : Begun c es w) (fits : Queued c w k q) (f : Flash) (given taken : List ℕ)
    (bits : ℕ) (r : Driven) (is : r ≡ seen (state_at c es w k q) f given taken bits) where
  -- A step keeps what it keeps where it moves a word: otherwise it is refused or waits, and changes nothing.
  pub steps_keep : (P : Driven → Type 0) → flash_fits c.setup.pages f ≡ true → P r
      → (k < words_of c w → stalls q (at_word w k) ≡ false → P (stepping r)) → P (stepping r)
  steps_keep P l h move =
      ⊎_elim (λ done.
      let same : stepping r ≡ r = rw (is, steps_done b fits f l (eqb-true k (words_of c w) done), add-zero) in rw same h)
      (λ left.
      let more : k < words_of c w = omega (arith, fits.upto, eqb-false k (words_of c w) left) in
      ⊎_elim (λ waits. let same : stepping r ≡ r = rw (is, steps_wait b fits f l more waits, add-zero) in rw same h)
      (move more)
      (which (stalls q (at_word w k))))
      (which (eqb k (words_of c w)))

  -- A refused push changes nothing,
  pub push_same : (v : ℕ) (a : Answer) → accepts a ≡ false → push (state_at c es w k q) v ≡ refused (state_at c es w k q) a
      → pushing v r ≡ r
  push_same v a n e = rw (is, e, n)

  -- as every push is if it is no program;
  pub pushes_same : is_program (operation_of w) ≡ false → (v : ℕ) → pushing v r ≡ r
  pushes_same e v = push_same v (Err Unexpected) refl (pushes_unexpected b fits v e)

  -- and a pop changes nothing if no word is there.
  pub pops_same : is_empty q.reads ≡ true → popping r ≡ r
  pops_same e = rw (is, pops_none b fits e)

-- What each call keeps, all of them keep.
pub drives_keep : (P : Driven → Type 0) → ((r : Driven) → P r → P (stepping r)) → ((r : Driven) → P r → (v : ℕ) → P (pushing v r))
    → ((r : Driven) → P r → P (popping r)) → (ks : List Drive) (r : Driven) → P r → P (drives r ks)
drives_keep P s u o [] r h = h
drives_keep P s u o (Step ∷ ks) r h = drives_keep P s u o ks (stepping r) (s r h)
drives_keep P s u o (Push v ∷ ks) r h = drives_keep P s u o ks (pushing v r) (u r h v)
drives_keep P s u o (Pop ∷ ks) r h = drives_keep P s u o ks (popping r) (o r h)
