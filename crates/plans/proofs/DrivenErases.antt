-- Any driver of an erase: only its steps do anything. Assumes nothing.
use Prim.Native.Nat.{ℕ, suc, ◌≤◌}
use native.Mathlib.Numerals.{add-one}
use native.Mathlib.Omega.{arith}
use mathlib.Core.Path.{◌≡◌, refl, ◌∙◌}
use mathlib.Core.Bool.{true, false}
use mathlib.Core.List.{[]}
use Rattle.model.specs.Kinds.{is_program}
use Rattle.model.specs.Places.{total_words}
use Rattle.model.specs.State.{Flash, flash_fits}
use Rattle.model.specs.declared.Errors.{Errors}
use Rattle.model.specs.declared.Operation.{Operation}
use Rattle.model.specs.declared.Work.TheVariants.{Erase}
use Rattle.model.specs.declared.Controller.{Controller}
use Rattle.plans.specs.Plan.{erasing}
use Rattle.plans.specs.Driver.{Driven, stepping, pushing, popping}
use Rattle.plans.proofs.Running.{state_at, Begun}
use Rattle.plans.proofs.Firsts.{stored_first, changed_first, first_fits}
use Rattle.plans.proofs.Moves.{erase_queued, erase_moves}
use Rattle.plans.proofs.Drives.{seen, steps_keep, pushes_same, pops_same}

-- With k words moved.
unfoldable pub erase_seen : Controller → Errors → Operation → Flash → ℕ → Driven
erase_seen c es o f k =
    seen (state_at c es (Erase o 0) k c.queues) (stored_first c.setup.pages o erasing k f) [] [] (changed_first c.setup o erasing k f)

-- The flash and the bits are those of its first k words.
pub record EraseDriven (c : Controller) (es : Errors) (o : Operation) (f : Flash) (r : Driven) : Type 0 where
  pub k : ℕ
  pub upto : k ≤ total_words c.setup.pages o
  pub is : r ≡ erase_seen c es o f k

module _ (c : Controller) (es : Errors) (o : Operation) (f : Flash) (b : Begun c es (Erase o 0)) (l : flash_fits c.setup.pages f ≡ true) where
  -- So it is at the start,
  pub erase_driven : EraseDriven c es o f (seen (state_at c es (Erase o 0) 0 c.queues) f [] [] 0)
  unfolding erase_seen stored_first changed_first
  erase_driven = record { k = 0; upto = omega arith; is = refl }

  module _ (r : Driven) (h : EraseDriven c es o f r) where
    -- after a push, which is refused,
    pub erase_pushing : is_program o ≡ false → (v : ℕ) → EraseDriven c es o f (pushing v r)
    unfolding erase_seen
    erase_pushing p v = rw (pushes_same b (erase_queued b h.upto) _ [] [] _ r h.is p v) h

    -- after a pop, which is refused too,
    pub erase_popping : EraseDriven c es o f (popping r)
    unfolding erase_seen
    erase_popping = rw (pops_same b (erase_queued b h.upto) _ [] [] _ r h.is b.free.reads) h

    -- and after a step, which moves the next word.
    pub erase_stepping : EraseDriven c es o f (stepping r)
    unfolding erase_seen stored_first changed_first
    erase_stepping =
        let fits : flash_fits c.setup.pages (stored_first c.setup.pages o erasing h.k f) ≡ true =
        first_fits o erasing f c.setup.pages h.k ∙ l in
        steps_keep b (erase_queued b h.upto) _ [] [] _ r h.is (EraseDriven c es o f) fits h λ more moves. record {
          k = suc h.k;
          upto = more;
          is = rw (h.is, erase_moves (stored_first c.setup.pages o erasing h.k f) fits more b (erase_queued b h.upto), add-one h.k);
        }
