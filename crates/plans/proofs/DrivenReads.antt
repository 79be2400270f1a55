-- Any driver of a read: what it has popped and what is queued are the read's first words. Assumes nothing.
use Prim.Native.Nat.{ℕ, suc, ◌<◌, ◌≤◌}
use native.Mathlib.Numerals.{add-one}
use native.Mathlib.Omega.{arith}
use mathlib.Core.Path.{◌≡◌, refl, ◌∙◌}
use mathlib.Core.Bool.{true, false}
use mathlib.Core.Logic.{⊎_elim}
use mathlib.Core.List.{List, [], ◌∷◌, ◌++◌, append_assoc}
use lib.ListN.{length, get_or, drop, length-append, length-drop}
use lib.Seq.{drop-cons, append_snoc}
use borrow.Author.Tests.{eqb-true, eqb-false, leb-false}
use Rattle.model.specs.Places.{total_words, place_of}
use Rattle.model.specs.Queue.{queue_of, is_empty, is_full}
use Rattle.model.specs.State.{Flash, flash_fits, with_reads}
use Rattle.model.specs.Steps.{stalls, read_word}
use Rattle.model.specs.declared.Errors.{Errors}
use Rattle.model.specs.declared.Queue.{Queue}
use Rattle.model.specs.declared.Operation.{Operation}
use Rattle.model.specs.declared.Work.TheVariants.{Read}
use Rattle.model.specs.declared.Controller.{Controller}
use Rattle.model.proofs.Bool.{which}
use Rattle.model.proofs.WorkParts.{work_parts}
use Rattle.plans.specs.Driver.{Driven, stepping, pushing, popping}
use Rattle.plans.proofs.Holding.{Holds, holds_none, holds_made, pushed_made, popped_made, oldest_first}
use Rattle.plans.proofs.Running.{state_at, Begun, Queued, pops}
use Rattle.plans.proofs.Firsts.{read_first}
use Rattle.plans.proofs.Moves.{read_queued, read_moves}
use Rattle.plans.proofs.Drives.{seen, steps_keep, pushes_same, pops_same}

-- With k words moved, some of them popped and the others queued.
unfoldable pub read_seen : Controller → Errors → Operation → Flash → ℕ → ℕ → Queue → List ℕ → Driven
read_seen c es o f readable k q taken = seen (state_at c es (Read o 0 readable) k (with_reads c.queues q)) f [] taken 0

-- They are the read's first words, in order. The queue is made of its words once one has moved.
pub record ReadDriven (c : Controller) (es : Errors) (o : Operation) (f : Flash) (readable : ℕ) (r : Driven) : Type 0 where
  pub k : ℕ
  pub queue : Queue
  pub queued : List ℕ
  pub taken : List ℕ
  pub upto : k ≤ total_words c.setup.pages o
  pub holds : Holds queue queued
  pub few : length queued ≤ 16
  pub made : 0 < k → queue ≡ queue_of queued
  pub order : taken ++ queued ≡ read_first f c.setup.pages o readable k
  pub is : r ≡ read_seen c es o f readable k queue taken

module _ (c : Controller) (es : Errors) (o : Operation) (f : Flash) (readable : ℕ) (b : Begun c es (Read o 0 readable))
    (l : flash_fits c.setup.pages f ≡ true) where
  -- So it is at the start,
  pub read_driven : ReadDriven c es o f readable (seen (state_at c es (Read o 0 readable) 0 c.queues) f [] [] 0)
  unfolding read_seen read_first
  read_driven = record {
    k = 0;
    queue = c.queues.reads;
    queued = [];
    taken = [];
    upto = omega arith;
    holds = holds_none c.queues.reads b.free.reads;
    few = omega arith;
    made = λ h. absurd (omega arith);
    order = refl;
    is = refl;
  }

  module _ (r : Driven) (h : ReadDriven c es o f readable r) where
    -- The queues fit,
    fits : Queued c (Read o 0 readable) h.k (with_reads c.queues h.queue)
    fits = read_queued b h.upto h.holds h.few

    -- after a push, which is refused,
    pub read_pushing : (v : ℕ) → ReadDriven c es o f readable (pushing v r)
    unfolding read_seen
    read_pushing v =
        let kind = eqb-true o.kind 0 (work_parts _ _ (Read o 0 readable) b.work).kind in
        rw (pushes_same b fits f [] h.taken 0 r h.is (rw kind) v) h

    -- after a pop, which takes the oldest word if there is one,
    pub read_popping : ReadDriven c es o f readable (popping r)
    unfolding read_seen
    read_popping =
        ⊎_elim (λ e. rw (pops_same b fits f [] h.taken 0 r h.is e) h)
        (λ e.
        let some : 0 < length h.queued = omega (arith, h.holds.size, eqb-false h.queue.len 0 e) in
        record {
          k = h.k;
          queue = queue_of (drop 1 h.queued);
          queued = drop 1 h.queued;
          taken = h.taken ++ (get_or h.queued 0 0 ∷ []);
          upto = h.upto;
          holds = holds_made (drop 1 h.queued);
          few = omega (arith, length-drop 1 h.queued, h.few);
          made = λ p. refl;
          order = append_snoc h.taken (get_or h.queued 0 0) (drop 1 h.queued) ∙ rw (← drop-cons h.queued 0 0 some) h.order;
          is = rw (h.is, pops b fits e, popped_made h.holds, oldest_first h.holds);
        })
        (which (is_empty h.queue))

    -- and after a step, which moves the next word unless the queue is full.
    moves : h.k < total_words c.setup.pages o → is_full h.queue ≡ false → ReadDriven c es o f readable (stepping r)
    unfolding read_seen read_first
    moves more e =
        let v : ℕ = read_word f readable h.k (place_of c.setup.pages o h.k) in
        let less : length h.queued < 16 = omega (arith, h.holds.size, leb-false 16 h.queue.len e) in
        record {
          k = suc h.k;
          queue = queue_of (h.queued ++ (v ∷ []));
          queued = h.queued ++ (v ∷ []);
          taken = h.taken;
          upto = omega arith;
          holds = holds_made (h.queued ++ (v ∷ []));
          few = rw length-append (omega arith);
          made = λ p. refl;
          order = rw (← append_assoc, h.order);
          is = rw (h.is, read_moves f l more b fits e, pushed_made h.holds v, add-one h.k);
        }

    -- So it is after any step.
    pub read_stepping : ReadDriven c es o f readable (stepping r)
    unfolding read_seen stalls
    read_stepping = steps_keep b fits f [] h.taken 0 r h.is (ReadDriven c es o f readable) l h moves
