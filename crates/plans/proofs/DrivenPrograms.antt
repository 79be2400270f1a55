-- Any driver of a program: the words that it pushed are moved in order, and the others are queued. Assumes nothing.
use Prim.Native.Nat.{ℕ, suc, ◌+◌, ◌-◌, ◌<◌, ◌≤◌}
use native.Mathlib.Nat.{add-zero}
use native.Mathlib.Numerals.{add-one}
use native.Mathlib.Omega.{arith}
use mathlib.Core.Path.{◌≡◌, refl, ◌∙◌}
use mathlib.Core.Bool.{true, false}
use mathlib.Core.Logic.{⊎_elim}
use mathlib.Core.List.{List, [], ◌∷◌, ◌++◌}
use lib.ListN.{get_or-append, length, get_or, drop, length-append, length-drop}
use lib.Seq.{append_snoc, drop-append-le, drop-drop, get_or-drop}
use borrow.Author.Tests.{eqb-false}
use Rattle.model.specs.Words.{programmed}
use Rattle.model.specs.Places.{total_words, place_of}
use Rattle.model.specs.Queue.{queue_of, is_empty, oldest}
use Rattle.model.specs.State.{Flash, flash_fits, stored, with_word, with_programs}
use Rattle.model.specs.Refusals.{accepts}
use Rattle.model.specs.Steps.{counted_bits, stalls, push_answer}
use Rattle.model.specs.declared.Errors.{Errors}
use Rattle.model.specs.declared.Queue.{Queue}
use Rattle.model.specs.declared.Operation.{Operation}
use Rattle.model.specs.declared.Work.TheVariants.{Program}
use Rattle.model.specs.declared.Controller.{Controller}
use Rattle.model.proofs.Bool.{which}
use Rattle.plans.specs.Plan.{programming}
use Rattle.plans.specs.Driver.{Driven, stepping, pushing, popping}
use Rattle.plans.proofs.Holding.{Holds, holds_none, holds_made, popped_made, oldest_first}
use Rattle.plans.proofs.Running.{progress_at, state_at, Begun, Queued, pushes_refused}
use Rattle.plans.proofs.Firsts.{stored_first, changed_first, first_fits}
use Rattle.plans.proofs.Moves.{program_queued, program_moves, program_pushes, push_room}
use Rattle.plans.proofs.Drives.{seen, steps_keep, push_same, pops_same}

-- With k of the pushed words moved and the others queued.
unfoldable pub program_seen : Controller → Errors → Operation → ℕ → Queue → List ℕ → Flash → ℕ → Driven
program_seen c es o k q given f bits = seen (state_at c es (Program o 0) k (with_programs c.queues q)) f given [] bits

-- The flash and the bits are those of the first k words of any buffer that begins with the pushed ones.
pub record ProgramDriven (c : Controller) (es : Errors) (o : Operation) (f : Flash) (r : Driven) : Type 0 where
  pub k : ℕ
  pub queue : Queue
  pub given : List ℕ
  pub flash : Flash
  pub bits : ℕ
  pub upto : k ≤ length given
  pub most : length given ≤ o.count
  pub few : length (drop k given) ≤ 16
  pub holds : Holds queue (drop k given)
  pub made : 0 < length given → queue ≡ queue_of (drop k given)
  pub stores : (rest : List ℕ) → flash ≡ stored_first c.setup.pages o (programming (given ++ rest)) k f
  pub counts : (rest : List ℕ) → bits ≡ changed_first c.setup o (programming (given ++ rest)) k f
  pub is : r ≡ program_seen c es o k queue given flash bits

module _ (c : Controller) (es : Errors) (o : Operation) (f : Flash) (b : Begun c es (Program o 0)) (l : flash_fits c.setup.pages f ≡ true) where
  -- So it is at the start,
  pub program_driven : ProgramDriven c es o f (seen (state_at c es (Program o 0) 0 c.queues) f [] [] 0)
  unfolding program_seen stored_first changed_first
  program_driven = record {
    k = 0;
    queue = c.queues.programs;
    given = [];
    flash = f;
    bits = 0;
    upto = omega arith;
    most = omega arith;
    few = omega arith;
    holds = holds_none c.queues.programs b.free.programs;
    made = λ h. absurd (omega arith);
    stores = λ rest. refl;
    counts = λ rest. refl;
    is = refl;
  }

  module _ (r : Driven) (h : ProgramDriven c es o f r) where
    -- As many words are queued as were pushed and have not moved,
    left : length (drop h.k h.given) ≡ length h.given - h.k
    left = length-drop h.k h.given

    -- the queues fit,
    fits : Queued c (Program o 0) h.k (with_programs c.queues h.queue)
    fits = program_queued b h.holds h.few (rw left (omega (arith, h.upto, h.most)))

    -- and so does the flash.
    flash_fits_lem : flash_fits c.setup.pages h.flash ≡ true
    flash_fits_lem = rw (h.stores []) (first_fits o (programming (h.given ++ [])) f c.setup.pages h.k ∙ l)

    -- So it is after a push that is accepted,
    accepted : (v : ℕ) → h.k + length (drop h.k h.given) < o.count → length (drop h.k h.given) < 16
        → ProgramDriven c es o f (pushing v r)
    unfolding program_seen
    accepted v more room =
        let split : drop h.k (h.given ++ (v ∷ [])) ≡ drop h.k h.given ++ (v ∷ []) =
        drop-append-le h.k h.given (v ∷ []) h.upto in
        let grown : length (h.given ++ (v ∷ [])) ≡ length h.given + 1 = length-append h.given (v ∷ []) in
        record {
          k = h.k;
          queue = queue_of (drop h.k (h.given ++ (v ∷ [])));
          given = h.given ++ (v ∷ []);
          flash = h.flash;
          bits = h.bits;
          upto = omega (arith, h.upto);
          most = omega (arith, left, h.upto);
          few = rw (split, length-append) (omega arith);
          holds = holds_made (drop h.k (h.given ++ (v ∷ [])));
          made = λ p. refl;
          stores = λ rest. rw append_snoc (h.stores (v ∷ rest));
          counts = λ rest. rw append_snoc (h.counts (v ∷ rest));
          is = rw (h.is, program_pushes h.k b h.holds room more v, split);
        }

    -- and after any push,
    pub program_pushing : (v : ℕ) → ProgramDriven c es o f (pushing v r)
    unfolding program_seen state_at
    program_pushing v =
        let x : Controller = state_at c es (Program o 0) h.k (with_programs c.queues h.queue) in
        let n : ℕ = total_words c.setup.pages o in
        ⊎_elim (λ e.
        let (more, room) = push_room x o n h.k e in
        accepted v (rw (← h.holds.size) more) (rw (← h.holds.size) room))
        (λ e. rw (push_same b fits h.flash h.given [] h.bits r h.is v _ e (pushes_refused b fits v _ e refl)) h)
        (which (accepts (push_answer x (progress_at (Program o 0) n h.k))))

    -- after a pop, which is refused,
    pub program_popping : ProgramDriven c es o f (popping r)
    unfolding program_seen
    program_popping = rw (pops_same b fits h.flash h.given [] h.bits r h.is b.free.reads) h

    -- and after a step, which moves the next word
    moves : h.k < total_words c.setup.pages o → is_empty h.queue ≡ false → ProgramDriven c es o f (stepping r)
    unfolding program_seen stored_first changed_first
    moves more e =
        let some : h.k < length h.given = omega (arith, left, h.holds.size, eqb-false h.queue.len 0 e) in
        let first : oldest h.queue ≡ get_or h.given h.k 0 =
        oldest_first h.holds ∙ get_or-drop h.k h.given 0 0 ∙ rw add-zero in
        let rest : drop 1 (drop h.k h.given) ≡ drop (suc h.k) h.given = drop-drop 1 h.k h.given ∙ rw add-one in
        let at = place_of c.setup.pages o h.k in
        let new : ℕ = programmed (stored h.flash at) (get_or h.given h.k 0) in
        record {
          k = suc h.k;
          queue = queue_of (drop (suc h.k) h.given);
          given = h.given;
          flash = with_word h.flash at new;
          bits = h.bits + counted_bits c.setup at (stored h.flash at) new;
          upto = some;
          most = h.most;
          few = omega (arith, length-drop (suc h.k) h.given, left, h.few);
          holds = holds_made (drop (suc h.k) h.given);
          made = λ p. refl;
          stores = λ more. rw (← h.stores more, get_or-append h.given more 0 h.k some);
          counts = λ more. rw (← h.stores more, ← h.counts more, get_or-append h.given more 0 h.k some);
          is = rw (h.is, program_moves h.flash flash_fits_lem more b fits e, first, popped_made h.holds, rest, add-one h.k);
        }

    -- unless none is queued.
    pub program_stepping : ProgramDriven c es o f (stepping r)
    unfolding program_seen stalls
    program_stepping = steps_keep b fits h.flash h.given [] h.bits r h.is (ProgramDriven c es o f) flash_fits_lem h moves
