-- Any driver: whatever interleaving of steps, pushes and pops drives a started operation to its end, it leaves what the
-- whole operation does.
use Rattle.std.specs.Prelude.{None}
use Rattle.std.specs.Prelude.{ℕ, ◌+◌, ◌≡◌, true, false, cond, List, [], ◌∷◌, ◌++◌, length, take, drop}
use Rattle.model.specs.Kinds.{is_read}
use Rattle.model.specs.Queue.{is_empty}
use Rattle.model.specs.State.{Flash}
use Rattle.model.specs.Refusals.{accepts}
use Rattle.model.specs.Steps.{starts, start, push, pop, step}
use Rattle.model.specs.Whole.{WholeLeaves, whole_answer, short_buffer, whole}
use Rattle.model.specs.declared.Operation.{Operation}
use Rattle.model.specs.declared.Controller.{Controller}

-- The calls that a driver makes.
pub data Drive : Type 0 where
  Step : Drive
  Push : ℕ → Drive
  Pop : Drive

-- What a driver has seen: the words that accepted pushes took and accepted pops gave, in order, and the sum of the bits.
pub record Driven : Type 0 where
  pub controller : Controller
  pub flash : Flash
  pub given : List ℕ
  pub taken : List ℕ
  pub bits : ℕ

abbrev pub stepping : Driven → Driven
stepping r = record {
  controller = (step r.controller r.flash).result.controller;
  flash = (step r.controller r.flash).flash;
  given = r.given;
  taken = r.taken;
  bits = r.bits + (step r.controller r.flash).result.bits;
}

abbrev pub pushing : ℕ → Driven → Driven
pushing w r = record {
  controller = (push r.controller w).controller;
  flash = r.flash;
  given = cond (accepts (push r.controller w).answer) (r.given ++ (w ∷ [])) r.given;
  taken = r.taken;
  bits = r.bits;
}

abbrev pub popping : Driven → Driven
popping r = record {
  controller = (pop r.controller).controller;
  flash = r.flash;
  given = r.given;
  taken = cond (accepts (pop r.controller).answer) (r.taken ++ ((pop r.controller).word ∷ [])) r.taken;
  bits = r.bits;
}

abbrev pub drives : Driven → List Drive → Driven
drives r [] = r
drives r (Step ∷ ks) = drives (stepping r) ks
drives r (Push w ∷ ks) = drives (pushing w r) ks
drives r (Pop ∷ ks) = drives (popping r) ks

abbrev pub begun : Controller → Flash → Driven
begun c f = record { controller = c; flash = f; given = []; taken = []; bits = 0 }

-- A driver that ended: nothing is in progress and no read word is left; the words that it pushed are those of the buffer,
-- in order, from the first on.
pub record Ended (b : List ℕ) (r : Driven) : Type 0 where
  pub idle : r.controller.progress ≡ None
  pub drained : is_empty r.controller.queues.reads ≡ true
  pub in_order : r.given ≡ take (length r.given) b

-- It leaves the controller, the flash and the bits of the whole operation, and has popped the words that the whole
-- operation puts into the buffer; another operation has popped none.
pub record SameAs (o : Operation) (b : List ℕ) (w : WholeLeaves) (r : Driven) : Type 0 where
  pub controller : r.controller ≡ w.result.controller
  pub flash : r.flash ≡ w.flash
  pub bits : r.bits ≡ w.result.bits
  pub words : w.buffer ≡ r.taken ++ drop (length r.taken) b
  pub popped : length r.taken ≡ cond (is_read o) o.count 0

abbrev pub AnyDriver : Type 0
AnyDriver =
    (c : Controller) (f : Flash) (o : Operation) (b : List ℕ) (ks : List Drive) → accepts (whole_answer c f) ≡ true
    → short_buffer o b ≡ false → starts o (start c o).answer ≡ true → Ended b (drives (begun (start c o).controller f) ks)
    → SameAs o b (whole c f o b) (drives (begun (start c o).controller f) ks)
