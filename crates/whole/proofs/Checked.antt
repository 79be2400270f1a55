-- What the checks of a whole operation say of its words: their places, and the room in the buffer. Assumes nothing.
use Prim.Native.Nat.{ℕ, ◌≤◌}
use native.Mathlib.Omega.{arith}
use mathlib.Core.Path.{◌≡◌}
use mathlib.Core.Bool.{true, false}
use mathlib.Core.List.{List}
use lib.ListN.{length}
use borrow.Author.Tests.{eqb-true}
use Rattle.model.specs.Kinds.{is_read, is_program}
use Rattle.model.specs.Places.{total_words}
use Rattle.model.specs.State.{Flash}
use Rattle.model.specs.Refusals.{accepts}
use Rattle.model.specs.Checks.{operation_answer}
use Rattle.model.specs.Steps.{starts}
use Rattle.model.specs.Whole.{whole_answer, short_buffer}
use Rattle.model.specs.declared.Operation.{Operation}
use Rattle.model.specs.declared.Controller.{Controller}
use Rattle.model.proofs.Answers.{asked_in_range}
use Rattle.model.proofs.DeniedReads.{started_asked}
use Rattle.model.proofs.Order.{pages_bound}
use Rattle.model.proofs.Free.{whole_free, whole_fits}
use Rattle.plans.proofs.Wholes.{long}
use Rattle.transfers.specs.Placed.{Placed}

-- With checks 1 to 4 passed:
module _ (c : Controller) (f : Flash) (o : Operation) (free : accepts (whole_answer c f) ≡ true) where
  -- an operation that starts has its places;
  pub placed : starts o (operation_answer c.setup o) ≡ true → Placed c.setup.pages o f
  placed s = record {
    pages = pages_bound c (whole_free c f free).fits;
    ranged = (asked_in_range c.setup o (started_asked c.setup o s)).1;
    fits = whole_fits c f free;
  }

  -- with 6 passed, the buffer of a read has room for its words,
  module _ (b : List ℕ) (room : short_buffer o b ≡ false) (s : starts o (operation_answer c.setup o) ≡ true) where
    pub read_room : is_read o ≡ true → total_words c.setup.pages o ≤ length b
    read_room r = long c f o b free room s (omega (arith, eqb-true o.kind 0 r))

    -- and so has that of a program.
    pub program_room : is_program o ≡ true → total_words c.setup.pages o ≤ length b
    program_room p = long c f o b free room s (omega (arith, eqb-true o.kind 1 p))
