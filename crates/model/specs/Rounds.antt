-- Rounds: in a round a bank may have a host read, a controller step whose next word lies in it, or both waiting. (02, L1; 001)
use Rattle.std.specs.Prelude.{Option, None, Some}
use Rattle.std.specs.Prelude.{ℕ, ◌+◌, Bool, true, false, ◌&&◌, not, cond, ltb, eqb, get_or, set}
use Rattle.model.specs.Geometry.{page_of, bank_of, bank_of_word}
use Rattle.model.specs.Places.{place_of}
use Rattle.model.specs.State.{Flash, Leaves, with_physical, operation_of, moved_of}
use Rattle.model.specs.Refusals.{accepts, ready_answer}
use Rattle.model.specs.Valid.{lost_limit, valid_with}
use Rattle.model.specs.Steps.{stalls, step}
use Rattle.model.specs.Host.{host_read}
use Rattle.model.specs.declared.ByteAddress.{ByteAddress}
use Rattle.model.specs.declared.Queues.{Queues}
use Rattle.model.specs.State.{Progress}
use Rattle.model.specs.declared.Controller.{Controller}
use Rattle.model.specs.Refusals.{accepted}
use Rattle.model.specs.declared.Movement.{Movement}
use Rattle.model.specs.declared.Movement.TheVariants.{Stalled}
use Rattle.model.specs.declared.Fetched.{Fetched}
use Rattle.model.specs.declared.Stepped.{Stepped}
use Rattle.model.specs.declared.Turn.{Turn}
use Rattle.model.specs.declared.Turn.TheVariants.{Unasked, Waiting, Served}
use Rattle.model.specs.declared.HostTurn.{HostTurn}
use Rattle.model.specs.declared.StepTurn.{StepTurn}
use Rattle.model.specs.declared.Rounded.{Rounded}

-- ---- who competes for a bank

-- A step competes if it would move a word: one that would wait or be refused is answered at once and doesn't.
abbrev pub goes : Queues → Progress → Bool
goes q None = false
goes q (Some w) = not (stalls q w)

unfoldable pub would_move : Controller → Flash → Bool
would_move c f = accepts (ready_answer (valid_with c f) c.phase) && goes c.queues c.progress

-- The bank in which the next word lies; with nothing in progress there is no such word, and no rule asks.
abbrev pub progress_bank : ℕ → Progress → ℕ
progress_bank d None = 0
progress_bank d (Some w) = bank_of_word d (place_of d (operation_of w) (moved_of w))

unfoldable pub next_bank : Controller → ℕ
next_bank c = progress_bank c.setup.pages c.progress

-- A host address past 2D pages counts as bank 1.
unfoldable pub host_bank : ℕ → ByteAddress → ℕ
host_bank d a = bank_of d (page_of a)

-- Host and step both wait in a bank.
unfoldable pub competes : Controller → Flash → ByteAddress → Bool
competes c f a = would_move c f && eqb (host_bank c.setup.pages a) (next_bank c)

-- ---- a bank's lost count

abbrev pub lost_in : Controller → ℕ → ℕ
lost_in c bank = get_or c.physical.lost bank 0

abbrev pub with_lost : Controller → ℕ → ℕ → Controller
with_lost c bank n = with_physical c (record { lost = set c.physical.lost bank n })

-- ---- what each side is told

-- Of a side that asked nothing, or waits: whoever isn't served is answered waiting, a step as one that stalls.
abbrev pub host_unserved : Turn → HostTurn
host_unserved t = record { turn = t; answer = accepted; word = 0 }

abbrev pub step_unserved : Turn → Option Movement → StepTurn
step_unserved t m = record { turn = t; answer = accepted; movement = m; bits = 0 }

-- Whoever is served is answered as by its own call: a refused host read uses its turn.
abbrev pub host_served : Fetched → HostTurn
host_served r = record { turn = Served; answer = r.answer; word = r.word }

abbrev pub step_served : Stepped → StepTurn
step_served r = record { turn = Served; answer = r.answer; movement = r.movement; bits = r.bits }

-- ---- who is served

-- Nobody asks, and nothing changes.
abbrev pub nobody : Controller → Flash → Leaves Rounded
nobody c f = record {
  result = record { controller = c; host = host_unserved Unasked; step = step_unserved Unasked None };
  flash = f;
}

-- A round with only one waiting serves it and leaves the count.
abbrev pub host_alone : Controller → Flash → ByteAddress → Leaves Rounded
host_alone c f a = record {
  result = record {
    controller = (host_read c f a).controller;
    host = host_served (host_read c f a);
    step = step_unserved Unasked None;
  };
  flash = f;
}

abbrev pub step_alone : Controller → Flash → Leaves Rounded
step_alone c f = record {
  result = record {
    controller = (step c f).result.controller;
    host = host_unserved Unasked;
    step = step_served (step c f).result;
  };
  flash = (step c f).flash;
}

-- If both wait in a bank, the host goes first and that bank's lost count rises by one;
abbrev pub host_goes : Controller → Flash → ByteAddress → Leaves Rounded
host_goes c f a = record {
  result = record {
    controller = with_lost (host_read c f a).controller (next_bank c) (lost_in c (next_bank c) + 1);
    host = host_served (host_read c f a);
    step = step_unserved Waiting (Some Stalled);
  };
  flash = f;
}

-- once the count is 5, the controller goes instead and the count returns to 0.
abbrev pub step_goes : Controller → Flash → Leaves Rounded
step_goes c f = record {
  result = record {
    controller = with_lost (step c f).result.controller (next_bank c) 0;
    host = host_unserved Waiting;
    step = step_served (step c f).result;
  };
  flash = (step c f).flash;
}

abbrev pub contest : Controller → Flash → ByteAddress → Leaves Rounded
contest c f a = cond (ltb (lost_in c (next_bank c)) lost_limit) (host_goes c f a) (step_goes c f)

-- In different banks both are served, host first; so are they if the step does not compete.
abbrev pub both_go : Controller → Flash → ByteAddress → Leaves Rounded
both_go c f a = record {
  result = record {
    controller = (step (host_read c f a).controller f).result.controller;
    host = host_served (host_read c f a);
    step = step_served (step (host_read c f a).controller f).result;
  };
  flash = (step (host_read c f a).controller f).flash;
}

-- A round: what the host asks, and whether the step is asked. The host asks for the word at an address, or nothing.
abbrev pub HostRequest : Type 0
HostRequest = Option ByteAddress

unfoldable pub round : Controller → Flash → HostRequest → Bool → Leaves Rounded
round c f None false = nobody c f
round c f None true = step_alone c f
round c f (Some a) false = host_alone c f a
round c f (Some a) true = cond (competes c f a) (contest c f a) (both_go c f a)
