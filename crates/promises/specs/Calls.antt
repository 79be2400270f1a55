-- Every call with its inputs, and what it leaves: each call gets controller and flash as the one before left them.
use Rattle.std.specs.Prelude.{None, Option}
use Rattle.std.specs.Prelude.{ℕ, ◌≡◌, Bool, List, [], ◌∷◌, length}
use Rattle.model.specs.State.{Flash, Leaves}
pub use Rattle.model.specs.State.{State}
use Rattle.model.specs.Refusals.{number_of, no_decider, reported}
use Rattle.model.specs.Errors.{clear}
use Rattle.model.specs.Settings.{set_inputs, set_region, set_default, set_info, set_erase}
use Rattle.model.specs.Lifecycle.{reset, initialise, rma, no_seeds}
use Rattle.model.specs.Steps.{start, push, pop, step}
use Rattle.model.specs.Host.{View, host_read, view}
use Rattle.model.specs.Rounds.{host_unserved, round}
use Rattle.model.specs.Whole.{WholeLeaves, whole}
use Rattle.model.specs.declared.Page.{Page}
use Rattle.model.specs.declared.ByteAddress.{ByteAddress}
use Rattle.model.specs.declared.Inputs.{Inputs}
use Rattle.model.specs.declared.Region.{Region}
use Rattle.model.specs.declared.PageSetting.{PageSetting}
use Rattle.model.specs.declared.Operation.{Operation}
use Rattle.model.specs.declared.Controller.{Controller}
use Rattle.model.specs.declared.Outcome.{Outcome}
use Rattle.model.specs.declared.Fetched.{Fetched}
use Rattle.model.specs.declared.Stepped.{Stepped}
use Rattle.model.specs.declared.Movement.{Movement}
use Rattle.model.specs.declared.Seeds.{Seeds}
use Rattle.model.specs.declared.Initialised.{Initialised}
use Rattle.model.specs.Rounds.{HostRequest}
use Rattle.model.specs.declared.Turn.{Turn}
use Rattle.model.specs.declared.Turn.TheVariants.{Unasked}
use Rattle.model.specs.declared.HostTurn.{HostTurn}
use Rattle.model.specs.declared.Rounded.{Rounded}

-- The calls of 01, 'What may be asked', and rounds (02, L1). A whole operation is lent a buffer.
pub data Call : Type 0 where
  Reset : ℕ → Call
  SetInputs : Inputs → Call
  SetRegion : ℕ → Region → Call
  SetDefault : ℕ → Call
  SetInfo : ℕ → ℕ → ℕ → PageSetting → Call
  SetErase : ℕ → Bool → Call
  Initialise : Call
  Start : Operation → Call
  Step : Call
  Push : ℕ → Call
  Pop : Call
  Whole : Operation → List ℕ → Call
  HostRead : ByteAddress → Call
  ViewPage : Page → Call
  Clear : Call
  Rma : Call
  Round : HostRequest → Bool → Call

-- What a caller is told: the answer's number, the decider that the answer reports (255 if none), and what comes with it
-- (nothing, 0 or empty where a call has no such thing).
-- `buffer` is the lent buffer after a whole operation. Of a round, `answer`, `decider`, `movement`, `bits` and `turn` are its
-- step's, and `host` is what the host is told: its answer, with what that reports, among it.
pub record Reply : Type 0 where
  pub answer : ℕ
  pub decider : ℕ
  pub movement : Option Movement
  pub bits : ℕ
  pub word : ℕ
  pub seeds : Option Seeds
  pub view : View
  pub buffer : List ℕ
  pub turn : Turn
  pub host : HostTurn

pub record Performed : Type 0 where
  pub state : State
  pub reply : Reply

abbrev pub no_view : View
no_view = record { number = 0; decider = no_decider; start = record { 0 = 0 }; words = [] }

-- A call that is no round asks neither side of one: its answer, decider, movement, bits, word, seeds, view and buffer.
abbrev pub plainly : ℕ → ℕ → Option Movement → ℕ → ℕ → Option Seeds → View → List ℕ → Reply
plainly n by m bits w seeds v b = record {
  answer = n;
  decider = by;
  movement = m;
  bits = bits;
  word = w;
  seeds = seeds;
  view = v;
  buffer = b;
  turn = Unasked;
  host = host_unserved Unasked;
}

-- A reply with other turns: the step's, and the host's.
abbrev pub with_turns : Reply → Turn → HostTurn → Reply
with_turns r t h = record {
  answer = r.answer;
  decider = r.decider;
  movement = r.movement;
  bits = r.bits;
  word = r.word;
  seeds = r.seeds;
  view = r.view;
  buffer = r.buffer;
  turn = t;
  host = h;
}

-- Of a step, and of a call that tells its answer alone, with what it reports.
abbrev pub told_step : ℕ → ℕ → Option Movement → ℕ → Reply
told_step n by m bits = plainly n by m bits 0 no_seeds no_view []

abbrev pub told : ℕ → ℕ → Reply
told n by = told_step n by None 0

abbrev pub by_outcome : Flash → Outcome → Performed
by_outcome f r = record {
  state = record { controller = r.controller; flash = f };
  reply = told (number_of r.answer) (reported r.answer);
}

abbrev pub by_fetch : Flash → Fetched → Performed
by_fetch f r = record {
  state = record { controller = r.controller; flash = f };
  reply = plainly (number_of r.answer) (reported r.answer) None 0 r.word no_seeds no_view [];
}

abbrev pub by_step : Leaves Stepped → Performed
by_step l = record {
  state = record { controller = l.result.controller; flash = l.flash };
  reply = told_step (number_of l.result.answer) (reported l.result.answer) l.result.movement l.result.bits;
}

abbrev pub by_initialise : Flash → Initialised → Performed
by_initialise f r = record {
  state = record { controller = r.controller; flash = f };
  reply = plainly (number_of r.answer) (reported r.answer) None 0 0 r.seeds no_view [];
}

abbrev pub by_view : State → View → Performed
by_view s v = record { state = s; reply = plainly v.number v.decider None 0 0 no_seeds v [] }

abbrev pub by_whole : WholeLeaves → Performed
by_whole l = record {
  state = record { controller = l.result.controller; flash = l.flash };
  reply = plainly (number_of l.result.answer) (reported l.result.answer) None l.result.bits 0 no_seeds no_view l.buffer;
}

abbrev pub by_round : Leaves Rounded → Performed
by_round l = record {
  state = record { controller = l.result.controller; flash = l.flash };
  reply =
      with_turns
      (told_step (number_of l.result.step.answer) (reported l.result.step.answer) l.result.step.movement l.result.step.bits)
      l.result.step.turn l.result.host;
}

unfoldable pub perform : State → Call → Performed
perform s (Reset d) = by_outcome s.flash (reset s.controller d)
perform s (SetInputs i) = by_outcome s.flash (set_inputs s.controller i)
perform s (SetRegion n g) = by_outcome s.flash (set_region s.controller n g)
perform s (SetDefault r) = by_outcome s.flash (set_default s.controller r)
perform s (SetInfo bank t page p) = by_outcome s.flash (set_info s.controller bank t page p)
perform s (SetErase bank on) = by_outcome s.flash (set_erase s.controller bank on)
perform s Initialise = by_initialise s.flash (initialise s.controller s.flash)
perform s (Start o) = by_outcome s.flash (start s.controller o)
perform s Step = by_step (step s.controller s.flash)
perform s (Push w) = by_outcome s.flash (push s.controller w)
perform s Pop = by_fetch s.flash (pop s.controller)
perform s (Whole o b) = by_whole (whole s.controller s.flash o b)
perform s (HostRead a) = by_fetch s.flash (host_read s.controller s.flash a)
perform s (ViewPage p) = by_view s (view s.controller s.flash p)
perform s Clear = by_outcome s.flash (clear s.controller)
perform s Rma = by_outcome (rma s.controller s.flash).flash (rma s.controller s.flash).result
perform s (Round h b) = by_round (round s.controller s.flash h b)

-- A list of calls, one after the other: the state at the end, and what each call told.
abbrev pub run : State → List Call → State
run s [] = s
run s (k ∷ ks) = run (perform s k).state ks

abbrev pub replies : State → List Call → List Reply
replies s [] = []
replies s (k ∷ ks) = (perform s k).reply ∷ replies (perform s k).state ks

-- A controller's arrays are as long as their types say: every controller that a program can hold is so.
pub record Shaped (c : Controller) : Type 0 where
  pub regions : length c.setup.settings.regions ≡ 8
  pub info : length c.setup.settings.info ≡ 26
  pub erase : length c.setup.settings.erase ≡ 2
  pub reads : length c.queues.reads.words ≡ 16
  pub programs : length c.queues.programs.words ≡ 16
  pub lost : length c.physical.lost ≡ 2
