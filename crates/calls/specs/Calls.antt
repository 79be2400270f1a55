-- The calls on registers: what each tells, as numbers, and what it leaves of the registers, the flash and the buffer that it is
-- lent. Each is the model's call on the controller that the registers stand for. (house)
use Rattle.std.specs.Prelude.{None, Some, Option, replicate, Result, Ok, Err}
use Rattle.std.specs.Prelude.{ℕ, Bool, ◌||◌, not, cond, List, eqb}
use Rattle.model.specs.State.{Flash, Leaves}
use Rattle.model.specs.Refusals.{refusal_number, number_of, reported, accepts}
use Rattle.model.specs.Errors.{is_recorded, clear}
use Rattle.model.specs.Settings.{set_inputs, set_region, set_default, set_info, set_erase}
use Rattle.model.specs.Lifecycle.{seed_words, reset, initialise, rma}
use Rattle.model.specs.Steps.{start, push, pop, step}
use Rattle.model.specs.Host.{host_read, view_answer, view}
use Rattle.model.specs.Rounds.{round}
use Rattle.model.specs.Whole.{WholeLeaves, whole}
use Rattle.model.specs.declared.Page.{Page}
use Rattle.model.specs.declared.ByteAddress.{ByteAddress}
use Rattle.model.specs.declared.Inputs.{Inputs}
use Rattle.model.specs.declared.Region.{Region}
use Rattle.model.specs.declared.PageSetting.{PageSetting}
use Rattle.model.specs.declared.Operation.{Operation}
use Rattle.model.specs.Refusals.{Answer, accepted}
use Rattle.model.specs.declared.Refusal.{Refusal}
use Rattle.model.specs.declared.Movement.{Movement}
use Rattle.model.specs.declared.Movement.TheVariants.{Moved, Finished, Stalled}
use Rattle.model.specs.Rounds.{HostRequest}
use Rattle.model.specs.declared.Turn.{Turn}
use Rattle.model.specs.declared.Turn.TheVariants.{Unasked, Waiting, Served}
use Rattle.model.specs.declared.HostTurn.{HostTurn}
use Rattle.model.specs.declared.StepTurn.{StepTurn}
use Rattle.model.specs.declared.Rounded.{Rounded}
use Rattle.model.specs.declared.Outcome.{Outcome}
use Rattle.model.specs.declared.Fetched.{Fetched}
use Rattle.model.specs.declared.Stepped.{Stepped}
use Rattle.model.specs.declared.Seeds.{Seeds}
use Rattle.model.specs.declared.Initialised.{Initialised}
use Rattle.registers.specs.Registers.{decode, hand_back, cleared}
use Rattle.calls.specs.declared.Step.{Step}
use Rattle.calls.specs.declared.Side.{Side}
use Rattle.calls.specs.declared.Side.TheVariants as side
use Rattle.calls.specs.declared.Round.{Round}
use Rattle.calls.specs.declared.ToldAnswer.{ToldAnswer}
use Rattle.calls.specs.declared.ToldWord.{ToldWord}
use Rattle.calls.specs.declared.ToldHostWord.{ToldHostWord}
use Rattle.calls.specs.declared.ToldStep.{ToldStep}
use Rattle.calls.specs.declared.ToldHostTurn.{ToldHostTurn}
use Rattle.calls.specs.declared.ToldStepTurn.{ToldStepTurn}
use Rattle.calls.specs.declared.ToldRound.{ToldRound}
use Rattle.calls.specs.declared.ToldBits.{ToldBits}
use Rattle.calls.specs.declared.ToldStart.{ToldStart}
use Rattle.calls.specs.declared.ToldSeeds.{ToldSeeds}

-- What a call tells and leaves: of the registers alone,
pub record Left (Told : Type 0) : Type 0 where
  pub told : Told
  pub registers : List ℕ

-- of the flash too,
pub record LeftFlash (Told : Type 0) : Type 0 where
  pub told : Told
  pub registers : List ℕ
  pub flash : Flash

-- and of a buffer.
pub record LeftBuffer (Told : Type 0) : Type 0 where
  pub told : Told
  pub registers : List ℕ
  pub flash : Flash
  pub buffer : List ℕ

-- What is told of an answer that can be 9: its number, and who decided.
abbrev pub told_answer : Answer → ToldAnswer
told_answer a = record { answer = number_of a; decider = reported a }

-- The answer of a call that hands back a value where it is accepted,
abbrev pub answer_of : {A : Type 0} → Result A Refusal → Answer
answer_of (Ok x) = accepted
answer_of (Err r) = Err r

-- and the number that it hands back: 0 where it is refused.
abbrev pub or_zero : Result ℕ Refusal → ℕ
or_zero (Ok n) = n
or_zero (Err r) = 0

abbrev pub told_word : Result ℕ Refusal → ToldWord
told_word r = record { answer = number_of (answer_of r); word = or_zero r }

-- What is told of a movement.
abbrev pub movement_number : Option Movement → ℕ
movement_number None = 0
movement_number (Some Moved) = 1
movement_number (Some Finished) = 2
movement_number (Some Stalled) = 3

-- What is told of a step.
abbrev pub told_step : Result Step Refusal → ToldStep
told_step (Ok step) = record { answer = 0; movement = movement_number (Some step.movement); bits = step.bits }
told_step (Err r) = record { answer = refusal_number r; movement = movement_number None; bits = 0 }

abbrev pub told_host_word : Answer → ℕ → ToldHostWord
told_host_word a w = record { answer = number_of a; decider = reported a; word = w }

-- ---- calls that change the registers where they are accepted, and leave every register as it was where they are refused

abbrev pub outcome_left : List ℕ → Outcome → Left ℕ
outcome_left s r = record { told = number_of r.answer; registers = hand_back (accepts r.answer) s r.controller }

unfoldable pub set_inputs_in : List ℕ → Inputs → Left ℕ
set_inputs_in s i = outcome_left s (set_inputs (decode s) i)

unfoldable pub set_region_in : List ℕ → ℕ → Region → Left ℕ
set_region_in s i g = outcome_left s (set_region (decode s) i g)

unfoldable pub set_default_in : List ℕ → ℕ → Left ℕ
set_default_in s r = outcome_left s (set_default (decode s) r)

unfoldable pub set_info_in : List ℕ → ℕ → ℕ → ℕ → PageSetting → Left ℕ
set_info_in s bank t page p = outcome_left s (set_info (decode s) bank t page p)

unfoldable pub set_erase_in : List ℕ → ℕ → Bool → Left ℕ
set_erase_in s bank on = outcome_left s (set_erase (decode s) bank on)

unfoldable pub clear_in : List ℕ → Left ℕ
clear_in s = outcome_left s (clear (decode s))

unfoldable pub push_in : List ℕ → ℕ → Left ℕ
push_in s w = outcome_left s (push (decode s) w)

abbrev pub word_left : List ℕ → Fetched → Left ToldWord
word_left s r = record {
  told = record { answer = number_of r.answer; word = r.word };
  registers = hand_back (accepts r.answer) s r.controller;
}

unfoldable pub pop_in : List ℕ → Left ToldWord
pop_in s = word_left s (pop (decode s))

-- The seeds, or zeros where none are handed out.
abbrev pub told_seeds : Answer → Option Seeds → ToldSeeds
told_seeds a None = record {
  answer = number_of a;
  creator = replicate seed_words 0;
  owner = replicate seed_words 0;
  given = 0;
}
told_seeds a (Some seeds) = record { answer = number_of a; creator = seeds.creator; owner = seeds.owner; given = 1 }

abbrev pub seeds_or_none : Result (Option Seeds) Refusal → Option Seeds
seeds_or_none (Ok seeds) = seeds
seeds_or_none (Err r) = None

abbrev pub seeds_left : List ℕ → Initialised → Left ToldSeeds
seeds_left s r = record {
  told = told_seeds r.answer r.seeds;
  registers = hand_back (accepts r.answer) s r.controller;
}

unfoldable pub initialise_in : List ℕ → Flash → Left ToldSeeds
initialise_in s f = seeds_left s (initialise (decode s) f)

abbrev pub step_left : List ℕ → Leaves Stepped → LeftFlash ToldStep
step_left s l = record {
  told = record { answer = number_of l.result.answer; movement = movement_number l.result.movement; bits = l.result.bits };
  registers = hand_back (accepts l.result.answer) s l.result.controller;
  flash = l.flash;
}

unfoldable pub step_in : List ℕ → Flash → LeftFlash ToldStep
step_in s f = step_left s (step (decode s) f)

abbrev pub rma_left : List ℕ → Leaves Outcome → LeftFlash ℕ
rma_left s l = record {
  told = number_of l.result.answer;
  registers = hand_back (accepts l.result.answer) s l.result.controller;
  flash = l.flash;
}

unfoldable pub rma_in : List ℕ → Flash → LeftFlash ℕ
rma_in s f = rma_left s (rma (decode s) f)

-- ---- a round: what it tells the host and the step

abbrev pub turn_number : Turn → ℕ
turn_number Unasked = 0
turn_number Waiting = 1
turn_number Served = 2

abbrev pub host_told : HostTurn → ToldHostTurn
host_told h = record {
  turn = turn_number h.turn;
  answer = number_of h.answer;
  decider = reported h.answer;
  word = h.word;
}

abbrev pub step_told : StepTurn → ToldStepTurn
step_told t = record {
  turn = turn_number t.turn;
  answer = number_of t.answer;
  movement = movement_number t.movement;
  bits = t.bits;
}

-- What code says of a side, as it is told: of one that asked nothing, of one that waits, and of one that was served.
abbrev pub host_turn_told : ℕ → Result ℕ Refusal → ToldHostTurn
host_turn_told turn r = record {
  turn = turn;
  answer = number_of (answer_of r);
  decider = reported (answer_of r);
  word = or_zero r;
}

abbrev pub told_host_turn : Side (Result ℕ Refusal) → ToldHostTurn
told_host_turn side.Unasked = host_turn_told 0 (Ok 0)
told_host_turn side.Waiting = host_turn_told 1 (Ok 0)
told_host_turn (side.Served r) = host_turn_told 2 r

abbrev pub told_step_turn : Side (Result Step Refusal) → ToldStepTurn
told_step_turn side.Unasked = record { turn = 0; answer = 0; movement = movement_number None; bits = 0 }
told_step_turn side.Waiting = record { turn = 1; answer = 0; movement = movement_number (Some Stalled); bits = 0 }
told_step_turn (side.Served r) = record {
  turn = 2;
  answer = (told_step r).answer;
  movement = (told_step r).movement;
  bits = (told_step r).bits;
}

abbrev pub told_round : Round → ToldRound
told_round r = record { host = told_host_turn r.host; step = told_step_turn r.step }

-- A round changes registers where its step is asked and not refused: it moves a word, or loses its turn and is counted. That
-- is told by the movement.
abbrev pub tells_movement : Option Movement → Bool
tells_movement m = not (eqb (movement_number m) 0)

abbrev pub round_left : List ℕ → Leaves Rounded → LeftFlash ToldRound
round_left s l = record {
  told = record { host = host_told l.result.host; step = step_told l.result.step };
  registers = hand_back (tells_movement l.result.step.movement) s l.result.controller;
  flash = l.flash;
}

unfoldable pub round_in : List ℕ → Flash → HostRequest → Bool → LeftFlash ToldRound
round_in s f host step = round_left s (round (decode s) f host step)

-- ---- a reset that is accepted leaves zeros, whatever the registers held

unfoldable pub reset_in : List ℕ → ℕ → Left ℕ
reset_in s d = record {
  told = number_of (reset (decode s) d).answer;
  registers = cond (accepts (reset (decode s) d).answer) (cleared s d) s;
}

-- ---- start and whole operations, whose refusals may be recorded: a recorded one changes the registers too

abbrev pub changes : Answer → Bool
changes a = accepts a || is_recorded (number_of a)

abbrev pub start_left : List ℕ → Outcome → Left ToldAnswer
start_left s r = record { told = told_answer r.answer; registers = hand_back (changes r.answer) s r.controller }

unfoldable pub start_in : List ℕ → Operation → Left ToldAnswer
start_in s o = start_left s (start (decode s) o)

abbrev pub told_bits : Answer → ℕ → ToldBits
told_bits a bits = record { answer = number_of a; decider = reported a; bits = bits }

abbrev pub whole_left : List ℕ → WholeLeaves → LeftBuffer ToldBits
whole_left s l = record {
  told = told_bits l.result.answer l.result.bits;
  registers = hand_back (changes l.result.answer) s l.result.controller;
  flash = l.flash;
  buffer = l.buffer;
}

unfoldable pub whole_in : List ℕ → Flash → Operation → List ℕ → LeftBuffer ToldBits
whole_in s f o b = whole_left s (whole (decode s) f o b)

-- ---- calls that look at the registers and change nothing

unfoldable pub host_read_in : List ℕ → Flash → ByteAddress → ToldHostWord
host_read_in s f a = told_host_word (host_read (decode s) f a).answer (host_read (decode s) f a).word

abbrev pub told_start : Answer → ℕ → ToldStart
told_start a place = record { answer = number_of a; decider = reported a; start = place }

unfoldable pub view_in : List ℕ → Flash → Page → ToldStart
view_in s f p = told_start (view_answer (decode s) f p) (view (decode s) f p).start.0
