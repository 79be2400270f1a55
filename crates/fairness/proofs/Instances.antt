-- The bound of `FairTurns` is exact, and the premises of the theorems can be met: runs with D = 10, settled by computation.
use Rattle.std.specs.Prelude.{Some, Option}
use Prim.Native.Nat.{ℕ}
use mathlib.Core.Path.{◌≡◌, refl}
use mathlib.Core.Bool.{true, false}
use mathlib.Core.List.{List, [], ◌∷◌}
use lib.ListN.{replicate}
use Rattle.model.specs.Geometry.{image_page, word_at}
use Rattle.model.specs.Words.{all_ones, changed_bits, differ_in}
use Rattle.model.specs.Places.{total_words, place_of}
use Rattle.model.specs.Queue.{held, queue_of, pushed}
use Rattle.model.specs.State.{flash, flash_fits, reset_controller, with_physical}
use Rattle.model.specs.Rights.{data_ruling, ruling_at, leading, allowed_words, denied, readable_words}
use Rattle.model.specs.Refusals.{no_decider}
use Rattle.model.specs.Checks.{malformed, out_of_range, crosses_window, operation_answer}
use Rattle.model.specs.Valid.{settings_fit, work_fits, running_fits, physical_fits, valid, valid_with}
use Rattle.model.specs.Errors.{recorded, clear}
use Rattle.model.specs.Settings.{configured, set_default}
use Rattle.model.specs.Lifecycle.{initialise_answer, initialise}
use Rattle.model.specs.Steps.{start_answer, start, stalls, delivered, counted_bits, advance, step_progress, step}
use Rattle.model.specs.Host.{host_answer, host_read}
use Rattle.model.specs.Rounds.{would_move, next_bank, host_bank, competes, round}
use Rattle.model.specs.Bench.{op}
use Rattle.model.specs.declared.Operation.{Operation}
use Rattle.model.specs.declared.Movement.{Movement}
use Rattle.model.specs.declared.Movement.TheVariants.{Moved, Finished, Stalled}
use Rattle.model.specs.declared.Turn.TheVariants.{Waiting, Served}
use Rattle.model.specs.Refusals.{accepted}
use Rattle.promises.specs.Calls.{Call, State, Reply, Shaped, SetDefault, Initialise, Start, Clear, Round, told_step, with_turns, perform, run, replies}
use Rattle.fairness.specs.Fair.{no_reset, asked, moves_in, lost_turns}

-- All rights on every data page, initialised, and an operation started; the first word of the flash is 5, all others are ones.
abbrev started : Operation → State
started o =
    run (record { controller = reset_controller 10; flash = flash (5 ∷ replicate 11775 all_ones) })
    (SetDefault 7 ∷ Initialise ∷ Start o ∷ [])

-- Both banks have lost five turns.
abbrev worn : State → State
worn s = record { controller = with_physical s.controller (record { lost = 5 ∷ 5 ∷ [] }); flash = s.flash }

-- An erase of page 0; a read of the last word of bank 0 and the first of bank 1.
abbrev erase : Operation
erase = op 2 0 0 0 0

abbrev across : Operation
across = op 0 0 0 10236 2

-- A round that asks the step and, for the host, a byte address: the first of bank 0, and of bank 1.
abbrev both : ℕ → Call
both a = Round (Some (record { 0 = a })) true

abbrev low : ℕ
low = 0

abbrev high : ℕ
high = 10240

-- The step waits, and the host has its word; a word moves, so many of its bits rise, and the host waits.
abbrev waits : Reply
waits = with_turns (told_step 0 no_decider (Some Stalled) 0) Waiting (record { turn = Served; answer = accepted; word = 5 })

abbrev goes : Option Movement → ℕ → Reply
goes m bits = with_turns (told_step 0 no_decider m bits) Served (record { turn = Waiting; answer = accepted; word = 0 })

-- Five rounds, with a clear among them.
abbrev five : List Call
five = both low ∷ both low ∷ Clear ∷ both low ∷ both low ∷ both low ∷ []

pub record Met : Type 0 where
  -- `FairTurns`, `BySixth`: the erase could move a word, no turn is lost yet, and six rounds ask the step
  pub shaped : Shaped (started erase).controller
  pub could : would_move (started erase).controller (started erase).flash ≡ true
  pub unlost : lost_turns (started erase).controller ≡ 0
  pub six : asked (replicate 6 (both low)) ≡ 6
  pub clean : no_reset (replicate 6 (both low)) ≡ true
  -- the word waits five rounds and moves in the sixth, and its bank's count returns to 0
  pub sixth : replies (started erase) (replicate 6 (both low)) ≡ waits ∷ waits ∷ waits ∷ waits ∷ waits ∷ goes (Some Moved) 30 ∷ []
  pub returns : lost_turns (run (started erase) (replicate 6 (both low))).controller ≡ 0
  -- `SameWord`: in five rounds none moves, so five are too few
  pub too_few : asked five ≡ 5
  pub clean_five : no_reset five ≡ true
  pub none : moves_in (replies (started erase) five) ≡ false
  -- a bank that has lost five turns is served in the first round
  pub first : replies (worn (started erase)) (both low ∷ []) ≡ goes (Some Moved) 30 ∷ []
  -- `BothServed`: a host read in bank 1 does not compete with the erase in bank 0
  pub apart : competes (started erase).controller (started erase).flash (record { 0 = high }) ≡ false
  -- `HostOnce`: the host waits, and asks again in bank 0
  pub host_waits : (perform (worn (started erase)) (both low)).reply.host.turn ≡ Waiting
  pub same_bank : host_bank 10 (record { 0 = 4 }) ≡ host_bank 10 (record { 0 = low })
  -- and why it speaks of one bank: the read's next word is the last of bank 0, and then the first of bank 1
  pub then_again : replies (worn (started across)) (both low ∷ both high ∷ []) ≡ goes (Some Moved) 0 ∷ goes (Some Finished) 0 ∷ []

pub met : Met
unfolding image_page word_at changed_bits differ_in total_words place_of held queue_of pushed leading data_ruling ruling_at allowed_words denied readable_words malformed out_of_range crosses_window operation_answer settings_fit work_fits running_fits physical_fits valid flash_fits valid_with recorded clear configured set_default initialise_answer initialise start_answer start stalls delivered counted_bits advance step_progress step host_answer host_read would_move next_bank host_bank competes round perform
met = record {
  shaped = record { regions = refl; info = refl; erase = refl; reads = refl; programs = refl; lost = refl };
  could = refl;
  unlost = refl;
  six = refl;
  clean = refl;
  sixth = refl;
  returns = refl;
  too_few = refl;
  clean_five = refl;
  none = refl;
  first = refl;
  apart = refl;
  host_waits = refl;
  same_bank = refl;
  then_again = refl;
}
