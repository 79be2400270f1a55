-- The premises of the promises can be met: states that calls reach from reset with D = 10, settled by computation.
use Rattle.std.specs.Prelude.{None, Some}
use Prim.Native.Nat.{ℕ}
use native.Mathlib.Omega.{arith}
use mathlib.Core.Path.{◌≡◌, refl, ap}
use mathlib.Core.Bool.{true}
use mathlib.Core.List.{List, [], ◌∷◌, ◌++◌}
use lib.ListN.{length, get_or, replicate}
use Rattle.model.specs.Geometry.{image_page, word_at}
use Rattle.model.specs.Words.{all_ones, programmed}
use Rattle.model.specs.Places.{total_words, place_of}
use Rattle.model.specs.Queue.{held, queue_of, pushed, oldest, popped}
use Rattle.model.specs.State.{Flash, flash, flash_fits, reset_controller}
use Rattle.model.specs.Rights.{data_ruling, seed_closed, info_ruling, ruling_at, ruling_of_page, leading, allowed_words, denied, decider_of, readable_words}
use Rattle.model.specs.Checks.{malformed, out_of_range, crosses_window, operation_answer}
use Rattle.model.specs.Valid.{settings_fit, work_fits, running_fits, physical_fits, valid, valid_with}
use Rattle.model.specs.Errors.{recorded, error_address}
use Rattle.model.specs.Settings.{configured, set_region, set_info}
use Rattle.model.specs.Lifecycle.{initialise_answer, initialise}
use Rattle.model.specs.Steps.{start_answer, start, push_answer, push, pop_answer, pop, stalls, delivered, read_word, advance, step_progress, step}
use Rattle.model.specs.Whole.{turn, turns, whole_answer, drive, whole}
use Rattle.model.specs.Refusals.{number_of, no_decider, reported}
use Rattle.model.specs.Host.{host_answer, host_read, view_answer, view}
use Rattle.model.specs.Rounds.{would_move, next_bank, host_bank, competes, round}
use Rattle.model.specs.Bench.{region, op}
use Rattle.model.specs.declared.Operation.{Operation}
use Rattle.model.specs.declared.Work.TheVariants.{Read}
use Rattle.model.specs.declared.Controller.{Controller}
use Rattle.model.specs.declared.Turn.TheVariants.{Waiting}
use Rattle.plans.specs.Plan.{true_places, words_at}
use Rattle.promises.specs.Calls.{Call, State, Reply, Performed, Shaped, SetRegion, SetInfo, Initialise, Start, Step, Push, Pop, Whole, HostRead, ViewPage, Round, perform, run}
use Rattle.promises.specs.Confined.{protected, erasable, programmable, unerased_along, unprogrammed_along, protected_along, bit_of}
use Rattle.promises.specs.Counted.{words_left}
use Rattle.promises.specs.Unknown.{state_of, Alike, told_places}

-- An image with 0 in page 0's first word, these two in its last word and in page 1's first, and ones in all others.
abbrev image_with : ℕ → ℕ → Flash
image_with last first = flash (0 ∷ replicate 254 all_ones ++ (last ∷ first ∷ replicate 11519 all_ones))

-- After reset, on the image with 7 and 0.
abbrev after_reset : State
after_reset = state_of (reset_controller 10) (image_with 7 0)

-- All rights on page 0 alone, and initialised;
abbrev opening : List Call
opening = SetRegion 0 (region true 0 1 7) ∷ Initialise ∷ []

-- then an operation started.
abbrev calls : Operation → List Call
calls o = opening ++ (Start o ∷ [])

abbrev reached : Operation → State
reached o = run after_reset (calls o)

-- An erase of page 0, a program of its word 1, a read of page 1, and one from page 0's last word into page 1.
abbrev erase : Operation
erase = op 2 0 0 0 0

abbrev program : Operation
program = op 1 0 0 4 1

abbrev read : Operation
read = op 0 0 0 1024 1

abbrev crossing : Operation
crossing = op 0 0 0 1020 2

-- The last one as a whole operation, on an image after the opening calls.
abbrev opened_controller : Controller
opened_controller = (run after_reset opening).controller

abbrev whole_crossing : Call
whole_crossing = Whole crossing (5 ∷ 6 ∷ 8 ∷ [])

abbrev crossed : ℕ → ℕ → Performed
crossed last first = perform (state_of opened_controller (image_with last first)) whole_crossing

-- Pages 2 and 3 read only by region 0, pages 0 to 7 all rights by region 1, no default rights; the creator page on with all
-- rights, but provision off; and initialised.
abbrev ruled : State
ruled =
    run after_reset (SetRegion 0 (region true 2 2 1) ∷ SetRegion 1 (region true 0 8 7) ∷ SetInfo 0 0 1 (record { on = true; rights = 7 }) ∷ Initialise ∷ [])

-- What a call answers there, and what it reports.
abbrev told : Call → ℕ × ℕ
told k = ((perform ruled k).reply.answer, (perform ruled k).reply.decider)

-- A round of a host read and a step there.
abbrev rounded : ℕ → Reply
rounded a = (perform ruled (Round (Some (record { 0 = a })) true)).reply

-- What each promise asks for, met.
pub record Met : Type 0 where
  -- every promise: the state that the calls begin with is valid
  pub shaped : Shaped after_reset.controller
  pub begins_valid : valid after_reset.controller ≡ true
  -- `Confined`: page 1 is protected along calls that erase a word of page 0
  pub guarded : protected_along (record { 0 = 1 }) after_reset (calls erase ++ (Step ∷ [])) ≡ true
  -- `NoneRises`, `NoneFalls`: along the same calls page 1 is neither erased nor programmed; it has a bit that is 0 and one that
  -- is 1
  pub unerased : unerased_along (record { 0 = 1 }) after_reset (calls erase ++ (Step ∷ [])) ≡ true
  pub unprogrammed : unprogrammed_along (record { 0 = 1 }) after_reset (calls erase ++ (Step ∷ [])) ≡ true
  pub low_of_page_1 : bit_of after_reset.flash (record { 0 = 256 }) 0 ≡ 0
  pub high_of_page_1 : bit_of after_reset.flash (record { 0 = 257 }) 0 ≡ 1
  -- `ExactlyItsWords`: the erase has 256 words left, and the image fits
  pub left : words_left (reached erase).controller ≡ 256
  pub fits : valid_with (reached erase).controller (reached erase).flash ≡ true
  -- `RisesByErase`: its first step makes a 0 bit 1
  pub low : bit_of (reached erase).flash (record { 0 = 0 }) 0 ≡ 0
  pub high : bit_of (run after_reset (calls erase ++ (Step ∷ []))).flash (record { 0 = 0 }) 0 ≡ 1
  -- `RefusedMovesNothing`, `RefusedUnknown`: a second start is refused
  pub refused : (perform (reached erase) (Start read)).reply.answer ≡ 4
  -- a round's step erases as well, and is refused where nothing is in progress, beside a host read that is accepted
  pub high_by_round : bit_of (run after_reset (calls erase ++ (Round None true ∷ []))).flash (record { 0 = 0 }) 0 ≡ 1
  pub refused_step : (perform (run after_reset opening) (Round (Some (record { 0 = 4 })) true)).reply.answer ≡ 12
  pub host_beside : (perform (run after_reset opening) (Round (Some (record { 0 = 4 })) true)).reply.host.word ≡ all_ones
  -- `RefusedHostServed`, `RefusedHostUnknown`: a host read of address 1 is refused, and the step waits for it
  pub refused_host : number_of (perform (reached erase) (Round (Some (record { 0 = 1 })) true)).reply.host.answer ≡ 5
  pub step_waits : (perform (reached erase) (Round (Some (record { 0 = 1 })) true)).reply.turn ≡ Waiting
  -- a pushed word is the one that a step programs
  pub stores : get_or (run (reached program) (Push 5 ∷ Step ∷ [])).flash.words 1 0 ≡ 5
  -- whole operations: the buffer's word is programmed, the 0 bit becomes 1, the read of page 1, denied there, puts ones into its
  -- one place
  pub whole_stores : get_or (run after_reset (opening ++ (Whole program (5 ∷ []) ∷ []))).flash.words 1 0 ≡ 5
  pub whole_high : bit_of (run after_reset (opening ++ (Whole erase [] ∷ []))).flash (record { 0 = 0 }) 0 ≡ 1
  pub whole_denied : (perform (run after_reset opening) (Whole read (5 ∷ 6 ∷ []))).reply.answer ≡ 9
  pub whole_ones : (perform (run after_reset opening) (Whole read (5 ∷ 6 ∷ []))).reply.buffer ≡ all_ones ∷ 6 ∷ []
  -- the read into page 1 is denied there: it delivers its true word and ones, and the address of the word of page 1 is recorded,
  pub cut_denied : (crossed 7 0).reply.answer ≡ 9
  pub cut_buffer : (crossed 7 0).reply.buffer ≡ 7 ∷ all_ones ∷ 8 ∷ []
  pub cut_address : (crossed 7 0).state.controller.errors.address ≡ record { 0 = 1024 }
  -- and so it does by steps
  pub cut_starts : (perform (run after_reset opening) (Start crossing)).reply.answer ≡ 9
  pub cut_recorded : (reached crossing).controller.errors.address ≡ record { 0 = 1024 }
  pub cut_true : (perform (run (reached crossing) (Step ∷ [])) Pop).reply.word ≡ 7
  pub cut_ones : (perform (run (reached crossing) (Step ∷ Pop ∷ Step ∷ [])) Pop).reply.word ≡ all_ones
  -- `RefusedUnknown`: images of one length that differ at its denied word agree at its true one, and it tells the same
  pub as_long : length (image_with 7 0).words ≡ length (image_with 7 1).words
  pub agree : words_at (image_with 7 0) (told_places opened_controller whole_crossing 9) ≡ words_at (image_with 7 1) (told_places opened_controller whole_crossing 9)
  pub tells_the_same : (crossed 7 1).reply.buffer ≡ (crossed 7 0).reply.buffer
  -- of images that differ at its true word it does not
  pub tells_apart : Alike opened_controller (image_with 7 0) (image_with 6 0) whole_crossing → ⊥
  -- `NamesDecider`: a program of page 2, which region 1 holds too, and a host read and a view of page 8, which no region does,
  pub by_region : told (Start (op 1 0 0 2048 1)) ≡ (9, 0)
  pub by_default : told (HostRead (record { 0 = 8192 })) ≡ (9, 8)
  pub view_by_default : told (ViewPage (record { 0 = 8 })) ≡ (9, 8)
  -- a read from page 7, which region 1 grants, into page 8,
  pub later_page : told (Start (op 0 0 0 8188 2)) ≡ (9, 8)
  -- a read of information pages 0 to 2, of which page 0 is off, and a whole read of the creator page, which is on,
  pub by_setting : told (Start (op 0 1 0 0 768)) ≡ (9, 9)
  pub by_seed_lock : told (Whole (op 0 1 0 1024 1) (5 ∷ [])) ≡ (9, 10)
  -- and a bank erase at page 0, which itself grants the erase right
  pub by_permission : told (Start (op 3 0 0 0 0)) ≡ (9, 11)
  -- `NoneElse`: a read of page 0 is accepted, one of address 2 malformed
  pub accepted : told (Start (op 0 0 0 0 1)) ≡ (0, no_decider)
  pub malformed_one : told (Start (op 0 0 0 2 1)) ≡ (5, no_decider)
  -- `HostNames`: a host read of page 8 in a round whose step is refused
  pub host_denied : number_of (rounded 8192).host.answer ≡ 9
  pub host_by_default : reported (rounded 8192).host.answer ≡ 8
  pub step_reports_none : (rounded 8192).decider ≡ no_decider
  -- `PastUnknown`: the read of page 1 has no true word, and that into page 1 one, past which it is after a step
  pub none_true : (reached read).controller.progress ≡ Some (Read read 0 0)
  pub past : (run (reached crossing) (Step ∷ [])).controller.progress ≡ Some (Read crossing 1 1)
  -- before it, a step of it tells of the image
  pub not_past : Alike (reached crossing).controller (image_with 7 0) (image_with 6 0) Step → ⊥

differ : ◌≡◌ {A = ℕ} 7 6 → ⊥
differ e = omega arith

pub met : Met
unfolding image_page word_at programmed total_words place_of held queue_of pushed oldest popped leading data_ruling seed_closed info_ruling ruling_at allowed_words denied decider_of readable_words malformed out_of_range crosses_window operation_answer settings_fit work_fits running_fits physical_fits valid flash_fits valid_with recorded error_address configured set_region set_info initialise_answer initialise start_answer start push_answer push stalls advance step_progress step pop_answer pop delivered read_word turn turns whole_answer drive whole host_answer host_read view_answer view would_move next_bank host_bank competes round perform ruling_of_page protected erasable programmable true_places
met = record {
  shaped = record { regions = refl; info = refl; erase = refl; reads = refl; programs = refl; lost = refl };
  begins_valid = refl;
  guarded = refl;
  unerased = refl;
  unprogrammed = refl;
  low_of_page_1 = refl;
  high_of_page_1 = refl;
  left = refl;
  fits = refl;
  low = refl;
  high = refl;
  refused = refl;
  high_by_round = refl;
  refused_step = refl;
  host_beside = refl;
  refused_host = refl;
  step_waits = refl;
  stores = refl;
  whole_stores = refl;
  whole_high = refl;
  whole_denied = refl;
  whole_ones = refl;
  cut_denied = refl;
  cut_buffer = refl;
  cut_address = refl;
  cut_starts = refl;
  cut_recorded = refl;
  cut_true = refl;
  cut_ones = refl;
  as_long = refl;
  agree = refl;
  tells_the_same = refl;
  tells_apart = λ same. differ (ap (λ (r : Reply). get_or r.buffer 0 0) same.reply);
  by_region = refl;
  by_default = refl;
  view_by_default = refl;
  later_page = refl;
  by_setting = refl;
  by_seed_lock = refl;
  by_permission = refl;
  accepted = refl;
  malformed_one = refl;
  host_denied = refl;
  host_by_default = refl;
  step_reports_none = refl;
  none_true = refl;
  past = refl;
  not_past = λ same. differ (ap (λ (c : Controller). oldest c.queues.reads) same.controller);
}
