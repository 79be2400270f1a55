-- A refused call moves no flash, and leaves the controller and its reply exactly as 01's table and 02's L3 say.
use Rattle.std.specs.Prelude.{None, Some}
use Rattle.std.specs.Prelude.{ℕ, ◌-◌, ◌≡◌, Bool, false, cond, List, [], ◌++◌, eqb, drop, replicate}
use Rattle.model.specs.Geometry.{page_of}
use Rattle.model.specs.Words.{all_ones}
use Rattle.model.specs.Queue.{empty_queue}
use Rattle.model.specs.State.{with_progress, with_queues, with_reads}
use Rattle.model.specs.Errors.{with_recorded}
use Rattle.model.specs.Rights.{ruling_at, decider_of, readable_words}
use Rattle.model.specs.Refusals.{number_of, decider_number, no_decider, is_denied_read}
use Rattle.model.specs.Lifecycle.{no_seeds}
use Rattle.model.specs.Host.{View, host_read}
use Rattle.model.specs.Rounds.{host_unserved, host_served}
use Rattle.model.specs.declared.Operation.{Operation}
use Rattle.model.specs.declared.Work.TheVariants.{Read}
use Rattle.model.specs.declared.Controller.{Controller}
use Rattle.model.specs.Rounds.{HostRequest}
use Rattle.model.specs.declared.Turn.TheVariants.{Unasked, Served}
use Rattle.model.specs.declared.HostTurn.{HostTurn}
use Rattle.plans.specs.Plan.{true_places, words_at}
use Rattle.promises.specs.Calls.{Call, State, Reply, Reset, SetInputs, SetRegion, SetDefault, SetInfo, SetErase, Initialise, Start, Step, Push, Pop, Whole, HostRead, ViewPage, Clear, Rma, Round, no_view, plainly, with_turns, told, perform}

-- A refused start has started nothing but a denied read, whose words before the first denied page are readable.
abbrev pub started_by : Controller → Operation → ℕ → Controller
started_by c o n =
    with_progress (with_recorded c n o)
    (cond (is_denied_read o n) (Some (Read o 0 (readable_words c.setup o))) c.progress)

-- A refused whole operation has run nothing but a denied read, whose words went through the read queue.
abbrev pub driven_by : Controller → Operation → ℕ → Controller
driven_by c o n = with_queues (with_recorded c n o) (cond (is_denied_read o n) (with_reads c.queues empty_queue) c.queues)

-- The lent buffer: a denied read puts its true words and then ones into its first n places, any other refusal leaves it as it was.
abbrev pub buffer_by : State → Operation → List ℕ → ℕ → List ℕ
buffer_by s o b n =
    cond (is_denied_read o n)
    (words_at s.flash (true_places s.controller.setup o)
    ++ (replicate (o.count - readable_words s.controller.setup o) all_ones ++ drop o.count b))
    b

-- What refusal n leaves of the controller: 5, 7, 8 and 9 of an operation are recorded. Else all is unchanged.
abbrev pub left_by : Controller → Call → ℕ → Controller
left_by c (Reset d) n = c
left_by c (SetInputs i) n = c
left_by c (SetRegion k g) n = c
left_by c (SetDefault r) n = c
left_by c (SetInfo bank t page p) n = c
left_by c (SetErase bank on) n = c
left_by c Initialise n = c
left_by c (Start o) n = started_by c o n
left_by c Step n = c
left_by c (Push w) n = c
left_by c Pop n = c
left_by c (Whole o b) n = driven_by c o n
left_by c (HostRead a) n = c
left_by c (ViewPage p) n = c
left_by c Clear n = c
left_by c Rma n = c
left_by c (Round h b) n = c

-- Beside a refused step, a round tells the host what its own call would. (02, L1)
abbrev pub host_told : State → HostRequest → HostTurn
host_told s None = host_unserved Unasked
host_told s (Some a) = host_served (host_read s.controller s.flash a)

-- Who decides where a call is denied: of an operation who denies it, of a host read or view whoever decides its data page.
-- No other call is denied. (02, L2)
abbrev pub decided_by : State → Call → ℕ
decided_by s (Reset d) = no_decider
decided_by s (SetInputs i) = no_decider
decided_by s (SetRegion k g) = no_decider
decided_by s (SetDefault r) = no_decider
decided_by s (SetInfo bank t page p) = no_decider
decided_by s (SetErase bank on) = no_decider
decided_by s Initialise = no_decider
decided_by s (Start o) = decider_number (decider_of s.controller.setup o)
decided_by s Step = no_decider
decided_by s (Push w) = no_decider
decided_by s Pop = no_decider
decided_by s (Whole o b) = decider_number (decider_of s.controller.setup o)
decided_by s (HostRead a) = decider_number (ruling_at s.controller.setup false 0 (page_of a)).decider
decided_by s (ViewPage p) = decider_number (ruling_at s.controller.setup false 0 p).decider
decided_by s Clear = no_decider
decided_by s Rma = no_decider
decided_by s (Round h b) = no_decider

-- 'Refusal 9 reports it'; any other answer n reports none.
abbrev pub report_of : State → Call → ℕ → ℕ
report_of s k n = cond (eqb n 9) (decided_by s k) no_decider

-- A refused view is empty, and starts where the image does.
abbrev pub refused_view : ℕ → ℕ → View
refused_view n by = record { number = n; decider = by; start = record { 0 = 0 }; words = [] }

-- Any refusal gives its number n, the decider that it reports, and otherwise a word of 0, a bit count of 0, no seeds and an
-- empty view; a whole operation's comes with its buffer.
abbrev pub refused_reply : State → Call → ℕ → ℕ → Reply
refused_reply s (Reset d) n by = told n by
refused_reply s (SetInputs i) n by = told n by
refused_reply s (SetRegion k g) n by = told n by
refused_reply s (SetDefault r) n by = told n by
refused_reply s (SetInfo bank t page p) n by = told n by
refused_reply s (SetErase bank on) n by = told n by
refused_reply s Initialise n by = told n by
refused_reply s (Start o) n by = told n by
refused_reply s Step n by = told n by
refused_reply s (Push w) n by = told n by
refused_reply s Pop n by = told n by
refused_reply s (Whole o b) n by = plainly n by None 0 0 no_seeds no_view (buffer_by s o b n)
refused_reply s (HostRead a) n by = told n by
refused_reply s (ViewPage p) n by = plainly n by None 0 0 no_seeds (refused_view n by) []
refused_reply s Clear n by = told n by
refused_reply s Rma n by = told n by
refused_reply s (Round h b) n by = with_turns (told n by) Served (host_told s h)

pub record Leaves (s : State) (k : Call) : Type 0 where
  pub flash : (perform s k).state.flash ≡ s.flash
  pub controller : (perform s k).state.controller ≡ left_by s.controller k (perform s k).reply.answer
  pub reply : (perform s k).reply
      ≡ refused_reply s k (perform s k).reply.answer (report_of s k (perform s k).reply.answer)

abbrev pub RefusedMovesNothing : Type 0
RefusedMovesNothing = (s : State) (k : Call) → ((perform s k).reply.answer ≡ 0 → ⊥) → Leaves s k

-- A refused host read uses its turn in a round, and tells the word 0, whatever the step does. (02, L1)
abbrev pub RefusedHostServed : Type 0
RefusedHostServed =
    (s : State) (h : HostRequest) (b : Bool) → (number_of (perform s (Round h b)).reply.host.answer ≡ 0 → ⊥)
    → ((perform s (Round h b)).reply.host.turn ≡ Served) × ((perform s (Round h b)).reply.host.word ≡ 0)
