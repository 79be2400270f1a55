-- A refused call moves nothing. Assumes nothing.
use Rattle.std.specs.Prelude.{None, Some}
use mathlib.Core.Path.{◌≡◌, refl, sym, ap, ◌∙◌}
use mathlib.Core.Bool.{true, false, cond}
use Rattle.model.specs.Kinds.{is_read}
use Rattle.model.specs.State.{is_busy}
use Rattle.model.specs.Rights.{readable_words}
use Rattle.model.specs.Refusals.{number_of, accepts, is_denied_read}
use Rattle.model.specs.Checks.{operation_answer}
use Rattle.model.specs.Valid.{valid}
use Rattle.model.specs.Errors.{clear}
use Rattle.model.specs.Settings.{set_inputs, configured, set_region, set_default, set_info, set_erase}
use Rattle.model.specs.Lifecycle.{reset, initialise, rma}
use Rattle.model.specs.Steps.{start_answer, progress_after, started, start, push, pop}
use Rattle.model.specs.Host.{host_answer, host_read, view}
use Rattle.model.specs.Rounds.{round}
use Rattle.model.specs.declared.ByteAddress.{ByteAddress}
use Rattle.model.specs.declared.Operation.{Operation}
use Rattle.model.specs.declared.Work.TheVariants.{Read}
use Rattle.model.specs.declared.Controller.{Controller}
use Rattle.model.specs.declared.Turn.TheVariants.{Served}
use Rattle.model.proofs.Bool.{and_left, by_test}
use Rattle.model.proofs.Answers.{accepts_not, unrecorded}
use Rattle.model.proofs.StepLaws.{read_work, start_goes_on, start_stops, step_refused}
use Rattle.model.proofs.Rounds.{BothAsked, host, instead, both, both_asked, competes_goes, goes_accepted}
use Rattle.promises.specs.Calls.{Call, State, Reset, SetInputs, SetRegion, SetDefault, SetInfo, SetErase, Initialise, Start, Step, Push, Pop, Whole, HostRead, ViewPage, Clear, Rma, Round, perform}
use Rattle.promises.specs.Refused.{left_by, refused_reply, Leaves, RefusedMovesNothing, RefusedHostServed}
use Rattle.promises.proofs.Unrecorded.{start_unrecorded}
use Rattle.promises.proofs.NamedProof.{call_tells}
use Rattle.promises.proofs.RefusedWholes.{whole_left}

-- A start refused with 5, 7, 8 or 9 starts nothing but a denied read, with its readable words;
progress_left : (c : Controller) (o : Operation) → accepts (operation_answer c.setup o) ≡ false
    → progress_after c o (operation_answer c.setup o)
    ≡ cond (is_denied_read o (number_of (operation_answer c.setup o))) (Some (Read o 0 (readable_words c.setup o))) c.progress
progress_left c o n =
    by_test (is_denied_read o (number_of (operation_answer c.setup o)))
    (λ d. rw (n, d, read_work c.setup o (and_left (is_read o) _ d))) (λ d. rw (n, d))

-- it is recorded,
started_left : (c : Controller) (o : Operation) → accepts (operation_answer c.setup o) ≡ false
    → (started c o (operation_answer c.setup o)).controller ≡ left_by c (Start o) (number_of (operation_answer c.setup o))
started_left c o n = rw (progress_left c o n)

-- and one refused with 1 to 4 leaves the controller as it was.
stopped_left : (c : Controller) (o : Operation) → c ≡ left_by c (Start o) (number_of (start_answer c))
unfolding start_answer
stopped_left c o = sym (start_unrecorded c o _ (unrecorded (valid c) c.phase (is_busy c.progress)))

-- So a refused start leaves what the table says.
start_left : (c : Controller) (o : Operation) → (number_of (start c o).answer ≡ 0 → ⊥)
    → (start c o).controller ≡ left_by c (Start o) (number_of (start c o).answer)
start_left c o h =
    by_test (accepts (start_answer c))
    (λ e. let go = start_goes_on c o e in rw go (started_left c o (accepts_not (operation_answer c.setup o) (rw go at h))))
    (λ e. rw (start_stops c o e) (stopped_left c o))

-- What it tells follows from what it reports.
leaves : (s : State) (k : Call) → (perform s k).state.flash ≡ s.flash
    → (perform s k).state.controller ≡ left_by s.controller k (perform s k).reply.answer
    → (perform s k).reply ≡ refused_reply s k (perform s k).reply.answer (perform s k).reply.decider → Leaves s k
leaves s k f c r = record {
  flash = f;
  controller = c;
  reply = r ∙ ap (refused_reply s k (perform s k).reply.answer) (call_tells s k).says;
}

-- A refused step does not compete, so a round of both leaves and tells what the step and the host read by themselves do.
both_left : (s : State) {a : ByteAddress} → BothAsked s.controller s.flash a
    → ((perform s (Round (Some a) true)).reply.answer ≡ 0 → ⊥) → Leaves s (Round (Some a) true)
unfolding perform host_read
both_left s (host t few e) h = absurd (h (rw e))
both_left s {a} (instead t many e) h =
    absurd (h (rw e (ap number_of (goes_accepted s.controller s.flash (competes_goes s.controller s.flash a t)))))
both_left s {a} (both t e) h =
    let r = step_refused s.controller s.flash (rw e at h) in leaves s (Round (Some a) true) (rw (e, r)) (rw (e, r)) (rw (e, r))

-- Every refused call leaves what the table says.
pub refused_moves_nothing : RefusedMovesNothing
unfolding perform reset set_inputs configured set_region set_default set_info set_erase initialise push pop host_read view clear rma round
refused_moves_nothing s (Reset d) h = leaves s (Reset d) refl (rw (accepts_not _ h)) refl
refused_moves_nothing s (SetInputs i) h = leaves s (SetInputs i) refl (rw (accepts_not _ h)) refl
refused_moves_nothing s (SetRegion n g) h = leaves s (SetRegion n g) refl (rw (accepts_not _ h)) refl
refused_moves_nothing s (SetDefault r) h = leaves s (SetDefault r) refl (rw (accepts_not _ h)) refl
refused_moves_nothing s (SetInfo bank t page p) h = leaves s (SetInfo bank t page p) refl (rw (accepts_not _ h)) refl
refused_moves_nothing s (SetErase bank on) h = leaves s (SetErase bank on) refl (rw (accepts_not _ h)) refl
refused_moves_nothing s Initialise h = leaves s Initialise refl (rw (accepts_not _ h)) (rw (accepts_not _ h))
refused_moves_nothing s (Start o) h = leaves s (Start o) refl (start_left s.controller o h) refl
refused_moves_nothing s Step h =
    let e = step_refused s.controller s.flash h in leaves s Step (rw e) (rw e) (rw e)
refused_moves_nothing s (Push w) h = leaves s (Push w) refl (rw (accepts_not _ h)) refl
refused_moves_nothing s Pop h = leaves s Pop refl (rw (accepts_not _ h)) (rw (accepts_not _ h))
refused_moves_nothing s (Whole o b) h =
    let e = whole_left s.controller s.flash o b h in leaves s (Whole o b) (rw e) (rw e) (rw e)
refused_moves_nothing s (HostRead a) h = leaves s (HostRead a) refl refl (rw (accepts_not _ h))
refused_moves_nothing s (ViewPage p) h = leaves s (ViewPage p) refl refl (rw (accepts_not _ h))
refused_moves_nothing s Clear h = leaves s Clear refl (rw (accepts_not _ h)) refl
refused_moves_nothing s Rma h = leaves s Rma (rw (accepts_not _ h)) (rw (accepts_not _ h)) refl
refused_moves_nothing s (Round None false) h = absurd (h refl)
refused_moves_nothing s (Round None true) h =
    let e = step_refused s.controller s.flash h in leaves s (Round None true) (rw e) (rw e) (rw e)
refused_moves_nothing s (Round (Some a) false) h = absurd (h refl)
refused_moves_nothing s (Round (Some a) true) h = both_left s (both_asked s.controller s.flash a) h

-- A refused host read uses its turn, beside a step too.
both_served : (s : State) {a : ByteAddress} → BothAsked s.controller s.flash a
    → (number_of (perform s (Round (Some a) true)).reply.host.answer ≡ 0 → ⊥)
    → ((perform s (Round (Some a) true)).reply.host.turn ≡ Served) × ((perform s (Round (Some a) true)).reply.host.word ≡ 0)
unfolding perform host_read
both_served s {a} (host t few e) h = let n = accepts_not (host_answer s.controller s.flash a) (rw e at h) in (rw e, rw (e, n))
both_served s (instead t many e) h = absurd (h (rw e))
both_served s {a} (both t e) h = let n = accepts_not (host_answer s.controller s.flash a) (rw e at h) in (rw e, rw (e, n))

pub refused_host_served : RefusedHostServed
unfolding perform round host_read
refused_host_served s None false h = absurd (h refl)
refused_host_served s None true h = absurd (h refl)
refused_host_served s (Some a) false h = (refl, rw (accepts_not _ h))
refused_host_served s (Some a) true h = both_served s (both_asked s.controller s.flash a) h
