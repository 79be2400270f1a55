-- A denied call names who decided, and every other answer reports none. Assumes nothing.
use Rattle.std.specs.Prelude.{None, Some, Err}
use Prim.Native.Nat.{ℕ, ◌+◌}
use mathlib.Core.Path.{◌≡◌, refl, sym, ◌∙◌}
use mathlib.Core.Bool.{Bool, true, false, ◌&&◌, ◌||◌, not, cond, true≢false}
use mathlib.Core.List.{List}
use lib.Dec.{ltb, leb, eqb}
use borrow.Author.Tests.{not-true, eq-eqb, ne_eqb}
use Rattle.model.specs.Geometry.{pages_fit, data_pages, page_of}
use Rattle.model.specs.State.{Flash, is_busy, is_ready}
use Rattle.model.specs.Queue.{is_empty, is_full}
use Rattle.model.specs.Rights.{ruling_at, allowed_words, denied, decider_of}
use Rattle.model.specs.Refusals.{number_of, decider_number, no_decider, reported, accepts, is_denied, check, or_else, ready_answer}
use Rattle.model.specs.Checks.{malformed, unaligned, out_of_range, past_data, crosses_window, operation_answer}
use Rattle.model.specs.Valid.{rights_fit, region_fits, page_fits, both_empty, valid, valid_with}
use Rattle.model.specs.Errors.{clear}
use Rattle.model.specs.Settings.{setting_answer, set_inputs, configured, set_region, set_default, info_exists, set_info, set_erase}
use Rattle.model.specs.Lifecycle.{reset, is_disabled, initialise_answer, initialise, rma_answer, rma}
use Rattle.model.specs.Steps.{start_answer, start, push_answer, push, pop_answer, pop, step_progress, step}
use Rattle.model.specs.Whole.{whole_answer, short_buffer, whole}
use Rattle.model.specs.Host.{unreadable, read_answer, host_answer, host_read, view_answer, view}
use Rattle.model.specs.Rounds.{round}
use Rattle.model.specs.declared.Page.{Page}
use Rattle.model.specs.declared.ByteAddress.{ByteAddress}
use Rattle.model.specs.declared.Operation.{Operation}
use Rattle.model.specs.declared.Work.TheVariants.{Read, Program, Erase}
use Rattle.model.specs.State.{Progress}
use Rattle.model.specs.declared.Setup.{Setup}
use Rattle.model.specs.declared.Controller.{Controller}
use Rattle.model.specs.declared.Decider.{Decider}
use Rattle.model.specs.declared.Phase.{Phase}
use Rattle.model.specs.declared.Phase.TheVariants as phase
use Rattle.model.specs.Refusals.{Answer}
use Rattle.model.specs.Refusals.{accepted}
use Rattle.model.specs.declared.Refusal.{Refusal}
use Rattle.model.specs.declared.Refusal.TheVariants.{Invalid, Disabled, Uninitialised, Busy, Malformed, ShortBuffer, OutOfRange, CrossesWindow, Denied, QueueEmpty, QueueFull, Unexpected, BadSetting}
use Rattle.model.proofs.Bool.{by_test}
use Rattle.model.proofs.Deciders.{denied_first}
use Rattle.model.proofs.StepLaws.{start_goes_on, start_stops, step_ready, step_unready, running_accepts}
use Rattle.model.proofs.Answers.{undenied_reports_none}
use Rattle.model.proofs.Free.{drive_answers}
use Rattle.model.proofs.Rounds.{BothAsked, host, instead, both, both_asked}
use Rattle.promises.specs.Calls.{Call, State, Reset, SetInputs, SetRegion, SetDefault, SetInfo, SetErase, Initialise, Start, Step, Push, Pop, Whole, HostRead, ViewPage, Clear, Rma, Round, perform}
use Rattle.promises.specs.Refused.{decided_by}
use Rattle.promises.specs.Named.{OperationNames, PageNames, Names, NamesDecider, NoneElse, HostNames, HostNoneElse}

-- ---- answers that report rightly

-- An answer: 9 reports n, and is given only where N holds of n; any other reports none.
record Right (n : ℕ) (N : ℕ → Type 0) (a : Answer) : Type 0 where
  says : reported a ≡ cond (is_denied a) n no_decider
  only : is_denied a ≡ true → N n

-- One that is not 9,
plain : {n : ℕ} {N : ℕ → Type 0} (a : Answer) → is_denied a ≡ false → Right n N a
plain a h = record { says = rw h (undenied_reports_none a h); only = λ e. absurd (true≢false (sym e ∙ h)) }

-- a check,
checks : {n : ℕ} {N : ℕ → Type 0} (t : Bool) (r : Refusal) → is_denied (Err r) ≡ false → Right n N (check t (Err r))
checks true r h = plain (Err r) h
checks false r h = plain accepted refl

-- the first of two that applies,
either : {n : ℕ} {N : ℕ → Type 0} (a b : Answer) → Right n N a → Right n N b → Right n N (or_else a b)
either a b r q = by_test (accepts a) (λ t. rw t q) (λ t. rw t r)

-- checks 1, 2 and 3,
ready : {n : ℕ} {N : ℕ → Type 0} (v : Bool) (p : Phase) → Right n N (ready_answer v p)
ready false p = plain (Err Invalid) refl
ready true phase.Uninitialised = plain (Err Uninitialised) refl
ready true phase.Ready = plain accepted refl
ready true phase.Disabled = plain (Err Disabled) refl

-- and check 9.
denies : {N : ℕ → Type 0} (d : Bool) (by : Decider) → (d ≡ true → N (decider_number by)) → Right (decider_number by) N (check d (Err (Denied by)))
denies true by h = record { says = refl; only = λ e. h refl }
denies false by h = plain accepted refl

-- ---- who denies

-- A denied operation: its bank's permission is off, or its first denied page is where the words before it end.
operation_named : (s : Setup) (o : Operation) → denied s o ≡ true → OperationNames s o (decider_number (decider_of s o))
unfolding denied decider_of
operation_named s o h = record {
  bank = λ b. record { lacks = not-true _ (rw b at h); named = rw b };
  page = λ b.
      let first = denied_first s o b h in
      (allowed_words s o, record { within = first.0; lacks = first.1; before = first.2; named = rw b });
}

-- So checks 5, 7, 8 and 9 are right of an operation,
abbrev OperationRight : Setup → Operation → Answer → Type 0
OperationRight s o = Right (decider_number (decider_of s o)) (OperationNames s o)

operation_right : (s : Setup) (o : Operation) → OperationRight s o (operation_answer s o)
unfolding operation_answer
operation_right s o =
    either _ _ (checks (malformed o) Malformed refl)
    (either _ _ (checks (out_of_range s.pages o) OutOfRange refl)
    (either _ _ (checks (crosses_window o) CrossesWindow refl) (denies (denied s o) (decider_of s o) (operation_named s o))))

-- and check 9 of a data page.
abbrev PageRight : Setup → Page → Answer → Type 0
PageRight s p = Right (decider_number (ruling_at s false 0 p).decider) (PageNames s p)

page_right : (s : Setup) (p : Page) → PageRight s p (read_answer s p)
page_right s p = denies (unreadable s p) (ruling_at s false 0 p).decider (λ h. record { lacks = not-true _ h; named = refl })

-- ---- each call's answer is right

-- An answer that is never 9.
abbrev Never : Answer → Type 0
Never = Right no_decider (λ by. ⊥)

-- Settings,
setting_right : (c : Controller) (fits : Bool) → Never (setting_answer c fits)
setting_right c fits =
    either _ _ (checks (not (valid c)) Invalid refl)
    (either _ _ (checks (is_busy c.progress) Busy refl) (checks (not fits) BadSetting refl))

-- initialise,
initialise_right : (c : Controller) (f : Flash) → Never (initialise_answer c f)
unfolding initialise_answer
initialise_right c f =
    either _ _ (checks (not (valid_with c f)) Invalid refl)
    (either _ _ (checks (is_disabled c.phase) Disabled refl) (checks (is_ready c.phase) Unexpected refl))

-- RMA,
rma_right : (c : Controller) (f : Flash) → Never (rma_answer c f)
unfolding rma_answer
rma_right c f =
    either _ _ (checks (not (valid_with c f)) Invalid refl)
    (either _ _ (checks (is_disabled c.phase) Disabled refl) (checks (is_busy c.progress) Busy refl))

-- start,
start_right : (c : Controller) (o : Operation) → OperationRight c.setup o (start c o).answer
unfolding start_answer
start_right c o =
    by_test (accepts (start_answer c))
    (λ e. rw (start_goes_on c o e) (operation_right c.setup o))
    (λ e. rw (start_stops c o e) (either _ _ (ready (valid c) c.phase) (checks (is_busy c.progress) Busy refl)))

-- a whole operation, which answers as its start,
whole_right : (c : Controller) (f : Flash) (o : Operation) (b : List ℕ) → OperationRight c.setup o (whole c f o b).result.answer
unfolding whole whole_answer
whole_right c f o b =
    by_test (accepts (whole_answer c f))
    (λ e.
    by_test (short_buffer o b)
    (λ t. rw (e, t) (plain (Err ShortBuffer) refl))
    (λ t. rw (e, t, drive_answers c.setup.pages o (start c o) f b) (start_right c o)))
    (λ e. rw e (either _ _ (ready (valid_with c f) c.phase) (checks (is_busy c.progress || not (both_empty c.queues)) Busy refl)))

-- push,
push_right : (c : Controller) (p : Progress) → Never (push_answer c p)
unfolding push_answer
push_right c None = plain (Err Unexpected) refl
push_right c (Some (Read o moved readable)) = plain (Err Unexpected) refl
push_right c (Some (Program o moved)) =
    either _ _ (checks (leb o.count (moved + c.queues.programs.len)) Unexpected refl) (checks (is_full c.queues.programs) QueueFull refl)
push_right c (Some (Erase o moved)) = plain (Err Unexpected) refl

-- pop,
pop_right : (c : Controller) → Never (pop_answer c)
unfolding pop_answer
pop_right c = either _ _ (checks (not (valid c)) Invalid refl) (checks (is_empty c.queues.reads) QueueEmpty refl)

-- step,
progress_right : (c : Controller) (f : Flash) (p : Progress) → Never (step_progress c f p).result.answer
unfolding step_progress
progress_right c f None = plain (Err Unexpected) refl
progress_right c f (Some w) = rw (running_accepts c f w) (plain accepted refl)

step_right : (c : Controller) (f : Flash) → Never (step c f).result.answer
step_right c f =
    by_test (accepts (ready_answer (valid_with c f) c.phase))
    (λ e. rw (step_ready c f e refl) (progress_right c f c.progress))
    (λ e. rw (step_unready c f e) (ready (valid_with c f) c.phase))

-- host read,
host_right : (c : Controller) (f : Flash) (a : ByteAddress) → PageRight c.setup (page_of a) (host_answer c f a)
unfolding host_answer
host_right c f a =
    either _ _ (ready (valid_with c f) c.phase)
    (either _ _ (checks (unaligned a) Malformed refl)
    (either _ _ (checks (past_data c.setup.pages a) OutOfRange refl) (page_right c.setup (page_of a))))

-- view,
view_right : (c : Controller) (f : Flash) (p : Page) → PageRight c.setup p (view_answer c f p)
unfolding view_answer
view_right c f p =
    either _ _ (ready (valid_with c f) c.phase)
    (either _ _ (checks (leb (data_pages c.setup.pages) p.0) OutOfRange refl) (page_right c.setup p))

-- and a round: its step,
round_right : (c : Controller) (f : Flash) {a : ByteAddress} → BothAsked c f a → Never (round c f (Some a) true).result.step.answer
unfolding host_read
round_right c f (host t few e) = rw e (plain accepted refl)
round_right c f (instead t many e) = rw e (step_right c f)
round_right c f (both t e) = rw e (step_right c f)

-- and the host.
beside_right : (c : Controller) (f : Flash) {a : ByteAddress} → BothAsked c f a
    → PageRight c.setup (page_of a) (round c f (Some a) true).result.host.answer
unfolding host_read
beside_right c f {a} (host t few e) = rw e (host_right c f a)
beside_right c f (instead t many e) = rw e (plain accepted refl)
beside_right c f {a} (both t e) = rw e (host_right c f a)

-- ---- so each call reports rightly

-- The numbers that a caller is told.
pub record Told (n : ℕ) (N : ℕ → Type 0) (answer decider : ℕ) : Type 0 where
  pub says : decider ≡ cond (eqb answer 9) n no_decider
  pub only : eqb answer 9 ≡ true → N n

tell : {n : ℕ} {N : ℕ → Type 0} {a : Answer} → Right n N a → Told n N (number_of a) (reported a)
tell r = record { says = r.says; only = r.only }

pub call_tells : (s : State) (k : Call) → Told (decided_by s k) (Names s k) (perform s k).reply.answer (perform s k).reply.decider
unfolding perform reset set_inputs configured set_region set_default set_info set_erase initialise push pop host_read view clear rma round
call_tells s (Reset d) = tell (checks (not (pages_fit d)) Invalid refl)
call_tells s (SetInputs i) = tell (setting_right s.controller true)
call_tells s (SetRegion n g) = tell (setting_right s.controller (ltb n 8 && region_fits s.controller.setup.pages g))
call_tells s (SetDefault r) = tell (setting_right s.controller (rights_fit r))
call_tells s (SetInfo bank t page p) = tell (setting_right s.controller (info_exists bank t page && page_fits p))
call_tells s (SetErase bank on) = tell (setting_right s.controller (ltb bank 2))
call_tells s Initialise = tell (initialise_right s.controller s.flash)
call_tells s (Start o) = tell (start_right s.controller o)
call_tells s Step = tell (step_right s.controller s.flash)
call_tells s (Push w) = tell (either _ _ (ready (valid s.controller) s.controller.phase) (push_right s.controller s.controller.progress))
call_tells s Pop = tell (pop_right s.controller)
call_tells s (Whole o b) = tell (whole_right s.controller s.flash o b)
call_tells s (HostRead a) = tell (host_right s.controller s.flash a)
call_tells s (ViewPage p) = tell (view_right s.controller s.flash p)
call_tells s Clear = tell (checks (not (valid s.controller)) Invalid refl)
call_tells s Rma = tell (rma_right s.controller s.flash)
call_tells s (Round None false) = tell (plain accepted refl)
call_tells s (Round None true) = tell (step_right s.controller s.flash)
call_tells s (Round (Some a) false) = tell (plain accepted refl)
call_tells s (Round (Some a) true) = tell (round_right s.controller s.flash (both_asked s.controller s.flash a))

host_tells : (s : State) (a : ByteAddress) (b : Bool)
    → Right (decided_by s (HostRead a)) (Names s (HostRead a)) (perform s (Round (Some a) b)).reply.host.answer
unfolding perform round host_read
host_tells s a false = host_right s.controller s.flash a
host_tells s a true = beside_right s.controller s.flash (both_asked s.controller s.flash a)

-- ---- the theorems

-- Where 9 is told, N holds of what is reported,
named : {n answer decider : ℕ} (N : ℕ → Type 0) → Told n N answer decider → answer ≡ 9 → N decider
named {n} {answer} N t e =
    let nine : eqb answer 9 ≡ true = eq-eqb answer 9 e in
    rw (t.says, nine) (t.only nine)

pub names_decider : NamesDecider
names_decider s k = named (Names s k) (call_tells s k)

pub host_names : HostNames
host_names s a b = named (Names s (HostRead a)) (tell (host_tells s a b))

-- and otherwise there is none.
pub none_else : NoneElse
none_else s k h = (call_tells s k).says ∙ rw (ne_eqb (perform s k).reply.answer 9 h)

pub host_none_else : HostNoneElse
host_none_else s h b n = undenied_reports_none (perform s (Round h b)).reply.host.answer (ne_eqb _ 9 n)
