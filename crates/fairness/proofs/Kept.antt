-- While a step that could move a word waits, no call but reset takes that from it. Assumes nothing.
use Rattle.std.specs.Prelude.{None, Some, Err}
use Prim.Native.Nat.{ℕ, ◌+◌, ◌<◌}
use native.Mathlib.Omega.{arith}
use mathlib.Core.Path.{◌≡◌, refl}
use mathlib.Core.Bool.{Bool, true, false, not, true≢false}
use lib.Dec.{eqb}
use lib.ListN.{get_or}
use borrow.Author.Tests.{leb-false, lt-leb, ne_eqb}
use Rattle.model.specs.Queue.{pushed, popped}
use Rattle.model.specs.State.{Flash, no_errors, is_ready, is_busy, with_reads, with_programs, with_physical}
use Rattle.model.specs.Places.{total_words}
use Rattle.model.specs.Refusals.{accepts, check, or_else, ready_answer}
use Rattle.model.specs.Errors.{clear}
use Rattle.model.specs.Settings.{setting_answer, set_inputs, configured, set_region, set_default, set_info, set_erase}
use Rattle.model.specs.Lifecycle.{is_disabled, initialise_answer, initialise, rma_answer, rma}
use Rattle.model.specs.Valid.{valid, valid_with}
use Rattle.model.specs.Steps.{start_answer, push, pop_answer, pop, stalls, movement, advance, step}
use Rattle.model.specs.Host.{host_read}
use Rattle.model.specs.Whole.{whole_answer, whole}
use Rattle.model.specs.Rounds.{would_move, next_bank, host_goes, round}
use Rattle.model.specs.declared.ByteAddress.{ByteAddress}
use Rattle.model.specs.declared.Errors.{Errors}
use Rattle.model.specs.declared.Queues.{Queues}
use Rattle.model.specs.declared.Physical.{Physical}
use Rattle.model.specs.declared.Work.{Work}
use Rattle.model.specs.declared.Work.TheVariants.{Read, Program, Erase}
use Rattle.model.specs.Refusals.{Answer}
use Rattle.model.specs.declared.Refusal.TheVariants.{Invalid, Disabled}
use Rattle.model.specs.declared.Controller.{Controller}
use Rattle.model.proofs.Bool.{by_test}
use Rattle.model.proofs.Valid.{changed}
use Rattle.model.proofs.Answers.{both_accept, ready_passed, ready_accepts}
use Rattle.model.proofs.Moving.{queue_bounds, with_valid, with_fits}
use Rattle.model.proofs.QueueLaws.{push_adds_one, pop_takes_one}
use Rattle.model.proofs.StepLaws.{start_stops}
use Rattle.model.proofs.Accepting.{ready_valid}
use Rattle.model.proofs.Rounds.{Goes, would_go, goes_would, goes_moves, host_goes_counts, BothAsked, host, instead, both, both_asked}
use Rattle.promises.specs.Calls.{Call, State, Shaped, Reset, SetInputs, SetRegion, SetDefault, SetInfo, SetErase, Initialise, Start, Step, Push, Pop, Whole, HostRead, ViewPage, Clear, Rma, Round, perform}
use Rattle.promises.proofs.Validity.{call_keeps}
use Rattle.promises.proofs.KeepQueues.{pushable}
use Rattle.fairness.specs.Fair.{is_reset, asked_by, moves, lost_turns, Waits}

-- What is left of a step that could move a word: it waits, after so many turns more.
pub record Kept (s n : State) (more : ℕ) : Type 0 where
  pub waits : Waits s n
  pub lost : lost_turns n.controller ≡ lost_turns s.controller + more

-- A call tells that a word moved, or keeps the step waiting: a turn more is lost only where it is asked.
pub data After (s : State) (k : Call) : Type 0 where
  moved : moves (perform s k).reply.movement ≡ true → After s k
  kept : Kept s (perform s k).state (asked_by k) → After s k

-- The controller with other errors, queues and counts.
abbrev remaining : Controller → Errors → Queues → Physical → Controller
remaining c es q p = with_physical (changed c c.phase es q c.progress) p

-- ---- checks that refuse

-- A chain refuses if its rest does.
refuses : (a b : Answer) → accepts b ≡ false → accepts (or_else a b) ≡ false
refuses a b h = by_test (accepts a) (λ e. rw e h) (λ e. rw e e)

-- ---- a word that moves is told

movement_moves : (n k : ℕ) → moves (Some (movement n k)) ≡ true
movement_moves n k = by_test (eqb (k + 1) n) (λ e. rw e) (λ e. rw e)

advance_moves : (c : Controller) (f : Flash) (w : Work) → moves (advance c f w).result.movement ≡ true
unfolding advance
advance_moves c f (Read o k readable) = movement_moves (total_words c.setup.pages o) k
advance_moves c f (Program o k) = movement_moves (total_words c.setup.pages o) k
advance_moves c f (Erase o k) = movement_moves (total_words c.setup.pages o) k

module _ (s : State) (shaped : Shaped s.controller) (could : would_move s.controller s.flash ≡ true) where
  -- ---- the state that waits

  going : Goes s.controller s.flash
  going = would_go s.controller s.flash could

  fits : valid_with s.controller s.flash ≡ true
  fits = ready_valid (valid_with s.controller s.flash) s.controller.phase going.ready

  pub is_valid : valid s.controller ≡ true
  is_valid = with_valid s.controller s.flash fits

  ready : is_ready s.controller.phase ≡ true
  ready = ready_passed (valid_with s.controller s.flash) s.controller.phase going.ready

  busy : is_busy s.controller.progress ≡ true
  busy = rw going.running

  -- ---- a call that leaves all as it was

  unchanged : (n : State) → n ≡ s → Kept s n 0
  unchanged n e = rw e (record { waits = record { progress = refl; bank = refl; flash = refl; could = could }; lost = omega arith })

  -- ---- a call that leaves the work, and queues with which it does not wait either

  remade : (k : Call) (es : Errors) (q : Queues) (p : Physical) (more : ℕ)
      → (perform s k).state ≡ record { controller = remaining s.controller es q p; flash = s.flash }
      → stalls q going.work ≡ false → get_or p.lost (next_bank s.controller) 0 ≡ lost_turns s.controller + more
      → Kept s (perform s k).state more
  unfolding valid_with next_bank
  remade k es q p more e flows count =
      let c = remaining s.controller es q p in
      let v : valid c ≡ true = rw e at (call_keeps s k shaped is_valid).1 in
      let w : valid_with c s.flash ≡ true = rw v (with_fits s.controller s.flash fits) in
      let goes : Goes c s.flash = record {
        work = going.work;
        ready = rw w (ready_accepts s.controller.phase ready);
        running = going.running;
        flows = flows;
      } in
      rw e (record { waits = record { progress = refl; bank = refl; flash = refl; could = goes_would c s.flash goes }; lost = count })

  -- Other errors or queues leave the counts.
  requeued : (k : Call) (es : Errors) (q : Queues)
      → (perform s k).state ≡ record { controller = remaining s.controller es q s.controller.physical; flash = s.flash }
      → stalls q going.work ≡ false → Kept s (perform s k).state 0
  requeued k es q e flows = remade k es q s.controller.physical 0 e flows (omega arith)

  -- ---- with work in progress, checks 4 and 12 refuse

  setting_refused : (fit : Bool) → accepts (setting_answer s.controller fit) ≡ false
  setting_refused fit = refuses (check (not (valid s.controller)) (Err Invalid)) _ (rw busy)

  start_refused : accepts (start_answer s.controller) ≡ false
  unfolding start_answer
  start_refused = refuses (ready_answer (valid s.controller) s.controller.phase) _ (rw busy)

  whole_refused : accepts (whole_answer s.controller s.flash) ≡ false
  unfolding whole_answer
  whole_refused = refuses (ready_answer (valid_with s.controller s.flash) s.controller.phase) _ (rw busy)

  initialise_refused : accepts (initialise_answer s.controller s.flash) ≡ false
  unfolding initialise_answer
  initialise_refused =
      refuses (check (not (valid_with s.controller s.flash)) (Err Invalid)) _ (refuses (check (is_disabled s.controller.phase) (Err Disabled)) _ (rw ready))

  rma_refused : accepts (rma_answer s.controller s.flash) ≡ false
  unfolding rma_answer
  rma_refused =
      refuses (check (not (valid_with s.controller s.flash)) (Err Invalid)) _ (refuses (check (is_disabled s.controller.phase) (Err Disabled)) _ (rw busy))

  -- ---- queues

  -- A pop leaves room in the read queue,
  pop_flows : (w : Work) → stalls s.controller.queues w ≡ false
      → stalls (with_reads s.controller.queues (popped s.controller.queues.reads)) w ≡ false
  unfolding stalls
  pop_flows (Read o k r) h =
      let few = leb-false 16 s.controller.queues.reads.len h in
      let taken = pop_takes_one s.controller.queues.reads (queue_bounds s.controller is_valid).0 shaped.reads in
      lt-leb 16 (popped s.controller.queues.reads).len (omega arith)
  pop_flows (Program o k) h = h
  pop_flows (Erase o k) h = h

  -- and a push a word in the program queue.
  push_flows : (n : ℕ) (w : Work) → s.controller.queues.programs.len < 16 → stalls s.controller.queues w ≡ false
      → stalls (with_programs s.controller.queues (pushed s.controller.queues.programs n)) w ≡ false
  unfolding stalls
  push_flows n (Read o k r) room h = h
  push_flows n (Program o k) room h =
      let added = push_adds_one s.controller.queues.programs n room shaped.programs in
      ne_eqb (pushed s.controller.queues.programs n).len 0 (λ z. omega arith)
  push_flows n (Erase o k) room h = h

  push_kept : (n : ℕ) → Kept s (perform s (Push n)).state 0
  unfolding perform push
  push_kept n =
      by_test (accepts (push s.controller n).answer)
      (λ e.
      let room = (pushable s.controller s.controller.progress (both_accept (ready_answer (valid s.controller) s.controller.phase) _ e).1).room in
      requeued (Push n) s.controller.errors _ (rw e) (push_flows n going.work room going.flows))
      (λ e. unchanged _ (rw e))

  pop_kept : Kept s (perform s Pop).state 0
  unfolding perform pop
  pop_kept =
      by_test (accepts (pop_answer s.controller))
      (λ e. requeued Pop s.controller.errors _ (rw e) (pop_flows going.work going.flows))
      (λ e. unchanged _ (rw e))

  clear_kept : Kept s (perform s Clear).state 0
  unfolding perform clear
  clear_kept = requeued Clear no_errors s.controller.queues (rw is_valid) going.flows

  -- ---- steps and rounds

  step_moves : moves (step s.controller s.flash).result.movement ≡ true
  step_moves = rw (goes_moves s.controller s.flash going) (advance_moves s.controller s.flash going.work)

  -- In a round of both the host goes, and the bank loses a turn, or a word moves.
  both_after : {a : ByteAddress} → BothAsked s.controller s.flash a → After s (Round (Some a) true)
  unfolding perform host_read
  both_after {a} (host t few e) =
      let after = (host_goes s.controller s.flash a).result.controller in
      kept (remade (Round (Some a) true) s.controller.errors s.controller.queues after.physical 1 (rw e) going.flows
      (host_goes_counts s.controller s.flash a shaped.lost))
  both_after (instead t many e) = moved (rw e step_moves)
  both_after (both t e) = moved (rw e step_moves)

  -- ---- every call but reset

  pub after : (k : Call) → is_reset k ≡ false → After s k
  unfolding perform set_inputs configured set_region set_default set_info set_erase initialise rma whole host_read round
  after (Reset d) h = absurd (true≢false h)
  after (SetInputs i) h = kept (unchanged _ (rw (setting_refused true)))
  after (SetRegion n r) h = kept (unchanged _ (rw (setting_refused _)))
  after (SetDefault r) h = kept (unchanged _ (rw (setting_refused _)))
  after (SetInfo bank t page p) h = kept (unchanged _ (rw (setting_refused _)))
  after (SetErase bank on) h = kept (unchanged _ (rw (setting_refused _)))
  after Initialise h = kept (unchanged _ (rw initialise_refused))
  after (Start o) h = kept (unchanged _ (rw (start_stops s.controller o start_refused)))
  after Step h = moved step_moves
  after (Push n) h = kept (push_kept n)
  after Pop h = kept pop_kept
  after (Whole o b) h = kept (unchanged _ (rw whole_refused))
  after (HostRead a) h = kept (unchanged _ refl)
  after (ViewPage p) h = kept (unchanged _ refl)
  after Clear h = kept clear_kept
  after Rma h = kept (unchanged _ (rw rma_refused))
  after (Round None false) h = kept (unchanged _ refl)
  after (Round None true) h = moved step_moves
  after (Round (Some a) false) h = kept (unchanged _ refl)
  after (Round (Some a) true) h = both_after (both_asked s.controller s.flash a)
