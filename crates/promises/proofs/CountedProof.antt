-- Exactly its words. Assumes nothing.
use Rattle.std.specs.Prelude.{None, Some, Option, Err}
use Prim.Native.Nat.{ℕ, ◌+◌, ◌-◌, ◌<◌}
use native.Mathlib.Omega.{arith}
use mathlib.Core.Path.{◌≡◌, refl, sym, ap, ◌∙◌}
use mathlib.Core.Bool.{Bool, true, false, and-true}
use mathlib.Core.List.{List, ◌∷◌}
use lib.Dec.{eqb}
use lib.ListN.{length, length-set}
use borrow.Author.Tests.{eqb-true, eqb-false, eq-eqb, lt-ltb}
use Rattle.model.specs.Places.{total_words}
use Rattle.model.specs.State.{Flash, Leaves, operation_of, moved_of}
use Rattle.model.specs.Refusals.{number_of, accepts, ready_answer}
use Rattle.model.specs.Valid.{valid, valid_with}
use Rattle.model.specs.Steps.{progressed, movement, moved, stalls, advance, still, step_progress, step, push, pop}
use Rattle.model.specs.Host.{host_read}
use Rattle.model.specs.Rounds.{round}
use Rattle.model.specs.declared.ByteAddress.{ByteAddress}
use Rattle.model.specs.Rounds.{HostRequest}
use Rattle.model.specs.Refusals.{Answer}
use Rattle.model.specs.Refusals.{accepted}
use Rattle.model.specs.declared.Refusal.TheVariants.{Unexpected}
use Rattle.model.specs.declared.Queues.{Queues}
use Rattle.model.specs.declared.Stepped.{Stepped}
use Rattle.model.specs.declared.Movement.{Movement}
use Rattle.model.specs.declared.Movement.TheVariants.{Stalled}
use Rattle.model.specs.declared.Work.{Work}
use Rattle.model.specs.declared.Work.TheVariants.{Read, Program, Erase}
use Rattle.model.specs.State.{Progress}
use Rattle.model.specs.declared.Controller.{Controller}
use Rattle.model.proofs.Bool.{by_test}
use Rattle.model.proofs.Flashes.{same_fits}
use Rattle.model.proofs.Moving.{busy_parts, with_valid, with_fits}
use Rattle.model.proofs.StepLaws.{advance_accepts, step_ready, step_unready, busy_steps}
use Rattle.model.proofs.Rounds.{BothAsked, host, instead, both, both_asked}
use Rattle.promises.specs.Calls.{Call, State, Shaped, Step, Push, Pop, Round, perform, replies}
use Rattle.promises.specs.Counted as driving
use Rattle.promises.specs.Counted.{left_of, words_left, counted_by, left_after, counted, ExactlyItsWords, MovesOrWaits}
use Rattle.promises.proofs.Validity.{call_keeps}

-- ---- the step that moves word k of n

module _ (n k : ℕ) (some : k < n) where
  -- leaves one word fewer,
  progressed_left : (d : ℕ) (next : Work) → left_of d (Some next) ≡ n - (k + 1) → left_of d (progressed n k next) + 1 ≡ n - k
  progressed_left d next e =
      by_test (eqb (k + 1) n)
      (λ t. rw t (omega (arith, eqb-true (k + 1) n t)))
      (λ t. rw t (omega arith))

  -- answers finished if it is the last and moved if it is not,
  movement_counts : counted_by (n - k) (Some (movement n k)) true ≡ true
  movement_counts =
      by_test (eqb (k + 1) n)
      (λ t. rw (t, and-true) (eq-eqb (n - k) 1 (omega (arith, eqb-true (k + 1) n t))))
      (λ t. rw (t, and-true) (lt-ltb 1 (n - k) (omega (arith, eqb-false (k + 1) n t))))

  -- and counts as one.
  movement_left : left_after (n - k) (Some (movement n k)) ≡ n - k - 1
  movement_left = by_test (eqb (k + 1) n) (λ t. rw t) (λ t. rw t)

-- ---- a step of work in progress

-- A step with so many words left moves one: it leaves one fewer, and its answer says so.
record Moves (c : Controller) (f : Flash) (words : ℕ) (l : Leaves Stepped) : Type 0 where
  pages : l.result.controller.setup.pages ≡ c.setup.pages
  long : length l.flash.words ≡ length f.words
  left : words_left l.result.controller + 1 ≡ words
  counts : counted_by words l.result.movement true ≡ true
  after : left_after words l.result.movement ≡ words - 1

word_moves : (c : Controller) (f g : Flash) {n : ℕ} (k : ℕ) (q : Queues) (next : Work) (bits : ℕ) → k < n
    → left_of c.setup.pages (Some next) ≡ n - (k + 1) → length g.words ≡ length f.words
    → Moves c f (n - k) (record { result = moved c n k q next bits; flash = g })
word_moves c f g {n} k q next bits some e long = record {
  pages = refl;
  long = long;
  left = progressed_left n k some c.setup.pages next e;
  counts = movement_counts n k some;
  after = movement_left n k some;
}

-- Whatever it moves.
advance_moves : (c : Controller) (f : Flash) (w : Work) → moved_of w < total_words c.setup.pages (operation_of w)
    → Moves c f (left_of c.setup.pages (Some w)) (advance c f w)
unfolding advance
advance_moves c f (Read o k readable) h = word_moves c f f k _ (Read o (k + 1) readable) 0 h refl refl
advance_moves c f (Program o k) h = word_moves c f _ k _ (Program o (k + 1)) _ h refl (simp length-set)
advance_moves c f (Erase o k) h = word_moves c f _ k _ (Erase o (k + 1)) _ h refl (simp length-set)

-- So a step moves a word of the work in progress, if it does not wait.
busy_moves : (c : Controller) (f : Flash) (w : Work) → valid_with c f ≡ true → c.progress ≡ Some w
    → Moves c f (left_of c.setup.pages (Some w)) (advance c f w)
busy_moves c f w h e = advance_moves c f w (busy_parts c w (with_valid c f h) e).left

-- A step moves whenever it can, and waits otherwise.
pub moves_or_waits : MovesOrWaits
unfolding perform step_progress
moves_or_waits s w shaped h e =
    let go = busy_steps s.controller s.flash w h e in
    let some = busy_moves s.controller s.flash w h e in
    let words = ap (left_of s.controller.setup.pages) e in (
      λ t. rw (go, t) (ap number_of (advance_accepts s.controller s.flash w), some.left ∙ sym words),
      λ t. rw (go, t) (refl, refl, refl),
    )

-- ---- steps, pushes, pops and rounds

-- A driving call keeps D and the image's length, and tells what is left.
record Tells (s : State) (k : Call) : Type 0 where
  pages : (perform s k).state.controller.setup.pages ≡ s.controller.setup.pages
  long : length (perform s k).state.flash.words ≡ length s.flash.words
  counts : counted_by (words_left s.controller) (perform s k).reply.movement true ≡ true
  after : left_after (words_left s.controller) (perform s k).reply.movement ≡ words_left (perform s k).state.controller

-- A push and a pop tell nothing, and leave what is in progress.
push_tells : (s : State) (w : ℕ) → Tells s (Push w)
unfolding perform push
push_tells s w =
    by_test (accepts (push s.controller w).answer)
    (λ e. record { pages = rw e; long = refl; counts = refl; after = rw e })
    (λ e. record { pages = rw e; long = refl; counts = refl; after = rw e })

pop_tells : (s : State) → Tells s Pop
unfolding perform pop
pop_tells s =
    by_test (accepts (pop s.controller).answer)
    (λ e. record { pages = rw e; long = refl; counts = refl; after = rw e })
    (λ e. record { pages = rw e; long = refl; counts = refl; after = rw e })

-- A step that changes nothing and does not count.
still_tells : (s : State) (a : Answer) (m : Option Movement) → step s.controller s.flash ≡ still s.controller a m s.flash
    → ((w : ℕ) → (counted_by w m true ≡ true) × (left_after w m ≡ w)) → Tells s Step
unfolding perform
still_tells s a m e uncounted = record {
  pages = rw e;
  long = rw e;
  counts = rw e (uncounted (words_left s.controller)).0;
  after = rw e (uncounted (words_left s.controller)).1;
}

-- Of a step, by what is in progress: nothing, or
idle_tells : (s : State) → s.controller.progress ≡ None → Tells s Step
unfolding step_progress
idle_tells s e =
    by_test (accepts (ready_answer (valid_with s.controller s.flash) s.controller.phase))
    (λ t. still_tells s (Err Unexpected) None (step_ready s.controller s.flash t e) (λ w. (refl, refl)))
    (λ t. still_tells s _ None (step_unready s.controller s.flash t) (λ w. (refl, refl)))

-- work, which waits or moves.
busy_tells : (s : State) (w : Work) → s.controller.progress ≡ Some w → valid_with s.controller s.flash ≡ true → Tells s Step
unfolding perform step_progress
busy_tells s w e h =
    let go = busy_steps s.controller s.flash w h e in
    let some = busy_moves s.controller s.flash w h e in
    let words = ap (left_of s.controller.setup.pages) e in
    by_test (stalls s.controller.queues w)
    (λ t. still_tells s accepted (Some Stalled) (rw (go, t)) (λ n. (refl, refl)))
    (λ t. record {
      pages = rw (go, t) some.pages;
      long = rw (go, t) some.long;
      counts = rw (words, go, t) some.counts;
      after = rw (words, go, t) (some.after ∙ omega (arith, some.left));
    })

-- Of any step.
step_tells : (s : State) (p : Progress) → s.controller.progress ≡ p → valid_with s.controller s.flash ≡ true → Tells s Step
step_tells s None e h = idle_tells s e
step_tells s (Some w) e h = busy_tells s w e h

-- Of a call that leaves and tells of what is in progress what a step does.
like_step : (s : State) (k : Call) → (perform s k).state.controller.setup.pages ≡ (perform s Step).state.controller.setup.pages
    → (perform s k).state.flash ≡ (perform s Step).state.flash
    → words_left (perform s k).state.controller ≡ words_left (perform s Step).state.controller
    → (perform s k).reply.movement ≡ (perform s Step).reply.movement → Tells s Step → Tells s k
like_step s k d f w m t = record { pages = d ∙ t.pages; long = rw f t.long; counts = rw m t.counts; after = rw (m, w) t.after }

-- Of a round, whose step is asked or not, and waits or not.
both_tells : (s : State) {a : ByteAddress} → BothAsked s.controller s.flash a → Tells s Step → Tells s (Round (Some a) true)
unfolding perform host_read
both_tells s (host x few e) t = record { pages = rw e; long = rw e; counts = rw e; after = rw e }
both_tells s (instead x many e) t = like_step s _ (rw e) (rw e) (rw e) (rw e) t
both_tells s (both x e) t = like_step s _ (rw e) (rw e) (rw e) (rw e) t

round_tells : (s : State) (h : HostRequest) (b : Bool) → Tells s Step → Tells s (Round h b)
unfolding perform round host_read
round_tells s None false t = record { pages = refl; long = refl; counts = refl; after = refl }
round_tells s None true t = like_step s (Round None true) refl refl refl refl t
round_tells s (Some a) false t = record { pages = refl; long = refl; counts = refl; after = refl }
round_tells s (Some a) true t = both_tells s (both_asked s.controller s.flash a) t

-- ---- lists of them

-- What is counted of one call and of the rest is counted of both.
with_rest : (w : ℕ) (m : Option Movement) (rest : Bool) → counted_by w m true ≡ true → rest ≡ true → counted_by w m rest ≡ true
with_rest w m true h e = h
with_rest w m false h e = cc

-- The image fits after a call that keeps D and its length.
still_fits : (s : State) (k : Call) → Tells s k → valid (perform s k).state.controller ≡ true
    → valid_with s.controller s.flash ≡ true → valid_with (perform s k).state.controller (perform s k).state.flash ≡ true
unfolding valid_with
still_fits s k t v h =
    rw (v, t.pages, same_fits s.controller.setup.pages (perform s k).state.flash s.flash t.long)
    (with_fits s.controller s.flash h)

-- One call more, before a list that counts from where it left.
one_more : (s : State) (k : Call) (ks : List Call) → Shaped s.controller → valid_with s.controller s.flash ≡ true
    → Tells s k
    → ((n : State) → Shaped n.controller → valid_with n.controller n.flash ≡ true
    → counted (words_left n.controller) (replies n ks) ≡ true)
    → counted (words_left s.controller) (replies s (k ∷ ks)) ≡ true
one_more s k ks shaped h t rest =
    let kept = call_keeps s k shaped (with_valid s.controller s.flash h) in
    with_rest (words_left s.controller) (perform s k).reply.movement _ t.counts
    (rw t.after (rest (perform s k).state kept.0 (still_fits s k t kept.1 h)))

-- Call by call.
pub exactly_its_words : ExactlyItsWords
exactly_its_words s _ shaped h driving.done = refl
exactly_its_words s _ shaped h (driving.step {ks} d) =
    one_more s Step ks shaped h (step_tells s s.controller.progress refl h) (λ n x y. exactly_its_words n ks x y d)
exactly_its_words s _ shaped h (driving.push {w} {ks} d) =
    one_more s (Push w) ks shaped h (push_tells s w) (λ n x y. exactly_its_words n ks x y d)
exactly_its_words s _ shaped h (driving.pop {ks} d) =
    one_more s Pop ks shaped h (pop_tells s) (λ n x y. exactly_its_words n ks x y d)
exactly_its_words s _ shaped h (driving.round {h = r} {b} {ks} d) =
    one_more s (Round r b) ks shaped h (round_tells s r b (step_tells s s.controller.progress refl h)) (λ n x y. exactly_its_words n ks x y d)
