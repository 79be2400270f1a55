-- Denied words stay unknown. Assumes nothing.
use Rattle.std.specs.Prelude.{None, Some}
use Prim.Native.Nat.{ℕ, ◌≤◌, ◌-◌}
use mathlib.Core.Path.{◌≡◌, refl, sym, ap, ◌∙◌}
use mathlib.Core.Bool.{Bool, true, false}
use mathlib.Core.List.{List, ◌++◌}
use lib.Dec.{ltb}
use lib.ListN.{length, drop, replicate}
use borrow.Author.Tests.{le-ltb}
use Rattle.model.specs.Words.{all_ones}
use Rattle.model.specs.State.{Flash, Leaves}
use Rattle.model.specs.Rights.{readable_words}
use Rattle.model.specs.Refusals.{number_of, accepts, is_denied_read, ready_answer}
use Rattle.model.specs.Valid.{lost_limit, valid_with}
use Rattle.model.specs.Lifecycle.{initialise_answer, initialise, rma_answer, rma}
use Rattle.model.specs.Steps.{stalls, read_word, advance, step_progress, step}
use Rattle.model.specs.Host.{host_answer, host_read, view_answer, view}
use Rattle.model.specs.Rounds.{would_move, next_bank, competes, lost_in, host_served, host_goes, step_goes, both_go, round}
use Rattle.model.specs.declared.ByteAddress.{ByteAddress}
use Rattle.model.specs.State.{Progress}
use Rattle.model.specs.declared.Operation.{Operation}
use Rattle.model.specs.declared.Work.TheVariants.{Read}
use Rattle.model.specs.declared.Controller.{Controller}
use Rattle.model.specs.Rounds.{HostRequest}
use Rattle.model.specs.declared.Rounded.{Rounded}
use Rattle.model.proofs.Bool.{by_test}
use Rattle.model.proofs.Answers.{accepts_not}
use Rattle.model.proofs.Flashes.{same_fits}
use Rattle.model.proofs.StepLaws.{step_ready, step_unready, running_accepts}
use Rattle.plans.specs.Plan.{words_at}
use Rattle.plans.proofs.Changes.{whole_answers}
use Rattle.promises.specs.Calls.{Call, State, Reply, Reset, SetInputs, SetRegion, SetDefault, SetInfo, SetErase, Initialise, Start, Step, Push, Pop, Whole, HostRead, ViewPage, Clear, Rma, Round, by_round, perform}
use Rattle.promises.specs.Refused.{buffer_by, left_by, report_of, refused_reply}
use Rattle.promises.specs.Unknown.{state_of, step_side, Alike, told_places, RefusedUnknown, RefusedHostUnknown, PastUnknown}
use Rattle.promises.proofs.RefusedProof.{refused_moves_nothing}

-- ---- on two images of the same length

module _ (c : Controller) (f g : Flash) (long : length f.words ≡ length g.words) where
  -- check 1 says the same,
  same_valid : valid_with c f ≡ valid_with c g
  unfolding valid_with
  same_valid = rw (same_fits c.setup.pages f g long)

  -- and so does a step of what is in progress,
  progress_answer : (p : Progress) → (step_progress c f p).result.answer ≡ (step_progress c g p).result.answer
  unfolding step_progress
  progress_answer None = refl
  progress_answer (Some w) = running_accepts c f w ∙ sym (running_accepts c g w)

  step_answer : (step c f).result.answer ≡ (step c g).result.answer
  step_answer =
      by_test (accepts (ready_answer (valid_with c g) c.phase))
      (λ e. rw (step_ready c f (rw same_valid e) refl, step_ready c g e refl) (progress_answer c.progress))
      (λ e. rw (step_unready c f (rw same_valid e), step_unready c g e, same_valid))

  -- so the same sides compete, and a round of both goes the same way,
  same_competes : (a : ByteAddress) → competes c f a ≡ competes c g a
  unfolding competes would_move
  same_competes a = rw same_valid

  by_both : (P : Leaves Rounded → Leaves Rounded → Type 0) (a : ByteAddress) → P (host_goes c f a) (host_goes c g a)
      → P (step_goes c f) (step_goes c g) → P (both_go c f a) (both_go c g a) → P (round c f (Some a) true) (round c g (Some a) true)
  unfolding round
  by_both P a host instead both =
      by_test (competes c g a)
      (λ t.
      by_test (ltb (lost_in c (next_bank c)) lost_limit)
      (λ u. rw (same_competes a, t, u) host)
      (λ u. rw (same_competes a, t, u) instead))
      (λ t. rw (same_competes a, t) both)

  -- and every call answers the same.
  same_answer : (k : Call) → (perform (state_of c f) k).reply.answer ≡ (perform (state_of c g) k).reply.answer
  unfolding perform initialise initialise_answer rma rma_answer host_read host_answer view view_answer round
  same_answer (Reset d) = refl
  same_answer (SetInputs i) = refl
  same_answer (SetRegion n r) = refl
  same_answer (SetDefault r) = refl
  same_answer (SetInfo bank t page p) = refl
  same_answer (SetErase bank on) = refl
  same_answer Initialise = rw same_valid
  same_answer (Start o) = refl
  same_answer Step = ap number_of step_answer
  same_answer (Push w) = refl
  same_answer Pop = refl
  same_answer (Whole o b) = ap number_of (whole_answers c f g o b same_valid)
  same_answer (HostRead a) = rw same_valid
  same_answer (ViewPage p) = rw same_valid
  same_answer Clear = refl
  same_answer Rma = rw same_valid
  same_answer (Round None false) = refl
  same_answer (Round None true) = ap number_of step_answer
  same_answer (Round (Some a) false) = refl
  same_answer (Round (Some a) true) =
      by_both (λ x y. number_of x.result.step.answer ≡ number_of y.result.step.answer) a refl (ap number_of step_answer) (ap number_of step_answer)

  -- A refused host read tells the same.
  host_unknown : (a : ByteAddress) → (number_of (host_read c f a).answer ≡ 0 → ⊥) → host_served (host_read c f a) ≡ host_served (host_read c g a)
  unfolding host_read host_answer
  host_unknown a h = let n = accepts_not (host_answer c g a) (rw same_valid at h) in rw (same_valid, n)

-- What a refused call leaves and tells follows from the controller, its answer and a denied read's true words, but for the host's
-- side of a round.
abbrev told_by : State → Call → ℕ → Reply
told_by s k n = refused_reply s k n (report_of s k n)

-- A denied read tells its true words and then ones, the same on both images if its true words are;
buffer_told : (c : Controller) (f g : Flash) (o : Operation) (b : List ℕ) (n : ℕ)
    → words_at f (told_places c (Whole o b) n) ≡ words_at g (told_places c (Whole o b) n) → buffer_by (state_of c f) o b n ≡ buffer_by (state_of c g) o b n
buffer_told c f g o b n =
    let ones : List ℕ = replicate (o.count - readable_words c.setup o) all_ones ++ drop o.count b in
    by_test (is_denied_read o n) (λ d. rw d (λ same. ap (λ (ws : List ℕ). ws ++ ones) same)) (λ d. rw d (λ same. refl))

-- any other refused call tells no word.
side_told : (c : Controller) (f g : Flash) (k : Call) (n : ℕ) → words_at f (told_places c k n) ≡ words_at g (told_places c k n)
    → step_side (told_by (state_of c f) k n) ≡ step_side (told_by (state_of c g) k n)
side_told c f g (Reset d) n same = refl
side_told c f g (SetInputs i) n same = refl
side_told c f g (SetRegion k r) n same = refl
side_told c f g (SetDefault r) n same = refl
side_told c f g (SetInfo bank t page p) n same = refl
side_told c f g (SetErase bank on) n same = refl
side_told c f g Initialise n same = refl
side_told c f g (Start o) n same = refl
side_told c f g Step n same = refl
side_told c f g (Push w) n same = refl
side_told c f g Pop n same = refl
side_told c f g (Whole o b) n same = rw (buffer_told c f g o b n same)
side_told c f g (HostRead a) n same = refl
side_told c f g (ViewPage p) n same = refl
side_told c f g Clear n same = refl
side_told c f g Rma n same = refl
side_told c f g (Round h b) n same = refl

pub refused_unknown : RefusedUnknown
refused_unknown c f g k long w h =
    let same = same_answer c f g long k in
    let here = refused_moves_nothing (state_of c f) k h in
    let there = refused_moves_nothing (state_of c g) k (rw same at h) in
    let alike = side_told c f g k _ (rw same at w) in
    record {
      reply = ap step_side (here.reply ∙ ap (told_by (state_of c f) k) same) ∙ (alike ∙ sym (ap step_side there.reply));
      controller = here.controller ∙ (ap (left_by c k) same ∙ sym there.controller);
    }

pub refused_host_unknown : RefusedHostUnknown
unfolding perform round
refused_host_unknown c f g None false long h = absurd (h refl)
refused_host_unknown c f g None true long h = absurd (h refl)
refused_host_unknown c f g (Some a) false long h = host_unknown c f g long a h
refused_host_unknown c f g (Some a) true long h =
    by_both c f g long (λ x y. (number_of x.result.host.answer ≡ 0 → ⊥) → x.result.host ≡ y.result.host) a
    (host_unknown c f g long a) (λ n. absurd (n refl)) (host_unknown c f g long a) h

-- A step of a read past its true words leaves the same result on every image.
past_step : (c : Controller) (f g : Flash) (o : Operation) (moved readable : ℕ) → readable ≤ moved
    → (step_progress c f (Some (Read o moved readable))).result ≡ (step_progress c g (Some (Read o moved readable))).result
unfolding step_progress advance read_word
past_step c f g o moved readable past =
    by_test (stalls c.queues (Read o moved readable)) (λ e. rw e) (λ e. rw (e, le-ltb moved readable past))

-- So does any step of it, refused or not,
past_result : (c : Controller) (f g : Flash) {o : Operation} {moved readable : ℕ} → length f.words ≡ length g.words
    → c.progress ≡ Some (Read o moved readable) → readable ≤ moved → (step c f).result ≡ (step c g).result
past_result c f g long p past =
    by_test (accepts (ready_answer (valid_with c g) c.phase))
    (λ e. rw (step_ready c f (rw (same_valid c f g long) e) p, step_ready c g e p) (past_step c f g _ _ _ past))
    (λ e. rw (step_unready c f (rw (same_valid c f g long) e), step_unready c g e, same_valid c f g long))

-- and the result is all that it tells and leaves of the controller, as of a round with it.
round_alike : (c : Controller) (f g : Flash) (h : HostRequest) (b : Bool) → length f.words ≡ length g.words
    → (step c f).result ≡ (step c g).result → Alike c f g (Round h b)
unfolding perform round host_read
round_alike c f g None false long same = record { reply = refl; controller = refl }
round_alike c f g None true long same = record { reply = rw same; controller = rw same }
round_alike c f g (Some a) false long same = record { reply = refl; controller = refl }
round_alike c f g (Some a) true long same = record {
  reply = by_both c f g long (λ x y. step_side (by_round x).reply ≡ step_side (by_round y).reply) a refl (rw same) (rw same);
  controller = by_both c f g long (λ x y. x.result.controller ≡ y.result.controller) a refl (rw same) (rw same);
}

pub past_unknown : PastUnknown
unfolding perform
past_unknown c f g o moved readable long p past =
    let same = past_result c f g long p past in (
      record { reply = rw same; controller = rw same },
      λ h b. round_alike c f g h b long same,
    )
