-- What a round leaves of the controller, by the movement that it tells. Assumes nothing.
use Rattle.std.specs.Prelude.{None, Some}
use mathlib.Core.Path.{◌≡◌, refl, ap, sym, ◌∙◌}
use mathlib.Core.Bool.{Bool, true, false, true≢false}
use Rattle.model.specs.State.{Flash}
use Rattle.model.specs.Refusals.{accepts, ready_answer}
use Rattle.model.specs.Valid.{valid, valid_with}
use Rattle.model.specs.Steps.{step}
use Rattle.model.specs.Host.{host_read}
use Rattle.model.specs.Rounds.{round}
use Rattle.model.specs.declared.ByteAddress.{ByteAddress}
use Rattle.model.specs.Rounds.{HostRequest}
use Rattle.model.specs.declared.Controller.{Controller}
use Rattle.model.proofs.Bool.{by_test}
use Rattle.model.proofs.Moving.{with_valid}
use Rattle.model.proofs.Accepting.{ready_valid}
use Rattle.model.proofs.StepLaws.{step_unready, step_refused}
use Rattle.model.proofs.Rounds.{Goes, goes_accepted, competes_goes, BothAsked, host, instead, both, both_asked}
use Rattle.calls.specs.Calls.{tells_movement}
use Rattle.calls.proofs.Movements.{step_tells}
use Rattle.refinement.proofs.KeepBytes.{Bytes, step_bytes}
use Rattle.model.proofs.Answers.{accepts_told}

module _ (c : Controller) (f : Flash) where
  -- Whether a round tells a movement.
  abbrev tells : HostRequest → Bool → Bool
  tells h b = tells_movement (round c f h b).result.step.movement

  goes_tells : Goes c f → tells_movement (step c f).result.movement ≡ true
  goes_tells g = step_tells c f ∙ ap accepts (goes_accepted c f g)

  -- ---- where it tells none, the controller is as it was

  step_silent : tells_movement (step c f).result.movement ≡ false → (step c f).result.controller ≡ c
  step_silent h = rw (step_refused c f (λ z. true≢false (sym (step_tells c f ∙ accepts_told (step c f).result.answer z) ∙ h)))

  both_silent : {a : ByteAddress} → BothAsked c f a → tells (Some a) true ≡ false → (round c f (Some a) true).result.controller ≡ c
  unfolding host_read
  both_silent (host t few e) h = absurd (true≢false (rw e at h))
  both_silent {a} (instead t many e) h = absurd (true≢false (sym (goes_tells (competes_goes c f a t)) ∙ (rw e at h)))
  both_silent (both t e) h = rw e (step_silent (rw e at h))

  pub round_silent : (h : HostRequest) (b : Bool) → tells h b ≡ false → (round c f h b).result.controller ≡ c
  unfolding round host_read
  round_silent None false n = refl
  round_silent None true n = step_silent n
  round_silent (Some a) false n = refl
  round_silent (Some a) true n = both_silent (both_asked c f a) n

  -- ---- where it tells one, the state is valid

  ready_taken : accepts (ready_answer (valid_with c f) c.phase) ≡ true → valid c ≡ true
  ready_taken r = with_valid c f (ready_valid (valid_with c f) c.phase r)

  step_taken : tells_movement (step c f).result.movement ≡ true → valid c ≡ true
  step_taken h =
      by_test (accepts (ready_answer (valid_with c f) c.phase)) ready_taken (λ e. absurd (true≢false (sym h ∙ rw (step_unready c f e))))

  both_taken : {a : ByteAddress} → BothAsked c f a → tells (Some a) true ≡ true → valid c ≡ true
  unfolding host_read
  both_taken {a} (host t few e) h = ready_taken (competes_goes c f a t).ready
  both_taken {a} (instead t many e) h = ready_taken (competes_goes c f a t).ready
  both_taken (both t e) h = step_taken (rw e at h)

  pub round_taken : (h : HostRequest) (b : Bool) → tells h b ≡ true → valid c ≡ true
  unfolding round
  round_taken None false n = absurd (true≢false (sym n))
  round_taken None true n = step_taken n
  round_taken (Some a) false n = absurd (true≢false (sym n))
  round_taken (Some a) true n = both_taken (both_asked c f a) n

  -- ---- what is in progress is what its step leaves, or what it was

  both_bytes : {a : ByteAddress} → BothAsked c f a → Bytes c.progress → Bytes (round c f (Some a) true).result.controller.progress
  unfolding host_read
  both_bytes (host t few e) b = rw e b
  both_bytes (instead t many e) b = rw e (step_bytes c f b)
  both_bytes (both t e) b = rw e (step_bytes c f b)

  pub round_bytes : (h : HostRequest) (b : Bool) → Bytes c.progress → Bytes (round c f h b).result.controller.progress
  unfolding round host_read
  round_bytes None false p = p
  round_bytes None true p = step_bytes c f p
  round_bytes (Some a) false p = p
  round_bytes (Some a) true p = both_bytes (both_asked c f a) p
