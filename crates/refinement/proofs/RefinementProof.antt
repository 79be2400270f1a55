-- The registers after a call stand for the model's controller after the call. Assumes nothing.
use Prim.Native.Nat.{ℕ}
use native.Mathlib.Omega.{arith}
use mathlib.Core.Path.{◌≡◌, refl, sym, ap, subst, ◌∙◌}
use mathlib.Core.Bool.{Bool, true, false, ◌||◌, true≢false}
use mathlib.Core.List.{List, []}
use lib.Dec.{eqb}
use lib.ListN.{length}
use Rattle.model.specs.Geometry.{pages_fit}
use Rattle.model.specs.State.{Flash, flash}
use Rattle.model.specs.Errors.{is_recorded, clear}
use Rattle.model.specs.Refusals.{Answer, number_of, accepts}
use Rattle.model.specs.Settings.{configured, set_inputs, set_region, set_default, set_info, set_erase}
use Rattle.model.specs.Lifecycle.{reset, initialise_answer, initialise, rma_answer, rma}
use Rattle.model.specs.Steps.{start_answer, start, push, pop_answer, pop, step}
use Rattle.model.specs.Valid.{valid, valid_with}
use Rattle.model.specs.Rounds.{round}
use Rattle.model.specs.Whole.{whole_answer, whole}
use Rattle.model.specs.Rounds.{HostRequest}
use Rattle.model.specs.declared.Controller.{Controller}
use Rattle.model.proofs.Bool.{or_right, by_test}
use Rattle.plans.proofs.Left.{whole_leaves}
use Rattle.promises.specs.Calls.{State, Call, SetInputs, SetRegion, SetDefault, SetInfo, SetErase, Initialise, Start, Step, Push, Pop, Whole, Clear, Rma, Round, perform}
use Rattle.promises.specs.Refused.{left_by}
use Rattle.promises.proofs.Validity.{call_keeps}
use Rattle.promises.proofs.RefusedProof.{refused_moves_nothing}
use Rattle.promises.proofs.Unrecorded.{start_unrecorded, whole_unrecorded}
use Rattle.registers.specs.Layout.{register_count}
use Rattle.registers.specs.Registers.{decode, hand_back}
use Rattle.registers.proofs.There.{Shaped, handed_back, stands_shaped}
use Rattle.registers.proofs.Cleared.{decode_cleared}
use Rattle.validity.proofs.Taken.{taken_stands}
use Rattle.calls.specs.Calls.{set_inputs_in, set_region_in, set_default_in, set_info_in, set_erase_in, clear_in, push_in, pop_in, initialise_in, step_in, rma_in, reset_in, start_in, whole_in, round_in, tells_movement, changes}
use Rattle.refinement.specs.Refinement.{RefinesOn, Refines}
use Rattle.refinement.proofs.KeepBytes.{Bytes, start_bytes, step_bytes}
use Rattle.refinement.proofs.KeepRounds.{round_silent, round_taken, round_bytes}
use Rattle.model.proofs.Answers.{told_accepts}

-- The model's call on what the registers stand for: what it answers, and the controller that it leaves.
abbrev before : List ℕ → Flash → State
before s f = record { controller = decode s; flash = f }

abbrev answered : List ℕ → Flash → Call → ℕ
answered s f k = (perform (before s f) k).reply.answer

abbrev left : List ℕ → Flash → Call → Controller
left s f k = (perform (before s f) k).state.controller

module _ (s : List ℕ) (long : length s ≡ 137) (f : Flash) (k : Call) where
  -- A valid state is left valid, with the shape of its type.
  left_shaped : valid (decode s) ≡ true → (Bytes (decode s).progress → Bytes (left s f k).progress)
      → Shaped (left s f k) × (valid (left s f k) ≡ true)
  left_shaped v keeps =
      let a : Shaped (decode s) = subst Shaped (sym (taken_stands s v)) (stands_shaped s) in
      let (shape, fits) =
      call_keeps (before s f) k (record { regions = a.regions; info = a.info; erase = a.erase; reads = a.reads; programs = a.programs; lost = a.lost }) v in (
        record {
          regions = shape.regions;
          info = shape.info;
          erase = shape.erase;
          reads = shape.reads;
          programs = shape.programs;
          lost = shape.lost;
          operation = (keeps (record { are = a.operation })).are;
        },
        fits,
      )

  -- A call refines if it answers 1 to what is not valid, and leaves the controller where it changes no register and bytes where
  -- it does.
  refined : (changed : ℕ → Bool) → changed 0 ≡ true → changed 1 ≡ false → (valid (decode s) ≡ false → answered s f k ≡ 1)
      → ((n : ℕ) → changed n ≡ false → left_by (decode s) k n ≡ decode s)
      → (changed (answered s f k) ≡ true → Bytes (decode s).progress → Bytes (left s f k).progress)
      → decode (hand_back (changed (answered s f k)) s (left s f k)) ≡ left s f k
  refined changed accepted invalid refuses same keeps =
      let taken : changed (answered s f k) ≡ true → valid (decode s) ≡ true =
      λ e. by_test (valid (decode s)) (λ v. v) (λ v. absurd (true≢false (sym e ∙ ap changed (refuses v) ∙ invalid))) in
      let refused : changed (answered s f k) ≡ false → answered s f k ≡ 0 → ⊥ = λ e z. true≢false (sym accepted ∙ ap changed (sym z) ∙ e) in
      handed_back s (changed (answered s f k)) (left s f k) (record { size = long })
      (λ e. (left_shaped (taken e) (keeps e)).0)
      (λ e. (left_shaped (taken e) (keeps e)).1)
      (λ e. sym ((refused_moves_nothing (before s f) k (refused e)).controller ∙ same (answered s f k) e))

  module _ (a : Answer) (told : answered s f k ≡ number_of a) (refuses : valid (decode s) ≡ false → answered s f k ≡ 1) where
    accepted : eqb (answered s f k) 0 ≡ accepts a
    accepted = rw told (told_accepts a)

    -- Most calls change the registers where they are accepted,
    plain : ((n : ℕ) → left_by (decode s) k n ≡ decode s) → (accepts a ≡ true → Bytes (decode s).progress → Bytes (left s f k).progress)
        → decode (hand_back (accepts a) s (left s f k)) ≡ left s f k
    plain same keeps =
        subst (λ (b : Bool). decode (hand_back b s (left s f k)) ≡ left s f k) accepted
        (refined (λ n. eqb n 0) refl refl refuses (λ n e. same n) (λ e. keeps (sym accepted ∙ e)))

    -- and two where a refusal is recorded too.
    recording : ((n : ℕ) → is_recorded n ≡ false → left_by (decode s) k n ≡ decode s)
        → (Bytes (decode s).progress → Bytes (left s f k).progress) → decode (hand_back (changes a) s (left s f k)) ≡ left s f k
    recording same keeps =
        let changed : eqb (answered s f k) 0 || is_recorded (answered s f k) ≡ changes a =
        ap (λ (b : Bool). b || is_recorded (answered s f k)) accepted ∙ ap (λ (n : ℕ). accepts a || is_recorded n) told in
        subst (λ (b : Bool). decode (hand_back b s (left s f k)) ≡ left s f k) changed
        (refined (λ n. eqb n 0 || is_recorded n) refl refl refuses (λ n e. same n (or_right (eqb n 0) (is_recorded n) e)) (λ e. keeps))

-- A round changes the registers where its step tells a movement.
round_refined : (s : List ℕ) → length s ≡ 137 → (f : Flash) (h : HostRequest) (b : Bool)
    → decode (round_in s f h b).registers ≡ (round (decode s) f h b).result.controller
unfolding perform round_in
round_refined s long f h b =
    let told : Bool = tells_movement (round (decode s) f h b).result.step.movement in
    let shaped : told ≡ true → Shaped (left s f (Round h b)) × (valid (left s f (Round h b)) ≡ true) =
    λ e. left_shaped s long f (Round h b) (round_taken (decode s) f h b e) (round_bytes (decode s) f h b) in
    handed_back s told (left s f (Round h b)) (record { size = long }) (λ e. (shaped e).0) (λ e. (shaped e).1)
    (λ e. sym (round_silent (decode s) f h b e))

-- A call that is lent no flash has none.
abbrev no_flash : Flash
no_flash = flash []

refines_on : (s : List ℕ) → length s ≡ register_count → RefinesOn s
unfolding perform valid_with configured reset_in reset initialise_in initialise initialise_answer rma_in rma rma_answer set_inputs_in set_inputs set_region_in set_region set_default_in set_default set_info_in set_info set_erase_in set_erase start_in start start_answer step_in step push_in push pop_in pop pop_answer whole_in whole whole_answer clear_in clear
refines_on s long = record {
  resets = λ d. by_test (pages_fit d) (λ e. rw e (decode_cleared s d long)) (λ e. rw e);
  initialises = λ f. plain s long f Initialise _ refl (λ v. rw v) (λ n. refl) (λ e b. rw e b);
  wipes = λ f. plain s long f Rma _ refl (λ v. rw v) (λ n. refl) (λ e b. rw e b);
  inputs = λ i. plain s long no_flash (SetInputs i) _ refl (λ v. rw v) (λ n. refl) (λ e b. rw e b);
  region = λ i g. plain s long no_flash (SetRegion i g) _ refl (λ v. rw v) (λ n. refl) (λ e b. rw e b);
  default = λ r. plain s long no_flash (SetDefault r) _ refl (λ v. rw v) (λ n. refl) (λ e b. rw e b);
  info = λ bank t page p. plain s long no_flash (SetInfo bank t page p) _ refl (λ v. rw v) (λ n. refl) (λ e b. rw e b);
  erase = λ bank on. plain s long no_flash (SetErase bank on) _ refl (λ v. rw v) (λ n. refl) (λ e b. rw e b);
  starts = λ o small. recording s long no_flash (Start o) _ refl (λ v. rw v) (start_unrecorded (decode s) o) (start_bytes (decode s) o (omega arith));
  steps = λ f. plain s long f Step _ refl (λ v. rw v) (λ n. refl) (λ e. step_bytes (decode s) f);
  pushes = λ w. plain s long no_flash (Push w) _ refl (λ v. rw v) (λ n. refl) (λ e b. rw e b);
  pops = plain s long no_flash Pop _ refl (λ v. rw v) (λ n. refl) (λ e b. rw e b);
  rounds = round_refined s long;
  completes = λ f o buffer.
      recording s long f (Whole o buffer) _ refl (λ v. rw v) (λ n e. whole_unrecorded (decode s) o n e buffer)
      (λ b. rw (whole_leaves (decode s) f o buffer).0 b);
  clears = plain s long no_flash Clear _ refl (λ v. rw v) (λ n. refl) (λ e b. rw e b);
}

pub refines : Refines
refines = refines_on
