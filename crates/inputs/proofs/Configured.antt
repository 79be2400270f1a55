-- What a call that sets a part leaves, by the tests that it makes; and what clearing leaves. Assumes nothing.
use Rattle.std.specs.Prelude.{Err}
use Prim.Native.Nat.{ℕ}
use mathlib.Core.Path.{◌≡◌, refl, ap, sym, ◌∙◌}
use mathlib.Core.Bool.{Bool, true, false, not, cond}
use mathlib.Core.List.{List}
use Rattle.model.specs.State.{is_busy, with_inputs, with_errors, no_errors}
use Rattle.model.specs.Valid.{valid}
use Rattle.model.specs.Refusals.{refusal_number, number_of, accepted, accepts, check, or_else, settle}
use Rattle.model.specs.declared.Refusal.{Refusal}
use Rattle.model.specs.Settings.{setting_answer, set_inputs}
use Rattle.model.specs.Errors.{clear}
use Rattle.model.specs.declared.Inputs.{Inputs}
use Rattle.model.specs.declared.Controller.{Controller}
use Rattle.model.specs.Refusals.{Answer}
use Rattle.model.specs.declared.Refusal.TheVariants.{Invalid, Busy, BadSetting}
use Rattle.registers.specs.Registers.{encoded, stands_for, decode, progress_at, put, put_inputs, put_errors}
use Rattle.calls.specs.Calls.{Left, outcome_left, set_inputs_in, clear_in}
use Rattle.model.proofs.Bool.{by_test}
use Rattle.model.proofs.Answers.{accepted_is, refused_first, both_accept, check_passed}
use Rattle.model.proofs.Accepting.{setting_passed}
use Rattle.registers.proofs.Kept.{valid_encoded}
use Rattle.registers.proofs.Written.{put_inputs_lem, put_errors_lem}
use Rattle.validity.proofs.Taken.{taken_stands}
use borrow.Author.Tests.{not-false}

-- ---- checks 1, 4 and 13

pub answer_invalid : (s : List ℕ) (fits : Bool) → valid (decode s) ≡ false → Err Invalid ≡ setting_answer (decode s) fits
answer_invalid s fits h = rw h

pub answer_valid : (s : List ℕ) (fits : Bool) → valid (decode s) ≡ true
    → or_else (check (is_busy (progress_at s)) (Err Busy)) (check (not fits) (Err BadSetting)) ≡ setting_answer (decode s) fits
unfolding stands_for
answer_valid s fits h =
    rw h (ap (λ (c : Controller). or_else (check (is_busy c.progress) (Err Busy)) (check (not fits) (Err BadSetting))) (sym (taken_stands s h)))

pub answer_busy : (s : List ℕ) (fits : Bool) {e : Refusal} → valid (decode s) ≡ true → Err e ≡ check (is_busy (progress_at s)) (Err Busy)
    → Err e ≡ setting_answer (decode s) fits
answer_busy s fits h w = refused_first _ (sym w) ∙ answer_valid s fits h

-- ---- a part that the checks guard

-- What is told and left, where the code tests the answer `a`: refused, the registers are as they were; accepted, the part fits
-- and they are `t`.
pub record Set (s : List ℕ) (fits : Bool) (a : Answer) (t : List ℕ) (left : Left ℕ) : Type 0 where
  pub refused : {e : Refusal} → a ≡ Err e → record { told = refusal_number e; registers = s } ≡ left
  pub passed : a ≡ accepted → fits ≡ true
  pub kept : {u : List ℕ} → u ≡ t → a ≡ accepted → record { told = 0; registers = u } ≡ left

-- Whether the part fits is asked of what the registers stand for: it matters in a valid state only.
module _ (s : List ℕ) (next : Controller → Controller) (fits : Controller → Bool) (a : Answer) (told : a ≡ setting_answer (decode s) (fits (stands_for s))) where
  abbrev asked : Left ℕ
  asked = outcome_left s (settle (decode s) (next (decode s)) (setting_answer (decode s) (fits (decode s))))

  same : a ≡ setting_answer (decode s) (fits (decode s))
  same =
      by_test (valid (decode s))
      (λ h. told ∙ ap (λ (c : Controller). setting_answer (decode s) (fits c)) (sym (taken_stands s h)))
      (λ h. told ∙ sym (answer_invalid s (fits (stands_for s)) h) ∙ answer_invalid s (fits (decode s)) h)

  left_refused : accepts a ≡ false → record { told = number_of a; registers = s } ≡ asked
  left_refused refused = let e = rw same at refused in rw (same, e)

  taken : accepts a ≡ true → valid (decode s) ≡ true
  taken granted =
      let e = rw same at granted in
      not-false _ (check_passed _ Invalid (both_accept (check (not (valid (decode s))) (Err Invalid)) _ e).0)

  fits_taken : accepts a ≡ true → fits (stands_for s) ≡ true
  fits_taken granted = (setting_passed (decode s) (fits (stands_for s)) (rw told at granted)).1

  left_accepted : (t : List ℕ) → (fits (stands_for s) ≡ true → encoded s ≡ true → put s (next (stands_for s)) ≡ t) → accepts a ≡ true
      → record { told = 0; registers = t } ≡ asked
  left_accepted t written granted =
      let h = taken granted in
      let e = rw same at granted in
      let zero : setting_answer (decode s) (fits (decode s)) ≡ accepted = accepted_is _ e in
      let w : put s (next (decode s)) ≡ t =
      ap (λ (c : Controller). put s (next c)) (taken_stands s h) ∙ written (fits_taken granted) (valid_encoded s h) in
      rw (e, w, zero)

  pub setting : (t : List ℕ) → (fits (stands_for s) ≡ true → encoded s ≡ true → put s (next (stands_for s)) ≡ t) → Set s (fits (stands_for s)) a t asked
  setting t written = record {
    refused = λ w. rw w at (left_refused (rw w));
    passed = λ w. fits_taken (rw w);
    kept = λ u w. rw u (left_accepted t written (rw w));
  }

-- ---- the inputs

pub inputs_set : (s : List ℕ) (i : Inputs) (a : Answer) → a ≡ setting_answer (decode s) true → Set s true a (put_inputs s i) (set_inputs_in s i)
unfolding set_inputs_in set_inputs
inputs_set s i a told = setting s (λ c. with_inputs c i) (λ c. true) a told (put_inputs s i) (λ f h. put_inputs_lem s h i)

module _ (s : List ℕ) (i : Inputs) (a : Answer) (told : a ≡ setting_answer (decode s) true) where
  pub inputs_refused : {e : Refusal} → a ≡ Err e → record { told = refusal_number e; registers = s } ≡ set_inputs_in s i
  inputs_refused w = (inputs_set s i a told).refused w

  pub inputs_kept : a ≡ accepted → record { told = 0; registers = put_inputs s i } ≡ set_inputs_in s i
  inputs_kept w = (inputs_set s i a told).kept refl w

-- ---- clearing the error record: check 1 alone

pub clear_refused : (s : List ℕ) → valid (decode s) ≡ false → record { told = 1; registers = s } ≡ clear_in s
unfolding clear_in clear
clear_refused s h = rw h

pub clear_accepted : (s : List ℕ) → valid (decode s) ≡ true → record { told = 0; registers = put_errors s no_errors } ≡ clear_in s
unfolding clear_in clear
clear_accepted s h =
    let w : put s (with_errors (decode s) no_errors) ≡ put_errors s no_errors =
    ap (λ (c : Controller). put s (with_errors c no_errors)) (taken_stands s h) ∙ put_errors_lem s (valid_encoded s h) no_errors in
    rw (h, w)

pub clear_left : (s : List ℕ) {v : Bool} {t : List ℕ} {a : Answer} → v ≡ valid (decode s) → t ≡ cond v (put_errors s no_errors) s → a ≡ check (not v) (Err Invalid)
    → record { told = number_of a; registers = t } ≡ clear_in s
clear_left s {v = true} e u w = rw (u, w) (clear_accepted s (sym e))
clear_left s {v = false} e u w = rw (u, w) (clear_refused s (sym e))
