-- What an answer says of the checks behind it. Assumes nothing.
use Rattle.std.specs.Prelude.{Err, Ok}
use Prim.Native.Nat.{ℕ}
use mathlib.Core.Path.{◌≡◌, refl, sym, ◌∙◌}
use mathlib.Core.Bool.{Bool, true, false, ◌||◌, not, cond, true≢false}
use lib.Dec.{eqb}
use borrow.Author.Tests.{eqb-true, ne_eqb}
use Rattle.model.specs.State.{is_ready}
use Rattle.model.specs.Rights.{denied, decider_of}
use Rattle.model.specs.Refusals.{refusal_number, number_of, no_decider, reported, accepts, is_denied, check, or_else, ready_answer}
use Rattle.model.specs.Checks.{malformed, out_of_range, crosses_window, operation_answer}
use Rattle.model.specs.Errors.{is_recorded}
use Rattle.model.specs.Refusals.{Answer}
use Rattle.model.specs.Refusals.{accepted}
use Rattle.model.specs.declared.Refusal.TheVariants.{Invalid, Disabled, Uninitialised, Busy, Malformed, ShortBuffer, OutOfRange, CrossesWindow, Denied, QueueEmpty, QueueFull, Unexpected, BadSetting}
use Rattle.model.specs.declared.Refusal.{Refusal}
use Rattle.model.specs.declared.Decider.{Decider}
use Rattle.model.specs.declared.Phase.{Phase}
use Rattle.model.specs.declared.Phase.TheVariants as phase
use Rattle.model.specs.declared.Operation.{Operation}
use Rattle.model.specs.declared.Setup.{Setup}
use Rattle.model.proofs.Bool.{by_test}

-- No refusal has the number 0,
pub refusal_numbered : (r : Refusal) → eqb (refusal_number r) 0 ≡ false
refusal_numbered (Denied by) = refl
refusal_numbered r = refl

-- so that an answer has it just where it accepts:
pub told_accepts : (a : Answer) → eqb (number_of a) 0 ≡ accepts a
told_accepts (Ok done) = refl
told_accepts (Err r) = refusal_numbered r

-- told 0, it accepts.
pub accepts_told : (a : Answer) → number_of a ≡ 0 → accepts a ≡ true
accepts_told a h = sym (told_accepts a) ∙ rw h

-- A refusal does not accept.
pub accepts_not : (a : Answer) → (number_of a ≡ 0 → ⊥) → accepts a ≡ false
accepts_not (Ok done) h = absurd (h refl)
accepts_not (Err r) h = refl

-- There is one acceptance.
pub accepted_is : (a : Answer) → accepts a ≡ true → a ≡ accepted
accepted_is (Ok done) h = refl
accepted_is (Err r) h = absurd (true≢false (sym h))

-- Of two checks the first that refuses answers.
pub refused_first : {a : Answer} {e : Refusal} (b : Answer) → a ≡ Err e → Err e ≡ or_else a b
refused_first b h = rw h

-- Two checks accept only if each does.
pub both_accept : (a b : Answer) → accepts (or_else a b) ≡ true → (accepts a ≡ true) × (accepts b ≡ true)
both_accept a b h =
    by_test (accepts a) (λ e. (e, rw e at h)) (λ e. absurd (true≢false (sym (rw e at h) ∙ e)))

-- A check that accepts does not apply.
pub check_passed : (t : Bool) (r : Refusal) → accepts (check t (Err r)) ≡ true → t ≡ false
check_passed true r h = absurd (true≢false (sym h))
check_passed false r h = refl

pub passed : (t : Bool) (r : Refusal) {done : Unit} → check t (Err r) ≡ Ok done → t ≡ false
passed t r h = check_passed t r (rw h)

-- Checks 1, 2 and 3 come in this order.
pub first_invalid : (p : Phase) → ready_answer false p ≡ Err Invalid
first_invalid p = refl

pub then_disabled : ready_answer true phase.Disabled ≡ Err Disabled
then_disabled = refl

pub then_uninitialised : ready_answer true phase.Uninitialised ≡ Err Uninitialised
then_uninitialised = refl

-- Checks 1, 2 and 3 pass: the controller is ready.
pub ready_passed : (v : Bool) (p : Phase) → accepts (ready_answer v p) ≡ true → is_ready p ≡ true
ready_passed v phase.Uninitialised h = (both_accept (check (not v) (Err Invalid)) _ h).1
ready_passed v phase.Ready h = refl
ready_passed v phase.Disabled h = (both_accept (check (not v) (Err Invalid)) _ h).1

-- A valid state that is ready passes them.
pub ready_accepts : (p : Phase) → is_ready p ≡ true → accepts (ready_answer true p) ≡ true
ready_accepts phase.Uninitialised h = h
ready_accepts phase.Ready h = h
ready_accepts phase.Disabled h = h

-- Refusals 1 to 4 are not recorded.
pub unrecorded : (v : Bool) (p : Phase) (b : Bool) → is_recorded (number_of (or_else (ready_answer v p) (check b (Err Busy)))) ≡ false
unrecorded false p b = refl
unrecorded true phase.Uninitialised b = refl
unrecorded true phase.Ready true = refl
unrecorded true phase.Ready false = refl
unrecorded true phase.Disabled b = refl

-- What is not recorded is no 9.
pub unrecorded_undenied : (n : ℕ) → is_recorded n ≡ false → eqb n 9 ≡ false
unrecorded_undenied n u =
    by_test (eqb n 9) (λ t. let e : n ≡ 9 = eqb-true _ _ t in absurd (true≢false (rw e at u))) (λ t. t)

-- Only 9 reports who decided.
pub undenied_reports_none : (a : Answer) → is_denied a ≡ false → reported a ≡ no_decider
undenied_reports_none (Ok done) h = refl
undenied_reports_none (Err (Denied by)) h = absurd (true≢false h)
undenied_reports_none (Err r) h = refl

-- ---- checks 5, 7, 8 and 9, as four tests

-- The first of them that applies answers.
abbrev first_of : Decider → Bool → Bool → Bool → Bool → Answer
first_of by m r w d =
    or_else (check m (Err Malformed)) (or_else (check r (Err OutOfRange)) (or_else (check w (Err CrossesWindow)) (check d (Err (Denied by)))))

-- Each of them is recorded,
first_recorded : (by : Decider) (m r w d : Bool) → accepts (first_of by m r w d) ≡ false → is_recorded (number_of (first_of by m r w d)) ≡ true
first_recorded by true r w d h = refl
first_recorded by false true w d h = refl
first_recorded by false false true d h = refl
first_recorded by false false false true h = refl
first_recorded by false false false false h = cc

-- and the answer is 9 only where check 9 applies.
first_denied_lem : (by : Decider) (m r w d : Bool) → is_denied (first_of by m r w d) ≡ true → d ≡ true
first_denied_lem by true r w d h = cc
first_denied_lem by false true w d h = cc
first_denied_lem by false false true d h = cc
first_denied_lem by false false false true h = refl
first_denied_lem by false false false false h = cc

-- Where they accept, checks 7 and 9 pass.
first_passed : (by : Decider) (m r w d : Bool) → accepts (first_of by m r w d) ≡ true → (r ≡ false) × (d ≡ false)
first_passed by true r w d h = (cc, cc)
first_passed by false true w d h = (cc, cc)
first_passed by false false true d h = (cc, cc)
first_passed by false false false true h = (cc, cc)
first_passed by false false false false h = (refl, refl)

-- Where they accept or deny, checks 5 and 7 pass, and the answer is 9 if check 9 applies.
first_two : (by : Decider) (m r w d : Bool) → (accepts (first_of by m r w d) || is_denied (first_of by m r w d)) ≡ true
    → (m ≡ false) × (r ≡ false) × (d ≡ is_denied (first_of by m r w d))
first_two by true r w d h = (cc, cc, cc)
first_two by false true w d h = (cc, cc, cc)
first_two by false false true d h = (cc, cc, cc)
first_two by false false false true h = (refl, refl, refl)
first_two by false false false false h = (refl, refl, refl)

-- and the answer is nothing but acceptance or 9.
first_named : (by : Decider) (m r w d : Bool) → (accepts (first_of by m r w d) || is_denied (first_of by m r w d)) ≡ true
    → first_of by m r w d ≡ cond (is_denied (first_of by m r w d)) (Err (Denied by)) accepted
first_named by true r w d h = cc
first_named by false true w d h = cc
first_named by false false true d h = cc
first_named by false false false true h = refl
first_named by false false false false h = refl

-- So of an operation:
module _ (s : Setup) (o : Operation) where
  -- its checks come in this order;
  in_order : operation_answer s o ≡ first_of (decider_of s o) (malformed o) (out_of_range s.pages o) (crosses_window o) (denied s o)
  unfolding operation_answer
  in_order = refl

  -- refused, it is recorded;
  pub recorded_if_refused : accepts (operation_answer s o) ≡ false → is_recorded (number_of (operation_answer s o)) ≡ true
  recorded_if_refused = rw in_order (first_recorded (decider_of s o) (malformed o) (out_of_range s.pages o) (crosses_window o) (denied s o))

  -- told 9, it is denied;
  pub denied_if_told : is_denied (operation_answer s o) ≡ true → denied s o ≡ true
  denied_if_told = rw in_order (first_denied_lem (decider_of s o) (malformed o) (out_of_range s.pages o) (crosses_window o) (denied s o))

  -- accepted, it is in range and not denied;
  pub accepted_passes : accepts (operation_answer s o) ≡ true → (out_of_range s.pages o ≡ false) × (denied s o ≡ false)
  accepted_passes = rw in_order (first_passed (decider_of s o) (malformed o) (out_of_range s.pages o) (crosses_window o) (denied s o))

  -- accepted or told 9, it is well formed and in range, and denied if told so,
  pub asked_in_range : (accepts (operation_answer s o) || is_denied (operation_answer s o)) ≡ true
      → (malformed o ≡ false) × (out_of_range s.pages o ≡ false) × (denied s o ≡ is_denied (operation_answer s o))
  asked_in_range = rw in_order (first_two (decider_of s o) (malformed o) (out_of_range s.pages o) (crosses_window o) (denied s o))

  -- and told just that.
  pub answer_named : (accepts (operation_answer s o) || is_denied (operation_answer s o)) ≡ true
      → operation_answer s o ≡ cond (is_denied (operation_answer s o)) (Err (Denied (decider_of s o))) accepted
  answer_named = rw in_order (first_named (decider_of s o) (malformed o) (out_of_range s.pages o) (crosses_window o) (denied s o))
