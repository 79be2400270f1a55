-- What a push leaves, by the tests that it makes. Assumes nothing.
use Rattle.std.specs.Prelude.{None, Some, Err}
use Prim.Native.Nat.{ℕ, ◌+◌, ◌<◌}
use mathlib.Core.Path.{◌≡◌, refl, ap, sym, subst, ◌∙◌}
use mathlib.Core.Bool.{true}
use mathlib.Core.List.{List, [], ◌∷◌}
use lib.Dec.{leb}
use borrow.Author.Tests.{leb-false}
use denote.Enum.Declared.{tag_of}
use types.Run.{OneOf}
use Rattle.model.specs.Valid.{valid}
use Rattle.model.specs.Queue.{is_full, pushed}
use Rattle.model.specs.Refusals.{accepted, accepts, check, ready_answer, refusal_number}
use Rattle.model.specs.declared.Refusal.{Refusal}
use Rattle.model.specs.Steps.{push, push_answer}
use Rattle.model.specs.declared.Refusal.TheVariants.{QueueFull, Unexpected}
use Rattle.model.specs.declared.Operation.{Operation}
use Rattle.model.specs.declared.Work.{Work}
use Rattle.model.specs.declared.Work.TheVariants.{Program}
use Rattle.model.specs.declared.Outcome.{Outcome}
use Rattle.model.specs.declared.Controller.{Controller}
use Rattle.model.specs.contracts.Work.{the_type}
use Rattle.model.proofs.QueueLaws.{push_keeps_its_places}
use Rattle.model.proofs.Accepting.{ready_valid, push_unready, push_refused, push_accepted, no_program}
use Rattle.model.proofs.Answers.{refused_first, check_passed}
use Rattle.registers.specs.Layout.{programs_from}
use Rattle.registers.specs.Registers.{decode, stands_for, progress_at, queue_at, put_queue}
use Rattle.registers.proofs.Kept.{valid_encoded}
use Rattle.registers.proofs.Written.{put_programs}
use Rattle.calls.specs.Calls.{Left, outcome_left, push_in}
use Rattle.validity.proofs.Taken.{taken_stands}

module _ (s : List ℕ) (w : ℕ) where
  -- Checks 1, 2 and 3 refuse,
  pub push_early : {e : Refusal} → ready_answer (valid (decode s)) (decode s).phase ≡ Err e → record { told = refusal_number e; registers = s } ≡ push_in s w
  unfolding push_in
  push_early h = rw (sym (push_unready (decode s) w (rw h)), h)

  -- or pass:
  module _ (h : ready_answer (valid (decode s)) (decode s).phase ≡ accepted) where
    fits : valid (decode s) ≡ true
    fits = ready_valid (valid (decode s)) (decode s).phase (rw h)

    same : decode s ≡ stands_for s
    same = taken_stands s fits

    ready : accepts (ready_answer (valid (stands_for s)) (stands_for s).phase) ≡ true
    ready = subst (λ (c : Controller). accepts (ready_answer (valid c) c.phase) ≡ true) same (rw h)

    by_push : {r : Outcome} → r ≡ push (stands_for s) w → outcome_left s r ≡ push_in s w
    unfolding push_in
    by_push e = ap (outcome_left s) (e ∙ ap (λ (c : Controller). push c w) (sym same))

    -- what is in progress refuses,
    refused : {e : Refusal} → push_answer (stands_for s) (progress_at s) ≡ Err e → record { told = refusal_number e; registers = s } ≡ push_in s w
    unfolding stands_for
    refused {e} h = by_push (push_refused (stands_for s) w (Err e) ready h refl)

    -- as nothing is,
    pub push_idle : progress_at s ≡ None → record { told = 12; registers = s } ≡ push_in s w
    unfolding push_answer
    push_idle e = refused {e = Unexpected} (rw e)

    -- or no program,
    pub push_other : {v : Work} → progress_at s ≡ Some v → OneOf (0 ∷ 2 ∷ []) (tag_of the_type v) → record { told = 12; registers = s } ≡ push_in s w
    push_other {v} e t = refused {e = Unexpected} (rw e (no_program (stands_for s) v t))

    -- or a program, all of whose words are pushed,
    module _ {o : Operation} {k : ℕ} (e : progress_at s ≡ Some (Program o k)) where
      pub push_all : {r : Refusal} → check (leb o.count (k + (queue_at s programs_from).len)) (Err Unexpected) ≡ Err r
          → record { told = refusal_number r; registers = s } ≡ push_in s w
      unfolding stands_for push_answer
      push_all t = refused (rw e (sym (refused_first _ t)))

      -- or for which the queue is full,
      module _ (more : check (leb o.count (k + (queue_at s programs_from).len)) (Err Unexpected) ≡ accepted) where
        pub push_full : {r : Refusal} → check (is_full (queue_at s programs_from)) (Err QueueFull) ≡ Err r → record { told = refusal_number r; registers = s } ≡ push_in s w
        unfolding stands_for push_answer
        push_full t = refused (rw (e, more, t))

        -- or the word joins it.
        pub push_joins : {t : List ℕ} → check (is_full (queue_at s programs_from)) (Err QueueFull) ≡ accepted
            → t ≡ put_queue s programs_from (pushed (queue_at s programs_from) w) → record { told = 0; registers = t } ≡ push_in s w
        unfolding stands_for push_answer
        push_joins t u =
            let q = pushed (queue_at s programs_from) w in
            let room : (queue_at s programs_from).len < 16 = leb-false 16 (queue_at s programs_from).len (check_passed _ QueueFull (rw t)) in
            ap {B = Left ℕ} (λ (l : List ℕ). record { told = 0; registers = l })
            (u ∙ sym (put_programs s (valid_encoded s fits) q (push_keeps_its_places (queue_at s programs_from) w room refl)))
            ∙ by_push (push_accepted (stands_for s) w ready (rw (e, more, t)))
