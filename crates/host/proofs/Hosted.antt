-- What a host read and a view tell, by what their checks answer. Assumes nothing.
use Rattle.std.specs.Prelude.{Ok, Err}
use Prim.Native.Nat.{ℕ, ◌+◌, ◌*◌, ◌≤◌, ◌<◌}
use native.Mathlib.Omega.{arith}
use mathlib.Core.Path.{◌≡◌, refl, ap, sym, ◌∙◌}
use mathlib.Core.Bool.{true, false}
use mathlib.Core.List.{List}
use lib.Dec.{leb}
use lib.ListN.{length, get_or}
use borrow.Author.Tests.{leb-false}
use Rattle.model.specs.Geometry.{data_pages, page_of, image_page, first_word, word_at}
use Rattle.model.specs.State.{Flash}
use Rattle.model.specs.Refusals.{accepts, check, or_else, phase_answer, ready_answer}
use Rattle.model.specs.Checks.{unaligned, past_data}
use Rattle.model.specs.Valid.{valid_with}
use Rattle.model.specs.Steps.{delivered}
use Rattle.model.specs.Host.{read_answer, host_answer, host_read, view_answer, view}
use Rattle.model.specs.declared.Page.{Page}
use Rattle.model.specs.declared.ByteAddress.{ByteAddress}
use Rattle.model.specs.declared.Controller.{Controller}
use Rattle.model.specs.Refusals.{Answer, accepted}
use Rattle.model.specs.declared.Refusal.{Refusal}
use Rattle.model.specs.declared.Refusal.TheVariants.{Malformed, OutOfRange}
use Rattle.registers.specs.Layout.{pages_at}
use Rattle.registers.specs.Registers.{stands_for, decode}
use Rattle.calls.specs.Calls.{told_host_word, told_start, host_read_in, view_in}
use Rattle.model.proofs.Bool.{by_test}
use Rattle.model.proofs.Geometry.{data_inside, word_at_inside}
use Rattle.model.proofs.Moving.{with_valid}
use Rattle.model.proofs.Answers.{accepted_is, both_accept, check_passed}
use Rattle.model.proofs.Accepting.{ready_valid, lent_fits}
use Rattle.validity.specs.Ready.{Ready}
use Rattle.validity.proofs.Taken.{taken_stands}

module _ (s : List ℕ) (f : Flash) where
  same : valid_with (decode s) f ≡ true → decode s ≡ stands_for s
  same h = taken_stands s (with_valid (decode s) f h)

  -- The checks after these matter in a valid state only: there the registers stand for the controller.
  rest_same : (rest : Controller → Answer)
      → or_else (ready_answer (valid_with (decode s) f) (decode s).phase) (rest (stands_for s)) ≡ or_else (ready_answer (valid_with (decode s) f) (decode s).phase) (rest (decode s))
  rest_same rest =
      by_test (valid_with (decode s) f)
      (λ h. ap (λ (c : Controller). or_else (ready_answer (valid_with (decode s) f) (decode s).phase) (rest c)) (sym (same h)))
      (λ h. rw h)

  -- Where they accept, the D that is read is the controller's.
  pages_same : (rest : Answer) → accepts (or_else (ready_answer (valid_with (decode s) f) (decode s).phase) rest) ≡ true → get_or s pages_at 0 ≡ (decode s).setup.pages
  unfolding stands_for
  pages_same rest h =
      let ready = (both_accept (ready_answer (valid_with (decode s) f) (decode s).phase) rest h).0 in
      sym (ap (λ (c : Controller). c.setup.pages) (same (ready_valid (valid_with (decode s) f) (decode s).phase ready)))

  -- ---- host read

  module _ (a : ByteAddress) where
    abbrev host_rest : Controller → Answer
    host_rest c =
        or_else (check (unaligned a) (Err Malformed))
        (or_else (check (past_data c.setup.pages a) (Err OutOfRange))
        (read_answer c.setup (page_of a)))

    host_answer_same : or_else (ready_answer (valid_with (decode s) f) (decode s).phase)
        (or_else (check (unaligned a) (Err Malformed)) (or_else (check (past_data (get_or s pages_at 0) a) (Err OutOfRange)) (read_answer (stands_for s).setup (page_of a))))
        ≡ host_answer (decode s) f a
    unfolding host_answer stands_for
    host_answer_same = rest_same host_rest

    -- In a state that passes checks 1 to 3 the others decide.
    pub late_same : Ready s f
        → or_else (check (unaligned a) (Err Malformed)) (or_else (check (past_data (get_or s pages_at 0) a) (Err OutOfRange)) (read_answer (stands_for s).setup (page_of a)))
        ≡ host_answer (decode s) f a
    late_same ready = rw ready at host_answer_same

    module _ (h : accepts (host_answer (decode s) f a) ≡ true) where
      host_pages : get_or s pages_at 0 ≡ (decode s).setup.pages
      unfolding host_answer
      host_pages = pages_same (host_rest (decode s)) h

      -- An accepted host read lies in the image.
      pub read_inside : (get_or s pages_at 0 ≤ 256) × ((word_at (get_or s pages_at 0) false 0 a).0 < length f.words)
      unfolding host_answer
      read_inside =
          let (ready, rest) = both_accept (ready_answer (valid_with (decode s) f) (decode s).phase) (host_rest (decode s)) h in
          let fits = lent_fits (decode s) f (phase_answer (decode s).phase) ready in
          let range = (both_accept (check (past_data (decode s).setup.pages a) (Err OutOfRange)) _ (both_accept (check (unaligned a) (Err Malformed)) _ rest).1).0 in
          let below : a.0 < 2 * (decode s).setup.pages * 1024 = leb-false _ _ (check_passed _ OutOfRange range) in
          rw host_pages (fits.0, omega (arith, word_at_inside (decode s).setup.pages false 0 a (data_inside (decode s).setup.pages 0 (page_of a) (omega arith))))

      pub read_accepted : told_host_word (host_answer (decode s) f a) (delivered f (word_at (get_or s pages_at 0) false 0 a)) ≡ host_read_in s f a
      unfolding host_read_in host_read
      read_accepted = rw (h, host_pages)

    pub read_refused : accepts (host_answer (decode s) f a) ≡ false → told_host_word (host_answer (decode s) f a) 0 ≡ host_read_in s f a
    unfolding host_read_in host_read
    read_refused h = rw h

    -- In a state that does not pass checks 1 to 3 these decide.
    early_same : accepts (ready_answer (valid_with (decode s) f) (decode s).phase) ≡ false
        → host_answer (decode s) f a ≡ ready_answer (valid_with (decode s) f) (decode s).phase
    unfolding host_answer
    early_same h = rw h

    pub answered_early : {e : Refusal} → ready_answer (valid_with (decode s) f) (decode s).phase ≡ Err e → Err e ≡ host_answer (decode s) f a
    answered_early w = sym (early_same (rw w) ∙ w)

    pub read_early : {e : Refusal} → ready_answer (valid_with (decode s) f) (decode s).phase ≡ Err e → told_host_word (Err e) 0 ≡ host_read_in s f a
    read_early w =
        let h : host_answer (decode s) f a ≡ Err _ = early_same (rw w) ∙ w in
        rw h at (read_refused (rw h))

    -- In a state that passes them the later checks decide.
    module _ (ready : Ready s f) where
      abbrev late : Answer
      late =
          or_else (check (unaligned a) (Err Malformed))
          (or_else (check (past_data (get_or s pages_at 0) a) (Err OutOfRange))
          (read_answer (stands_for s).setup (page_of a)))

      pub late_answered : {e : Refusal} → late ≡ Err e → Err e ≡ host_answer (decode s) f a
      late_answered w = sym w ∙ late_same ready

      pub late_refused : {e : Refusal} → late ≡ Err e → told_host_word (Err e) 0 ≡ host_read_in s f a
      late_refused w =
          let h : host_answer (decode s) f a ≡ Err _ = sym (late_same ready) ∙ w in
          rw h at (read_refused (rw h))

      pub late_told : {done : Unit} → late ≡ Ok done → host_answer (decode s) f a ≡ accepted
      late_told w = accepted_is _ (rw (sym (late_same ready) ∙ w))

      pub late_inside : {done : Unit} → late ≡ Ok done
          → (get_or s pages_at 0 ≤ 256) × ((word_at (get_or s pages_at 0) false 0 a).0 < length f.words)
      late_inside w = read_inside (rw (late_told w))

      pub late_accepted : {done : Unit} → late ≡ Ok done
          → told_host_word accepted (delivered f (word_at (get_or s pages_at 0) false 0 a)) ≡ host_read_in s f a
      late_accepted w = let h = late_told w in rw h at (read_accepted (rw h))

  -- ---- view

  module _ (p : Page) where
    abbrev view_rest : Controller → Answer
    view_rest c = or_else (check (leb (data_pages c.setup.pages) p.0) (Err OutOfRange)) (read_answer c.setup p)

    pub view_answer_same : or_else (ready_answer (valid_with (decode s) f) (decode s).phase)
        (or_else (check (leb (data_pages (get_or s pages_at 0)) p.0) (Err OutOfRange)) (read_answer (stands_for s).setup p))
        ≡ view_answer (decode s) f p
    unfolding view_answer stands_for
    view_answer_same = rest_same view_rest

    module _ (h : accepts (view_answer (decode s) f p) ≡ true) where
      pub view_pages : get_or s pages_at 0 ≡ (decode s).setup.pages
      unfolding view_answer
      view_pages = pages_same (view_rest (decode s)) h

      -- The page that an accepted view shows lies in the image.
      pub view_inside : (get_or s pages_at 0 ≤ 256) × (p.0 < 512) × ((first_word (image_page (get_or s pages_at 0) false 0 p)).0 + 256 ≤ length f.words)
      unfolding view_answer
      view_inside =
          let (ready, rest) = both_accept (ready_answer (valid_with (decode s) f) (decode s).phase) (view_rest (decode s)) h in
          let fits = lent_fits (decode s) f (phase_answer (decode s).phase) ready in
          let range = (both_accept (check (leb (data_pages (decode s).setup.pages) p.0) (Err OutOfRange)) _ rest).0 in
          let below : p.0 < 2 * (decode s).setup.pages = leb-false _ _ (check_passed _ OutOfRange range) in
          rw view_pages (fits.0, omega arith, omega (arith, data_inside (decode s).setup.pages 0 p below))

      pub view_accepted : told_start (view_answer (decode s) f p) (first_word (image_page (get_or s pages_at 0) false 0 p)).0 ≡ view_in s f p
      unfolding view_in view
      view_accepted = rw (h, view_pages)

    pub view_refused : {e : Refusal} → view_answer (decode s) f p ≡ Err e → told_start (Err e) 0 ≡ view_in s f p
    unfolding view_in view
    view_refused h = rw h

    pub view_shown : {done : Unit} → view_answer (decode s) f p ≡ Ok done
        → told_start accepted (first_word (image_page (get_or s pages_at 0) false 0 p)).0 ≡ view_in s f p
    view_shown w =
        let h : view_answer (decode s) f p ≡ accepted = accepted_is _ (rw w) in
        rw h at (view_accepted (rw h))

    pub view_fits : {done : Unit} → view_answer (decode s) f p ≡ Ok done
        → (get_or s pages_at 0 ≤ 256) × (p.0 < 512) × ((first_word (image_page (get_or s pages_at 0) false 0 p)).0 + 256 ≤ length f.words)
    view_fits w = view_inside (rw w)
