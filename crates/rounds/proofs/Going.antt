-- Whether the step of the registers would move a word, and the bank of that word. Assumes nothing.
use Rattle.std.specs.Prelude.{Some}
use Prim.Native.Nat.{ℕ, ◌≤◌, ◌<◌}
use mathlib.Core.Path.{◌≡◌, ap, sym, subst, ◌∙◌}
use mathlib.Core.Bool.{true, false}
use mathlib.Core.List.{List}
use lib.ListN.{get_or}
use Rattle.model.specs.Geometry.{bank_of_word}
use Rattle.model.specs.Places.{total_words, place_of}
use Rattle.model.specs.State.{Flash}
use Rattle.model.specs.Refusals.{accepts, ready_answer}
use Rattle.model.specs.Checks.{out_of_range}
use Rattle.model.specs.Valid.{valid, valid_with}
use Rattle.model.specs.Rounds.{goes, would_move, progress_bank, next_bank, host_bank, competes}
use Rattle.model.specs.declared.ByteAddress.{ByteAddress}
use Rattle.model.specs.declared.Work.{Work}
use Rattle.model.specs.declared.Controller.{Controller}
use Rattle.model.proofs.Moving.{moving, with_valid}
use Rattle.model.proofs.Accepting.{ready_valid}
use Rattle.model.proofs.Rounds.{Goes, would_go}
use Rattle.registers.specs.Layout.{pages_at, moved_at}
use Rattle.registers.specs.Registers.{operation_at, work_at, progress_at, encoded, stands_for, decode}
use Rattle.registers.proofs.Kept.{valid_encoded}
use Rattle.registers.proofs.Lying.{work_lies, operation_lies}
use Rattle.validity.specs.Ready.{Ready}
use Rattle.validity.proofs.Taken.{taken_stands}
use Rattle.rounds.specs.Turns.{Going, contends}

-- ---- by the tests that the code makes

-- Where checks 1 to 3 refuse, the step does not compete.
pub unready_alone : (s : List ℕ) (f : Flash) (a : ByteAddress) → accepts (ready_answer (valid_with (decode s) f) (decode s).phase) ≡ false
    → competes (decode s) f a ≡ false
unfolding competes would_move
unready_alone s f a h = rw h

-- Where they pass, what lies in the registers decides:
module _ (s : List ℕ) (f : Flash) (h : Ready s f) where
  pub ready_stands : decode s ≡ stands_for s
  ready_stands = taken_stands s (with_valid (decode s) f (ready_valid (valid_with (decode s) f) (decode s).phase h))

  -- whether the step would move a word,
  pub ready_moves : goes (stands_for s).queues (progress_at s) ≡ would_move (decode s) f
  unfolding would_move stands_for
  ready_moves = rw h (ap (λ (c : Controller). goes c.queues c.progress) (sym ready_stands))

  -- and whether it competes with the host.
  pub ready_competes : (a : ByteAddress) → contends s a ≡ competes (decode s) f a
  unfolding competes host_bank stands_for
  ready_competes a =
      let same : get_or s pages_at 0 ≡ (decode s).setup.pages = sym (ap (λ (c : Controller). c.setup.pages) ready_stands) in
      rw (ready_moves, same)

-- ---- a step that would move a word

module _ {s : List ℕ} (g : Going s) where
  step_goes : Goes (decode s) g.lent
  step_goes = would_go (decode s) g.lent g.moves

  pub going_stands : decode s ≡ stands_for s
  going_stands = ready_stands s g.lent step_goes.ready

  fits : valid (stands_for s) ≡ true
  fits = subst (λ (c : Controller). valid c ≡ true) going_stands
      (with_valid (decode s) g.lent (ready_valid (valid_with (decode s) g.lent) (decode s).phase step_goes.ready))

  pub going_encoded : encoded s ≡ true
  going_encoded = valid_encoded s (rw going_stands fits)

  running : (stands_for s).progress ≡ Some (work_at s)
  unfolding stands_for progress_at
  running =
      let e : (stands_for s).progress ≡ Some step_goes.work = subst (λ (c : Controller). c.progress ≡ Some step_goes.work) going_stands step_goes.running in
      e ∙ ap (λ (w : Work). Some w) (sym (work_lies s step_goes.work e))

  abbrev d : ℕ
  d = get_or s pages_at 0

  -- Its word has a place,
  pub going_place : (10 ≤ d) × (d ≤ 256) × (out_of_range d (operation_at s) ≡ false) × (get_or s moved_at 0 < total_words d (operation_at s))
  unfolding stands_for
  going_place =
      let m = moving (stands_for s) (work_at s) fits running in
      let l = operation_lies s in
      (m.pages.0, m.pages.1, rw l.0 at m.ranged, rw (l.0, l.1) at m.left)

  -- and that place a bank.
  pub going_bank : bank_of_word d (place_of d (operation_at s) (get_or s moved_at 0)) ≡ next_bank (decode s)
  unfolding next_bank stands_for
  going_bank =
      let l = operation_lies s in
      sym (ap (λ (c : Controller). progress_bank c.setup.pages c.progress) going_stands
      ∙ ap (progress_bank d) running
      ∙ rw (l.0, l.1))
