-- What a round tells and leaves, by who is served. Assumes nothing.
use Rattle.std.specs.Prelude.{Err, Ok, Some}
use Prim.Native.Nat.{ℕ, ◌+◌}
use native.Mathlib.Omega.{arith}
use mathlib.Core.Path.{◌≡◌, refl, ap, sym, ◌∙◌}
use mathlib.Core.Bool.{Bool, true, false}
use mathlib.Core.List.{List}
use lib.Dec.{ltb}
use lib.ListN.{length, get_or, set}
use Rattle.model.specs.State.{Flash}
use Rattle.model.specs.Refusals.{accepts, ready_answer}
use Rattle.model.specs.Valid.{lost_limit, valid_with}
use Rattle.model.specs.Steps.{step}
use Rattle.model.specs.Host.{host_read}
use Rattle.model.specs.Rounds.{lost_in, would_move, competes, round, next_bank, host_served, host_unserved, step_served, host_alone, step_alone, host_goes, step_goes, contest, both_go}
use Rattle.model.specs.declared.ByteAddress.{ByteAddress}
use Rattle.model.specs.declared.HostTurn.{HostTurn}
use Rattle.model.specs.declared.Turn.TheVariants.{Unasked}
use Rattle.model.specs.declared.Refusal.{Refusal}
use Rattle.model.specs.declared.Controller.{Controller}
use Rattle.model.proofs.Bool.{and_left}
use Rattle.model.proofs.Rounds.{goes_would, competes_goes, would_go, goes_accepted, step_leaves_alone}
use Rattle.registers.specs.Layout.{lost_from}
use Rattle.registers.specs.Registers.{decode, put}
use Rattle.registers.proofs.Kept.{put_back}
use Rattle.registers.proofs.Lying.{lost_lies, two_counts}
use Rattle.registers.proofs.Written.{put_lost}
use Rattle.calls.specs.Calls.{LeftFlash, host_told, told_host_word, round_left, round_in, step_in, host_read_in}
use Rattle.calls.proofs.Movements.{step_tells}
use Rattle.calls.specs.declared.ToldStep.{ToldStep}
use Rattle.calls.specs.declared.ToldHostWord.{ToldHostWord}
use Rattle.calls.specs.declared.ToldHostTurn.{ToldHostTurn}
use Rattle.calls.specs.declared.ToldRound.{ToldRound}
use Rattle.validity.specs.Ready.{Ready}
use Rattle.steps.proofs.Left.{step_early}
use Rattle.host.proofs.Hosted.{answered_early, read_early}
use Rattle.rounds.specs.Turns.{Going, Contested, contends, served_host, served_step, unserved_host, unserved_step, refused_both}
use Rattle.rounds.proofs.Going.{going_stands, going_encoded, unready_alone, ready_competes}

-- A step that would move has passed checks 1 to 3.
pub going_ready : (s : List ℕ) (f : Flash) → would_move (decode s) f ≡ true → Ready s f
unfolding would_move
going_ready s f h = and_left _ _ h

-- ---- the step is served

-- What a step tells and leaves, beside what the host is told.
abbrev pub beside : ToldHostTurn → LeftFlash ToldStep → LeftFlash ToldRound
beside h l = record { told = record { host = h; step = served_step l.told }; registers = l.registers; flash = l.flash }

-- A step tells a movement exactly where it is accepted, so that a round hands its registers back where the step does.
step_beside : (s : List ℕ) (f : Flash) (h : HostTurn)
    → beside (host_told h) (step_in s f)
    ≡ round_left s (record {
      result = record { controller = (step (decode s) f).result.controller; host = h; step = step_served (step (decode s) f).result };
      flash = (step (decode s) f).flash;
    })
unfolding step_in
step_beside s f h = rw (step_tells (decode s) f)

pub left_alone : (s : List ℕ) (f : Flash) → beside (unserved_host 0) (step_in s f) ≡ round_left s (step_alone (decode s) f)
left_alone s f = step_beside s f (host_unserved Unasked)

pub left_both : (s : List ℕ) (f : Flash) (a : ByteAddress) → beside (served_host (host_read_in s f a)) (step_in s f) ≡ round_left s (both_go (decode s) f a)
unfolding host_read host_read_in
left_both s f a = step_beside s f (host_served (host_read (decode s) f a))

-- Where checks 1 to 3 refuse, both are told so.
pub left_refused : (s : List ℕ) (f : Flash) (a : ByteAddress) {e : Refusal} → ready_answer (valid_with (decode s) f) (decode s).phase ≡ Err e
    → record { told = refused_both (Err e); registers = s; flash = f } ≡ round_left s (both_go (decode s) f a)
left_refused s f a {e} w =
    ap (beside (served_host (told_host_word (Err e) 0))) (step_early s f w)
    ∙ ap (λ (t : ToldHostWord). beside (served_host t) (step_in s f)) (read_early s f a w)
    ∙ left_both s f a

-- ---- the host alone is served

-- What a host read tells, beside a step that asked nothing.
abbrev pub lone : List ℕ → Flash → ToldHostWord → LeftFlash ToldRound
lone s f t = record { told = record { host = served_host t; step = unserved_step 0 0 }; registers = s; flash = f }

pub left_host_alone : (s : List ℕ) (f : Flash) (a : ByteAddress)
    → lone s f (host_read_in s f a) ≡ round_left s (host_alone (decode s) f a)
unfolding host_read_in
left_host_alone s f a = refl

-- ---- host and step in one bank

-- What a step tells and leaves where the host waits, and its bank's count returns to 0.
abbrev pub instead : ℕ → LeftFlash ToldStep → LeftFlash ToldRound
instead bank l = record {
  told = record { host = unserved_host 1; step = served_step l.told };
  registers = set l.registers (lost_from + bank) 0;
  flash = l.flash;
}

-- What a host read tells where the step waits, and its bank's count rises.
abbrev pub before_step : List ℕ → Flash → ℕ → ToldHostWord → LeftFlash ToldRound
before_step s f bank t = record {
  told = record { host = served_host t; step = unserved_step 1 3 };
  registers = set s (lost_from + bank) (get_or s (lost_from + bank) 0 + 1);
  flash = f;
}

module _ {s : List ℕ} {f : Flash} {bank : ℕ} (h : Contested s f bank) where
  going : Going s
  going = record { lent = f; moves = h.moves }

  two : length (decode s).physical.lost ≡ 2
  two = rw (going_stands going) (two_counts s)

  lost_same : get_or s (lost_from + bank) 0 ≡ lost_in (decode s) bank
  lost_same = lost_lies s bank h.small ∙ ap (λ (c : Controller). lost_in c bank) (sym (going_stands going))

  lost_there : get_or s (lost_from + bank) 0 ≡ lost_in (decode s) (next_bank (decode s))
  lost_there = lost_same ∙ ap (lost_in (decode s)) h.same

  -- The host goes.
  pub left_host_goes : (a : ByteAddress) → before_step s f bank (host_read_in s f a) ≡ round_left s (host_goes (decode s) f a)
  unfolding host_read host_read_in
  left_host_goes a =
      let back : put s (decode s) ≡ s = ap (put s) (going_stands going) ∙ put_back s (going_encoded going) in
      rw (← h.same, put_lost s (decode s) bank (lost_in (decode s) bank + 1) two (omega (arith, h.small)), back, ← lost_same)

  -- The controller goes instead.
  pub left_step_goes : instead bank (step_in s f) ≡ round_left s (step_goes (decode s) f)
  unfolding step_in
  left_step_goes =
      let told : accepts (step (decode s) f).result.answer ≡ true = ap accepts (goes_accepted (decode s) f (would_go (decode s) f h.moves)) in
      let long : length (step (decode s) f).result.controller.physical.lost ≡ 2 = rw (step_leaves_alone (decode s) f).1 two in
      rw (step_tells (decode s) f, told, ← h.same, put_lost s (step (decode s) f).result.controller bank 0 long (omega (arith, h.small)))

  -- Which of them, by the count.
  pub left_contest_host : (a : ByteAddress) → ltb (get_or s (lost_from + bank) 0) lost_limit ≡ true
      → round_left s (host_goes (decode s) f a) ≡ round_left s (contest (decode s) f a)
  left_contest_host a t = rw (rw lost_there at t)

  pub answer_contest_host : (a : ByteAddress) → ltb (get_or s (lost_from + bank) 0) lost_limit ≡ true
      → (host_goes (decode s) f a).result.host.answer ≡ (contest (decode s) f a).result.host.answer
  answer_contest_host a t = rw (rw lost_there at t)

  pub left_contest_step : (a : ByteAddress) → ltb (get_or s (lost_from + bank) 0) lost_limit ≡ false
      → round_left s (step_goes (decode s) f) ≡ round_left s (contest (decode s) f a)
  left_contest_step a t = rw (rw lost_there at t)

  pub answer_contest_step : (a : ByteAddress) → ltb (get_or s (lost_from + bank) 0) lost_limit ≡ false
      → (step_goes (decode s) f).result.host.answer ≡ (contest (decode s) f a).result.host.answer
  answer_contest_step a t = rw (rw lost_there at t)

-- ---- both are asked

module _ (s : List ℕ) (f : Flash) (a : ByteAddress) where
  -- Refused by checks 1 to 3,
  pub asked_refused : {e : Refusal} → ready_answer (valid_with (decode s) f) (decode s).phase ≡ Err e
      → record { told = refused_both (Err e); registers = s; flash = f } ≡ round_in s f (Some a) true
  unfolding round_in round
  asked_refused w = rw (unready_alone s f a (rw w)) (left_refused s f a w)

  pub answer_refused : {e : Refusal} → ready_answer (valid_with (decode s) f) (decode s).phase ≡ Err e
      → Err e ≡ (round (decode s) f (Some a) true).result.host.answer
  unfolding round host_read
  answer_refused w = rw (unready_alone s f a (rw w)) (answered_early s f a w)

  -- or not: in one bank they compete,
  module _ {done : Unit} (w : ready_answer (valid_with (decode s) f) (decode s).phase ≡ Ok done) where
    pub asked_ready : Ready s f
    asked_ready = rw w

    competing : {t : Bool} → contends s a ≡ t → competes (decode s) f a ≡ t
    competing h = sym (ready_competes s f asked_ready a) ∙ h

    pub asked_goes : contends s a ≡ true → would_move (decode s) f ≡ true
    asked_goes h = goes_would _ _ (competes_goes _ _ _ (competing h))

    pub asked_contest : contends s a ≡ true → round_left s (contest (decode s) f a) ≡ round_in s f (Some a) true
    unfolding round_in round
    asked_contest h = rw (competing h)

    pub answer_contest : contends s a ≡ true → (contest (decode s) f a).result.host.answer ≡ (round (decode s) f (Some a) true).result.host.answer
    unfolding round
    answer_contest h = rw (competing h)

    -- in two both are served.
    pub asked_both : contends s a ≡ false → round_left s (both_go (decode s) f a) ≡ round_in s f (Some a) true
    unfolding round_in round
    asked_both h = rw (competing h)

    pub answer_both : contends s a ≡ false → (both_go (decode s) f a).result.host.answer ≡ (round (decode s) f (Some a) true).result.host.answer
    unfolding round
    answer_both h = rw (competing h)
