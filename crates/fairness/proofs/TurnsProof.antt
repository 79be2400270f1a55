-- Both are served where they do not compete, and a host waits once. Assumes nothing.
use Rattle.std.specs.Prelude.{Some}
use Prim.Native.Nat.{ℕ}
use native.Mathlib.Omega.{arith}
use mathlib.Core.Path.{◌≡◌, refl, sym, ◌∙◌}
use mathlib.Core.Bool.{Bool, true, false, true≢false}
use Rattle.model.specs.State.{Flash}
use Rattle.model.specs.Host.{host_read}
use Rattle.model.specs.Rounds.{next_bank, host_bank, competes, lost_in, round}
use Rattle.model.specs.declared.ByteAddress.{ByteAddress}
use Rattle.model.specs.declared.Turn.TheVariants.{Waiting, Served}
use Rattle.model.specs.declared.Controller.{Controller}
use Rattle.model.proofs.Rounds.{step_leaves_alone, step_goes_counts, one_bank, BothAsked, host, instead, both, both_asked}
use Rattle.promises.specs.Calls.{State, Round, perform}
use Rattle.fairness.specs.Fair.{ServesBoth, BothServed, HostOnce}

-- ---- both are served

both_serves : (s : State) (a : ByteAddress) → BothAsked s.controller s.flash a → competes s.controller s.flash a ≡ false → ServesBoth s a
unfolding perform host_read
both_serves s a (host t few e) h = absurd (true≢false (sym t ∙ h))
both_serves s a (instead t many e) h = absurd (true≢false (sym t ∙ h))
both_serves s a (both t e) h = record { reply = rw e; state = rw e; counts = rw e (step_leaves_alone s.controller s.flash).1 }

pub both_served : BothServed
both_served s a h = both_serves s a (both_asked s.controller s.flash a) h

-- ---- a host waits once

-- Where the bank has lost no turn, the host is served.
low_served : (c : Controller) (f : Flash) {a : ByteAddress} → BothAsked c f a → lost_in c (host_bank c.setup.pages a) ≡ 0
    → (round c f (Some a) true).result.host.turn ≡ Served
low_served c f (host t few e) z = rw e
low_served c f {a} (instead t many e) z =
    let none : lost_in c (next_bank c) ≡ 0 = rw (one_bank c f a t) at z in absurd (omega arith)
low_served c f (both t e) z = rw e

-- So is it where the step is not asked.
served_low : (s : State) (a : ByteAddress) (b : Bool) → lost_in s.controller (host_bank s.controller.setup.pages a) ≡ 0
    → (perform s (Round (Some a) b)).reply.host.turn ≡ Served
unfolding perform round
served_low s a false z = refl
served_low s a true z = low_served s.controller s.flash (both_asked s.controller s.flash a) z

-- Who is served does not wait.
never : {P : Type 0} → Served ≡ Waiting → P
never h = let z : ◌≡◌ {A = ℕ} 0 1 = cc in absurd (omega arith)

-- A host that waited lost its turn to the step, and so its bank's count returned to 0.
waited : (s : State) (a next : ByteAddress) (again : Bool) → BothAsked s.controller s.flash a
    → (perform s (Round (Some a) true)).reply.host.turn ≡ Waiting
    → host_bank s.controller.setup.pages next ≡ host_bank s.controller.setup.pages a
    → (perform (perform s (Round (Some a) true)).state (Round (Some next) again)).reply.host.turn ≡ Served
unfolding perform
waited s a next again (host t few e) w same = never (rw e at w)
waited s a next again (instead t many e) w same =
    let setup = (step_leaves_alone s.controller s.flash).0 in
    let bank = same ∙ one_bank s.controller s.flash a t in
    rw e (served_low _ next again (rw (setup, bank) (step_goes_counts s.controller s.flash)))
waited s a next again (both t e) w same = never (rw e at w)

pub host_once : HostOnce
unfolding perform round
host_once s a next false again w same = never w
host_once s a next true again w same = waited s a next again (both_asked s.controller s.flash a) w same
