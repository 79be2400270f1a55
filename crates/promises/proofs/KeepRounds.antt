-- A round keeps a valid state valid. Assumes nothing.
use Rattle.std.specs.Prelude.{None, Some}
use Prim.Native.Nat.{ℕ, ◌≤◌}
use native.Mathlib.Omega.{arith}
use mathlib.Core.Bool.{Bool, true, false}
use lib.ListN.{length-set}
use borrow.Author.Tests.{le-leb}
use Rattle.model.specs.State.{Flash}
use Rattle.model.specs.Valid.{lost_limit, physical_fits}
use Rattle.model.specs.Host.{host_read}
use Rattle.model.specs.Rounds.{with_lost, next_bank, round}
use Rattle.model.specs.declared.ByteAddress.{ByteAddress}
use Rattle.model.specs.Rounds.{HostRequest}
use Rattle.model.specs.declared.Controller.{Controller}
use Rattle.model.proofs.Rounds.{BothAsked, host, instead, both, both_asked}
use Rattle.promises.proofs.Fields.{Valid}
use Rattle.promises.proofs.KeepSettings.{all_set}
use Rattle.promises.proofs.KeepSteps.{step_keeps}

-- A valid state is valid with another count, up to 5, in a bank.
pub lost_keeps : (c : Controller) (bank n : ℕ) → Valid c → n ≤ lost_limit → Valid (with_lost c bank n)
unfolding physical_fits
lost_keeps c bank n v h = record {
  pages = v.pages;
  settings = v.settings;
  errors = v.errors;
  reads = v.reads;
  programs = v.programs;
  closed = v.closed;
  progress = v.progress;
  physical = record {
    places = rw length-set v.physical.places;
    fits = all_set _ c.physical.lost bank n v.physical.fits (le-leb n lost_limit h);
  };
  running = v.running;
}

-- A round of both is at most a step, and then at most another count,
both_keep : (c : Controller) (f : Flash) {a : ByteAddress} → Valid c → BothAsked c f a → Valid (round c f (Some a) true).result.controller
unfolding host_read
both_keep c f v (host t few e) = rw e (lost_keeps c (next_bank c) _ v (omega arith))
both_keep c f v (instead t many e) = rw e (lost_keeps _ (next_bank c) 0 (step_keeps c f v) (omega arith))
both_keep c f v (both t e) = rw e (step_keeps c f v)

-- and any other at most a step.
pub round_keeps : (c : Controller) (f : Flash) (h : HostRequest) (b : Bool) → Valid c → Valid (round c f h b).result.controller
unfolding round host_read
round_keeps c f None false v = v
round_keeps c f None true v = step_keeps c f v
round_keeps c f (Some a) false v = v
round_keeps c f (Some a) true v = both_keep c f v (both_asked c f a)
