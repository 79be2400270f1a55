-- A number's groups as the code has them.
use Rattle.std.specs.Prelude.{◌≡◌, ℕ, ◌≤◌, take}
use Rattle.scan_queue.specs.Payload.{groups}
use Rattle.payloads.specs.declared.Groups.{Groups}

pub record GroupsOf (v : ℕ) (r : Groups) : Type 0 where
  pub are : take r.count r.bytes ≡ groups 4 v
  pub some : 1 ≤ r.count
  pub most : r.count ≤ 4
