-- What C and Rust hand in, as structs of numbers, and what it stands for. (house)
use Rattle.std.specs.Prelude.{None, Some}
use Rattle.std.specs.Prelude.{ℕ, cond, leb}
use Rattle.model.specs.declared.Inputs.{Inputs}
use Rattle.model.specs.declared.Region.{Region}
use Rattle.model.specs.declared.PageSetting.{PageSetting}
use Rattle.model.specs.declared.Operation.{Operation}
use Rattle.model.specs.Rounds.{HostRequest}
use Rattle.registers.specs.Registers.{is_on}
use Rattle.calls.specs.declared.AskedRegion.{AskedRegion}
use Rattle.calls.specs.declared.AskedSetting.{AskedSetting}
use Rattle.calls.specs.declared.AskedOperation.{AskedOperation}

-- What the rules hold in a byte: a larger number counts as 255, which no rule accepts where it looks.
abbrev pub byte_of : ℕ → ℕ
byte_of x = cond (leb x 255) x 255

-- A flag is false at 0 and true otherwise.
abbrev pub inputs_of : ℕ → ℕ → Inputs
inputs_of provision locked = record { provision = is_on provision; locked = is_on locked }

abbrev pub region_of : AskedRegion → Region
region_of g = record { on = is_on g.on; first = record { 0 = g.first }; count = g.count; rights = byte_of g.rights }

abbrev pub setting_of : AskedSetting → PageSetting
setting_of p = record { on = is_on p.on; rights = byte_of p.rights }

abbrev pub operation_of : AskedOperation → Operation
operation_of o = record {
  kind = byte_of o.kind;
  partition = byte_of o.partition;
  info = byte_of o.info;
  address = record { 0 = o.address };
  count = o.count;
}

-- In a round the host asks the word at an address, or nothing: then no rule looks at the address.
abbrev pub host_request_of : ℕ → ℕ → HostRequest
host_request_of asks address = cond (is_on asks) (Some (record { 0 = address })) None
