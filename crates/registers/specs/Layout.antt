-- Where each part of the state lies among the registers, as include/lurgabel.h lays them out. New parts are appended, so that
-- these places stay. (house)
use Rattle.std.specs.Prelude.{ℕ, ◌+◌, ◌*◌}

abbrev pub register_count : ℕ
register_count = 137

-- D, the phase, the inputs and the default rights.
abbrev pub pages_at : ℕ
pages_at = 0

abbrev pub phase_at : ℕ
phase_at = 1

abbrev pub provision_at : ℕ
provision_at = 2

abbrev pub locked_at : ℕ
locked_at = 3

abbrev pub default_at : ℕ
default_at = 4

-- Region i: its first page, its page count, its switch and its rights.
abbrev pub region_from : ℕ → ℕ
region_from i = 5 + 4 * i

-- Information page i: its switch and its rights.
abbrev pub page_from : ℕ → ℕ
page_from i = 37 + 2 * i

-- The erase permission of a bank.
abbrev pub permission_at : ℕ → ℕ
permission_at bank = 89 + bank

-- The operation in progress: what was asked, how many of its words have moved, how many of a read are readable, and whether it
-- is running.
abbrev pub address_at : ℕ
address_at = 91

abbrev pub count_at : ℕ
count_at = 92

abbrev pub kind_at : ℕ
kind_at = 93

abbrev pub partition_at : ℕ
partition_at = 94

abbrev pub type_at : ℕ
type_at = 95

abbrev pub moved_at : ℕ
moved_at = 96

abbrev pub readable_at : ℕ
readable_at = 97

abbrev pub running_at : ℕ
running_at = 98

-- A queue: its 16 words, then their number.
abbrev pub reads_from : ℕ
reads_from = 99

abbrev pub programs_from : ℕ
programs_from = 116

-- The error record: the recorded kinds as a mask, and the last address.
abbrev pub recorded_at : ℕ
recorded_at = 133

abbrev pub last_at : ℕ
last_at = 134

-- The lost counts of both banks.
abbrev pub lost_from : ℕ
lost_from = 135
