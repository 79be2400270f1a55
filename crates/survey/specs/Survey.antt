-- One look at the slots of some places, from the last to the first: all that a write or a take wants to know.
use Rattle.std.specs.Prelude.{cond, List, [], ◌∷◌, ℕ, max, ltb, Option, None, Some}
use Rattle.scan_queue.specs.Slots.{Slot, Unused, Dead, Waiting, Taken, Odd, slot_at}
use Rattle.survey.specs.declared.Oldest.{Oldest}
use Rattle.survey.specs.declared.Survey.{Survey}

-- Nothing seen.
abbrev pub nothing : Survey
nothing = record { highest = 0; unused = None; oldest = None }

abbrev pub saw_unused : ℕ → Survey → Survey
saw_unused p s = record { highest = s.highest; unused = Some p; oldest = s.oldest }

abbrev pub saw_sealed : ℕ → Survey → Survey
saw_sealed n s = record { highest = max s.highest n; unused = s.unused; oldest = s.oldest }

-- The scan at p is the oldest, unless one seen before, which lies higher, has a lower serial.
abbrev pub older : ℕ → ℕ → Option Oldest → Oldest
older p n None = record { place = p; serial = n }
older p n (Some w) = cond (ltb w.serial n) w (record { place = p; serial = n })

abbrev pub saw_waiting : ℕ → ℕ → Survey → Survey
saw_waiting p n s = record { highest = max s.highest n; unused = s.unused; oldest = Some (older p n s.oldest) }

abbrev pub saw : ℕ → Slot → Survey → Survey
saw p Unused s = saw_unused p s
saw p Dead s = s
saw p (Waiting x) s = saw_waiting p x.serial s
saw p (Taken x) s = saw_sealed x.serial s
saw p (Odd x) s = saw_sealed x.serial s

-- The places ps seen, the last first, after those that gave s.
unfoldable pub surveyed : List ℕ → List ℕ → Survey → Survey
surveyed m [] s = s
surveyed m (p ∷ ps) s = saw p (slot_at m p) (surveyed m ps s)
