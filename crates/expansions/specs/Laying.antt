-- What laying the places of a block or an entry into a row asks and tells. (house)
use Rattle.std.specs.Prelude.{ℕ, ◌+◌, ◌≤◌, ◌≡◌, Bool, true, false, length}
use Rattle.sheets.specs.Sheet.{Meaning, places_of}
use Rattle.sheets.specs.Sheet.Meaning.{Runs, Fault}
use Rattle.expansions.specs.declared.Laid.{Laid}

-- It has no fault.
abbrev pub reads : Meaning → Bool
reads (Runs ps n) = true
reads (Fault p) = false

abbrev pub end_of : Meaning → ℕ
end_of (Runs ps n) = n
end_of (Fault p) = p

-- A row of 4,096 has room for its places from place n on.
pub record Room (m : Meaning) (n : ℕ) : Type 0 where
  pub whole : reads m ≡ true
  pub few : n + length (places_of m) ≤ 4096

-- What laying them there tells.
abbrev pub laid_by : Meaning → ℕ → Laid
laid_by m n = record { next = end_of m; count = n + length (places_of m) }
