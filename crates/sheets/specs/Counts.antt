-- What the readers tell of a block or an entry: how many entries it runs, where 4,097 stands for any larger number, and the place
-- after it; or its fault. (house)
use Rattle.std.specs.Prelude.{ℕ, cond, length, leb, Ok, Err}
use Rattle.numbers.specs.Number.{Parsed}
use Rattle.sheets.specs.Sheet.{Meaning}
use Rattle.sheets.specs.Sheet.Meaning.{Runs, Fault}

unfoldable pub capped : ℕ → ℕ
capped n = cond (leb n 4096) n 4097

abbrev pub counted : Meaning → Parsed
counted (Runs ps n) = Ok (record { value = capped (length ps); next = n })
counted (Fault p) = Err p
