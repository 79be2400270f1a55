-- A valid state stays valid: a bench that only uses calls never meets refusal 1 for its state.
use Rattle.std.specs.Prelude.{ℕ, ◌≡◌, true, List}
use Rattle.model.specs.Geometry.{pages_fit}
use Rattle.model.specs.Valid.{valid}
use Rattle.promises.specs.Calls.{Call, State, Shaped, Reset, perform, run}

-- Whatever is called, with whatever inputs, on whatever flash.
abbrev pub ValidStays : Type 0
ValidStays =
    (s : State) (ks : List Call) → Shaped s.controller → valid s.controller ≡ true
    → Shaped (run s ks).controller × (valid (run s ks).controller ≡ true)

-- Reset with D 10 to 256 gives a valid state, whatever state it is given.
abbrev pub ResetIsValid : Type 0
ResetIsValid =
    (s : State) (d : ℕ) → pages_fit d ≡ true
    → Shaped (perform s (Reset d)).state.controller × (valid (perform s (Reset d)).state.controller ≡ true)
