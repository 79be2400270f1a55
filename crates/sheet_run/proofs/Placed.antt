-- Where the run finds the places of a good sheet's entries. Assumes nothing.
use mathlib.Core.Path.{◌≡◌}
use mathlib.Core.List.{List}
use Prim.Native.Nat.{ℕ, ◌≤◌, ◌<◌}
use native.Mathlib.Omega.{arith}
use lib.ListN.{length, get_or, take, replicate, length-replicate}
use lib.Seq.{sets, length-take-le}
use Rattle.std.proofs.Common.{Ok}
use Rattle.sheets.specs.Sheet.{block_at, places_of, verdict_of, expanded}
use Rattle.sheets.proofs.Counting.{good_runs}
use Rattle.expansions.proofs.Goods.{stored_at}
use Rattle.sheet_effects.proofs.Running.{runs_few, runs_there}

module _ (sheet : List ℕ) (k : ℕ) (good : Ok k ≡ verdict_of sheet) where
  -- The expansion has the place of entry i there.
  pub runs_at : {places : List ℕ} → places ≡ sets (replicate 4096 0) 0 (places_of (block_at sheet 0 0)) → (i : ℕ) → i < k
      → get_or places i 0 ≡ get_or (expanded sheet) i 0
  runs_at e i h =
      let g = good_runs sheet k good in
      let room : length (expanded sheet) ≤ length (replicate {A = ℕ} 4096 0) = rw length-replicate (omega (arith, g.1, g.2)) in
      rw (e, ← g.0) (stored_at (expanded sheet) (replicate 4096 0) i (runs_there sheet k good i h) room)

  -- The front of a row has as many places as entries run.
  pub front_long : (places : List ℕ) → length places ≡ 4096 → length (take k places) ≡ k
  front_long places e = length-take-le k places (omega (arith, runs_few sheet k good))
