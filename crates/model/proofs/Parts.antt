-- A part of a list that is written as a whole. Assumes nothing.
use Prim.Native.Nat.{ℕ, ◌+◌, ◌≤◌}
use native.Mathlib.Omega.{arith}
use borrow.Author.Rules.{rules}
use borrow.Rule.Slice.PartMut.{put_mid}
use mathlib.Core.Path.{◌≡◌}
use mathlib.Core.List.{List}
use lib.ListN.{length}
use lib.Seq.{sets}
use Rattle.std.proofs.lemmas.List.Edits.{sets-eq}
use Rattle.std.proofs.lemmas.Slice.{overwrites}

-- A list written over a part of another is stored there element by element.
pub part_stored : (s : List ℕ) (at n : ℕ) (vs : List ℕ) → length vs ≡ n → at + n ≤ length s → put_mid at n s vs ≡ sets s at vs
part_stored s at n vs long fits = rw (sets-eq vs s at (omega arith), long) (search (rules, overwrites))
