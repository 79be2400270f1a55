-- A good sheet has room in a row of 4,096, and where its entries are found there. Assumes nothing.
use Prim.Native.Nat.{ℕ, ◌≤◌, ◌<◌}
use native.Mathlib.Omega.{arith}
use mathlib.Core.Path.{◌≡◌, refl}
use mathlib.Core.Bool.{true, false}
use mathlib.Core.List.{List}
use lib.ListN.{length, get_or, get_or-append}
use lib.Seq.{sets, sets-eq}
use lib.Dec.{leb}
use Rattle.model.proofs.Bool.{by_test}
use Rattle.sheets.specs.Sheet.{Meaning, block_at, judged, verdict_of}
use Rattle.sheets.specs.Sheet.Meaning.{Runs, Fault}
use Rattle.std.proofs.Common.{Ok, Err}
use Rattle.sheets.proofs.Counting.{good_runs}
use Rattle.expansions.specs.Laying.{reads, Room}

good_reads : (s : List ℕ) (m : Meaning) (k : ℕ) → Ok k ≡ judged s m → reads m ≡ true
good_reads s (Runs ps n) k e = refl
good_reads s (Fault p) k e = cc

pub good_room : (s : List ℕ) (k : ℕ) → Ok k ≡ verdict_of s → Room (block_at s 0 0) 0
unfolding verdict_of
good_room s k e =
    let g = good_runs s k e in
    by_test (leb (length s) 4096)
    (λ (f : leb (length s) 4096 ≡ true). record {
      whole = good_reads s (block_at s 0 0) k (rw f at e);
      few = rw (← g.0) (omega (arith, g.1, g.2));
    })
    (λ (f : leb (length s) 4096 ≡ false). let h : Ok k ≡ Err 4096 = rw f at e in cc)

-- What is stored from the front on is found there.
pub stored_at : (ps row : List ℕ) (i : ℕ) → i < length ps → length ps ≤ length row → get_or (sets row 0 ps) i 0 ≡ get_or ps i 0
stored_at ps row i h l = rw (sets-eq ps row 0 (omega arith)) (get_or-append ps _ 0 i h)
