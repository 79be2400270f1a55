-- A bench sheet is its calls, entry by entry; so it leaves a valid state valid. Assumes nothing.
use Prim.Native.Nat.{ℕ}
use mathlib.Core.Path.{◌≡◌, refl, sym, ap, ◌∙◌}
use mathlib.Core.Bool.{true}
use mathlib.Core.List.{List, [], ◌∷◌, ◌++◌, map, append-nil, append_assoc}
use lib.ListN.{length}
use lib.Seq.{sets}
use Rattle.model.specs.Valid.{settings_fit, running_fits, physical_fits, valid, valid_with}
use Rattle.model.specs.State.{flash_fits}
use Rattle.model.specs.Lifecycle.{reset, initialise_answer, initialise}
use Rattle.promises.specs.Calls.{State, Call, Shaped, perform, run, replies}
use Rattle.promises.proofs.Validity.{valid_stays}
use Rattle.registers.specs.Layout.{register_count}
use Rattle.registers.specs.Registers.{regions_of, info_of, progress_at, stands_for, encoded, decode, put_from_physical, put_from_errors, put_from_programs}
use Rattle.registers.specs.Registers.{put_from_reads, put_from_progress, put_from_erase, put_from_info, put_from_regions, put_from_inputs, put, zeroed, cleared}
use Rattle.registers.proofs.Stored.{Long}
use Rattle.calls.specs.Calls.{reset_in, initialise_in, whole_in}
use Rattle.refinement.proofs.RefinementProof.{refines}
use Rattle.sheets.specs.declared.Request.{Request}
use Rattle.sheets.specs.declared.Request.TheVariants.{Whole, Rights}
use Rattle.sheets.specs.Sheet.{expanded, request_at, loaded}
use Rattle.sheet_effects.specs.Run.{Bench, requested, performed, performed_all, bench_flash, bench_registers}
use Rattle.sheet_effects.specs.Run as bench
use Rattle.sheet_calls.specs.SheetCalls.{requests_of, call_of, calls_of, printed_by, printed, printed_from, SheetIsCalls, SheetStaysValid}
use Rattle.sheet_calls.proofs.Lengths.{long_default, long_whole}

-- The state that a bench stands for.
abbrev standing : Bench → State
standing b = record { controller = decode b.registers; flash = b.flash }

-- ---- one entry

-- An entry leaves and prints what its call does, and as many registers as there were.
record EntryIsCall (sheet : List ℕ) (b : Bench) (q : Request) : Type 0 where
  leaves : standing (requested sheet b q) ≡ (perform (standing b) (call_of sheet q)).state
  prints : (requested sheet b q).printed ≡ b.printed ++ printed_by q (perform (standing b) (call_of sheet q)).reply
  long : Long (requested sheet b q).registers

entry_is_call : (sheet : List ℕ) (b : Bench) (q : Request) → Long b.registers → EntryIsCall sheet b q
unfolding requested perform whole_in
entry_is_call sheet b (Rights r) l = record {
  leaves = rw ((refines b.registers l.size).default r);
  prints = sym (append-nil b.printed);
  long = long_default b.registers r l;
}
entry_is_call sheet b (Whole o at) l = record {
  leaves = rw ((refines b.registers l.size).completes b.flash o (loaded sheet o at));
  prints = refl;
  long = long_whole b.registers b.flash o (loaded sheet o at) l;
}

-- ---- several entries

-- What the entries at these places ask for, and their calls.
abbrev asked : List ℕ → List ℕ → List Request
asked sheet ps = map (request_at sheet) ps

abbrev called : List ℕ → List ℕ → List Call
called sheet ps = map (call_of sheet) (asked sheet ps)

entries_leave : (sheet ps : List ℕ) (b : Bench) → Long b.registers → standing (performed_all sheet ps b) ≡ run (standing b) (called sheet ps)
unfolding performed_all performed
entries_leave sheet [] b l = refl
entries_leave sheet (at ∷ ps) b l =
    let e = entry_is_call sheet b (request_at sheet at) l in
    entries_leave sheet ps (performed sheet at b) e.long ∙ ap (λ (t : State). run t (called sheet ps)) e.leaves

entries_print : (sheet ps : List ℕ) (b : Bench) → Long b.registers
    → (performed_all sheet ps b).printed ≡ b.printed ++ printed (asked sheet ps) (replies (standing b) (called sheet ps))
unfolding performed_all performed
entries_print sheet [] b l = sym (append-nil b.printed)
entries_print sheet (at ∷ ps) b l =
    let e = entry_is_call sheet b (request_at sheet at) l in
    entries_print sheet ps (performed sheet at b) e.long ∙ rw (e.leaves, e.prints) (append_assoc b.printed _ _)

-- ---- the sheet

pub sheet_is_calls : SheetIsCalls
unfolding bench.run requests_of calls_of printed_from
sheet_is_calls s size f sheet row =
    let b : Bench = record { registers = s; flash = f; printed = [] } in
    let leaves = entries_leave sheet (expanded sheet) b (record { size = size }) in
    let prints = entries_print sheet (expanded sheet) b (record { size = size }) in
    record {
      controller = ap (λ (t : State). t.controller) leaves;
      flash = ap (λ (t : State). t.flash) leaves;
      row = ap (sets row 0) prints;
      numbers = ap length prints;
    }

-- ---- from the state in which the program starts

record BenchFits : Type 0 where
  size : length bench_registers ≡ register_count
  shape : Shaped (decode bench_registers)
  fits : valid (decode bench_registers) ≡ true

bench_fits : BenchFits
unfolding settings_fit running_fits physical_fits valid valid_with flash_fits reset initialise_answer initialise regions_of info_of progress_at stands_for encoded decode put_from_physical put_from_errors put_from_programs put_from_reads put_from_progress put_from_erase put_from_info put_from_regions put_from_inputs put zeroed cleared reset_in initialise_in bench_registers
bench_fits = record {
  size = refl;
  shape = record { regions = refl; info = refl; erase = refl; reads = refl; programs = refl; lost = refl };
  fits = refl;
}

pub sheet_stays_valid : SheetStaysValid
sheet_stays_valid sheet row =
    let start : State = record { controller = decode bench_registers; flash = bench_flash } in
    let stays = valid_stays start (calls_of sheet) bench_fits.shape bench_fits.fits in
    ap valid (sheet_is_calls bench_registers bench_fits.size bench_flash sheet row).controller ∙ stays.1
