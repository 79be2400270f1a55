-- Running a bench sheet: what each entry does, what a whole sheet leaves, and where the program starts. (02, L4)
use Rattle.std.specs.Prelude.{ℕ, List, [], ◌∷◌, ◌++◌, length, replicate, Option, None, Some}
use Rattle.std.proofs.lemmas.List.Edits.{sets}
use Rattle.model.specs.Geometry.{image_words}
use Rattle.model.specs.Words.{all_ones}
use Rattle.model.specs.State.{Flash, flash}
use Rattle.registers.specs.Layout.{register_count}
use Rattle.calls.specs.declared.ToldBits.{ToldBits}
use Rattle.calls.specs.Calls.{LeftBuffer, set_default_in, whole_in, reset_in, initialise_in}
use Rattle.sheets.specs.declared.Request.{Request}
use Rattle.sheets.specs.declared.Request.TheVariants.{Whole, Rights}
use Rattle.sheets.specs.Sheet.{Verdict, verdict_of, expanded, request_at, loaded}
use Rattle.sheet_effects.specs.declared.Line.{Line}
use Rattle.sheet_effects.specs.declared.Ran.{Ran}

-- What a sheet runs on, and the numbers that it has printed so far: two for each operation, its answer and its bit count.
pub record Bench : Type 0 where
  pub registers : List ℕ
  pub flash : Flash
  pub printed : List ℕ

-- Entry 3 sets the default rights and prints nothing.
abbrev pub with_rights : Bench → ℕ → Bench
with_rights b r = record { registers = (set_default_in b.registers r).registers; flash = b.flash; printed = b.printed }

-- Entry 1 is a whole operation; it prints its answer's number, 0 if nothing refused it, and its bit count.
abbrev pub after_whole : Bench → LeftBuffer ToldBits → Bench
after_whole b l = record {
  registers = l.registers;
  flash = l.flash;
  printed = b.printed ++ (l.told.answer ∷ l.told.bits ∷ []);
}

unfoldable pub requested : List ℕ → Bench → Request → Bench
requested sheet b (Rights r) = with_rights b r
requested sheet b (Whole o at) = after_whole b (whole_in b.registers b.flash o (loaded sheet o at))

unfoldable pub performed : List ℕ → ℕ → Bench → Bench
performed sheet at b = requested sheet b (request_at sheet at)

-- Entries in order, each on what the one before left.
unfoldable pub performed_all : List ℕ → List ℕ → Bench → Bench
performed_all sheet [] b = b
performed_all sheet (at ∷ ps) b = performed_all sheet ps (performed sheet at b)

-- What a run tells and leaves: the verdict, how many numbers it stored from the front of the lent row on, registers, flash and row.
pub record SheetLeaves : Type 0 where
  pub told : Ran
  pub registers : List ℕ
  pub flash : Flash
  pub row : List ℕ

abbrev pub left_by : Verdict → List ℕ → Bench → SheetLeaves
left_by v row b = record {
  told = record { verdict = v; numbers = length b.printed };
  registers = b.registers;
  flash = b.flash;
  row = sets row 0 b.printed;
}

-- A good sheet runs its entries after expansion; a bad one is refused whole, before any operation.
unfoldable pub run : List ℕ → Flash → List ℕ → List ℕ → SheetLeaves
run s f sheet row =
    left_by (verdict_of sheet) row (performed_all sheet (expanded sheet) (record { registers = s; flash = f; printed = [] }))

-- The program starts from ready, D = 16, all-ones flash, both inputs off: reset, then initialise.
abbrev pub bench_flash : Flash
bench_flash = flash (replicate (image_words 16) all_ones)

unfoldable pub bench_registers : List ℕ
bench_registers = (initialise_in (reset_in (replicate register_count 0) 16).registers bench_flash).registers

-- What a bench run tells, and leaves in the row.
pub record BenchLeaves : Type 0 where
  pub told : Ran
  pub row : List ℕ

abbrev pub row_of : SheetLeaves → BenchLeaves
row_of l = record { told = l.told; row = l.row }

unfoldable pub bench_run : List ℕ → List ℕ → BenchLeaves
bench_run sheet row = row_of (run bench_registers bench_flash sheet row)

-- The numbers of a line, if there is one.
abbrev pub printed_of : Option Line → List ℕ
printed_of None = []
printed_of (Some l) = l.answer ∷ l.bits ∷ []
