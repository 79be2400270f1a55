-- A bench sheet is its calls: its run on registers leaves and prints what these calls leave and tell. So what is promised of calls
-- is promised of sheets. (02, L4)
use Rattle.std.specs.Prelude.{ℕ, ◌≡◌, true, List, [], ◌∷◌, ◌++◌, map, length}
use Rattle.std.proofs.lemmas.List.Edits.{sets}
use Rattle.model.specs.State.{Flash}
use Rattle.model.specs.Valid.{valid}
use Rattle.promises.specs.Calls.{State, Call, Reply, SetDefault, Whole, run, replies}
use Rattle.registers.specs.Layout.{register_count}
use Rattle.registers.specs.Registers.{decode}
use Rattle.sheets.specs.declared.Request.{Request}
use Rattle.sheets.specs.declared.Request.TheVariants as request
use Rattle.sheets.specs.Sheet.{expanded, request_at, loaded}
use Rattle.sheet_effects.specs.Run.{SheetLeaves, bench_flash, bench_registers}
use Rattle.sheet_effects.specs.Run as bench

-- What a good sheet asks for, in the order in which its entries run. A bad one asks for nothing.
unfoldable pub requests_of : List ℕ → List Request
requests_of sheet = map (request_at sheet) (expanded sheet)

-- Entry 3 sets the default rights. Entry 1 is a whole operation, lent the words that it carries and then zeros.
abbrev pub call_of : List ℕ → Request → Call
call_of sheet (request.Rights r) = SetDefault r
call_of sheet (request.Whole o at) = Whole o (loaded sheet o at)

unfoldable pub calls_of : List ℕ → List Call
calls_of sheet = map (call_of sheet) (requests_of sheet)

-- What is printed of the replies: of an operation its answer and its bit count, of rights nothing.
abbrev pub printed_by : Request → Reply → List ℕ
printed_by (request.Rights r) told = []
printed_by (request.Whole o at) told = told.answer ∷ told.bits ∷ []

abbrev pub printed : List Request → List Reply → List ℕ
printed [] rs = []
printed (q ∷ qs) [] = []
printed (q ∷ qs) (r ∷ rs) = printed_by q r ++ printed qs rs

-- What a sheet prints if its calls start from a state.
unfoldable pub printed_from : State → List ℕ → List ℕ
printed_from t sheet = printed (requests_of sheet) (replies t (calls_of sheet))

-- A run of the sheet leaves what its calls leave of the state, and the lent row with what they print at its front.
pub record LeavesAsCalls (l : SheetLeaves) (t : State) (sheet lent : List ℕ) : Type 0 where
  pub controller : decode l.registers ≡ (run t (calls_of sheet)).controller
  pub flash : l.flash ≡ (run t (calls_of sheet)).flash
  pub row : l.row ≡ sets lent 0 (printed_from t sheet)
  pub numbers : l.told.numbers ≡ length (printed_from t sheet)

-- Whatever the registers, the flash, the sheet and the row hold.
abbrev pub SheetIsCalls : Type 0
SheetIsCalls =
    (s : List ℕ) → length s ≡ register_count → (f : Flash) (sheet row : List ℕ)
    → LeavesAsCalls (bench.run s f sheet row) (record { controller = decode s; flash = f }) sheet row

-- So every sheet leaves the program's state valid.
abbrev pub SheetStaysValid : Type 0
SheetStaysValid = (sheet row : List ℕ) → valid (decode (bench.run bench_registers bench_flash sheet row).registers) ≡ true
