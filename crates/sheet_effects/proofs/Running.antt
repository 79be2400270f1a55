-- A run, entry by entry: what the first of them leave. Assumes nothing.
use mathlib.Core.Path.{◌≡◌, refl, ap, ◌∙◌}
use mathlib.Core.List.{List, [], ◌∷◌, ◌++◌, append-nil}
use Prim.Native.Nat.{ℕ, ◌+◌, ◌*◌, ◌≤◌, ◌<◌}
use native.Mathlib.Omega.{arith}
use native.Mathlib.Numerals.{add-one}
use lib.ListN.{length, get_or, take, replicate, length-append}
use lib.Seq.{sets, take-suc, take_all}
use Rattle.model.specs.State.{Flash}
use Rattle.registers.specs.Layout.{register_count}
use Rattle.calls.specs.declared.ToldSeeds.{ToldSeeds}
use Rattle.calls.specs.Calls.{Left, reset_in, initialise_in}
use Rattle.sheets.specs.declared.Request.{Request}
use Rattle.sheets.specs.declared.Request.TheVariants.{Whole, Rights}
use Rattle.std.proofs.Common.{Option, None, Some, Ok, Err}
use Rattle.sheets.specs.Sheet.{verdict_of, expanded, request_at}
use Rattle.sheets.proofs.Counting.{good_runs, bad_runs, expanded_few}
use Rattle.sheets.proofs.Loading.{sets_append}
use Rattle.sheet_effects.specs.declared.Line.{Line}
use Rattle.sheet_effects.specs.Run.{Bench, requested, performed, performed_all, SheetLeaves, run, bench_flash, bench_registers, row_of, bench_run, printed_of}

-- ---- one entry

-- Registers and flash, nothing printed yet.
abbrev pub unprinted : List ℕ → Flash → Bench
unprinted s f = record { registers = s; flash = f; printed = [] }

-- A bench that has printed something, after an entry that printed more.
abbrev pub joined : List ℕ → Bench → Bench
joined ps b = record { registers = b.registers; flash = b.flash; printed = ps ++ b.printed }

-- An entry does not look at what was printed before it.
requested_on : (sheet : List ℕ) (b : Bench) (q : Request) → joined b.printed (requested sheet (unprinted b.registers b.flash) q) ≡ requested sheet b q
unfolding requested
requested_on sheet b (Rights r) = rw (append-nil b.printed) refl
requested_on sheet b (Whole o at) = refl

pub performed_on : (sheet : List ℕ) (at : ℕ) (b : Bench)
    → joined b.printed (performed sheet at (unprinted b.registers b.flash)) ≡ performed sheet at b
unfolding performed
performed_on sheet at b = requested_on sheet b (request_at sheet at)

pub line_few : (l : Option Line) → length (printed_of l) ≤ 2
line_few None = omega arith
line_few (Some l) = omega arith

-- ---- several entries

performed_last : (sheet ps : List ℕ) (at : ℕ) (b : Bench) → performed_all sheet (ps ++ (at ∷ [])) b ≡ performed sheet at (performed_all sheet ps b)
unfolding performed_all
performed_last sheet [] at b = refl
performed_last sheet (p ∷ ps) at b = performed_last sheet ps at (performed sheet p b)

-- The first k entries of a sheet have run from registers s₀ and flash f₀, and row₀ has their numbers at its front.
pub record Running (sheet s₀ : List ℕ) (f₀ : Flash) (row₀ : List ℕ) (k : ℕ) (s : List ℕ) (f : Flash) (row : List ℕ) (n : ℕ) : Type 0 where
  pub printed : List ℕ
  pub bench : ◌≡◌ {A = Bench} (record { registers = s; flash = f; printed = printed }) (performed_all sheet (take k (expanded sheet)) (unprinted s₀ f₀))
  pub front : row ≡ sets row₀ 0 printed
  pub written : n ≡ length printed
  pub few : n ≤ 2 * k

module _ {sheet s₀ : List ℕ} {f₀ : Flash} {row₀ : List ℕ} where
  pub running_none : Running sheet s₀ f₀ row₀ 0 s₀ f₀ row₀ 0
  unfolding performed_all
  running_none = record { printed = []; bench = refl; front = refl; written = refl; few = omega arith }

  pub running_more : {k : ℕ} {s : List ℕ} {f : Flash} {row : List ℕ} {n : ℕ} → k < length (expanded sheet)
      → Running sheet s₀ f₀ row₀ k s f row n → {s' : List ℕ} {f' : Flash} {row' : List ℕ} {n' : ℕ} (l : Option Line)
      → ◌≡◌ {A = Bench} (record { registers = s'; flash = f'; printed = printed_of l }) (performed sheet (get_or (expanded sheet) k 0) (unprinted s f))
      → row' ≡ sets row n (printed_of l) → n' ≡ n + length (printed_of l)
      → Running sheet s₀ f₀ row₀ (k + 1) s' f' row' n'
  running_more {k} {s} {f} {row} {n} h r {s'} {f'} {row'} {n'} l e w m =
      let two : length (printed_of l) ≤ 2 = line_few l in
      let here : n ≡ 0 + length r.printed = let m = r.written in omega arith in
      let now : Bench = record { registers = s; flash = f; printed = r.printed } in
      record {
        printed = r.printed ++ printed_of l;
        bench =
            ap (joined r.printed) e
            ∙ performed_on sheet (get_or (expanded sheet) k 0) now
            ∙ rw (add-one, take-suc (expanded sheet) k 0 h, performed_last, ← r.bench) refl;
        front = w ∙ rw (here, r.front) (sets_append row₀ 0 r.printed (printed_of l));
        written = m ∙ rw (length-append, ← r.written) refl;
        few = let q = r.few in omega arith;
      }

-- ---- a good sheet

module _ (sheet : List ℕ) (k : ℕ) (good : Ok k ≡ verdict_of sheet) where
  pub runs_few : k ≤ 4096
  runs_few = (good_runs sheet k good).2

  pub runs_there : (i : ℕ) → i < k → i < length (expanded sheet)
  runs_there i h = rw (← (good_runs sheet k good).1) h

  -- All of them have run.
  pub run_good : {s₀ : List ℕ} {f₀ : Flash} {row₀ : List ℕ} {i : ℕ} {s : List ℕ} {f : Flash} {row : List ℕ} {n : ℕ}
      → i ≡ k → Running sheet s₀ f₀ row₀ i s f row n
      → ◌≡◌ {A = SheetLeaves} (record { told = record { verdict = Ok k; numbers = n }; registers = s; flash = f; row = row }) (run s₀ f₀ sheet row₀)
  unfolding run
  run_good {s₀} {f₀} {row₀} {i} {s} {f} {row} {n} e r =
      let all : take i (expanded sheet) ≡ expanded sheet = take_all i (expanded sheet) (omega (arith, (good_runs sheet k good).1)) in
      let b : ◌≡◌ {A = Bench} (record { registers = s; flash = f; printed = r.printed }) (performed_all sheet (expanded sheet) (unprinted s₀ f₀))
      = r.bench ∙ rw all refl in
      rw (← good, ← b, r.front, r.written) refl

-- A bad sheet leaves all as it was.
pub run_bad : (sheet s₀ : List ℕ) (f₀ : Flash) (row₀ : List ℕ) (p : ℕ) → Err p ≡ verdict_of sheet
    → ◌≡◌ {A = SheetLeaves} (record { told = record { verdict = Err p; numbers = 0 }; registers = s₀; flash = f₀; row = row₀ }) (run s₀ f₀ sheet row₀)
unfolding run performed_all
run_bad sheet s₀ f₀ row₀ p e = rw (← e, bad_runs sheet p e) refl

-- ---- from the state in which the program starts

pub bench_runs : (sheet row : List ℕ) (t : ℕ) (s₁ : List ℕ) → ◌≡◌ {A = Left ℕ} (record { told = t; registers = s₁ }) (reset_in (replicate register_count 0) 16)
    → (u : ToldSeeds) (s₂ : List ℕ) → ◌≡◌ {A = Left ToldSeeds} (record { told = u; registers = s₂ }) (initialise_in s₁ bench_flash)
    → (l : SheetLeaves) → l ≡ run s₂ bench_flash sheet row → row_of l ≡ bench_run sheet row
unfolding bench_run bench_registers
bench_runs sheet row t s₁ a u s₂ b l c =
    let first : s₁ ≡ (reset_in (replicate register_count 0) 16).registers = ap (λ (x : Left ℕ). x.registers) a in
    let second : s₂ ≡ bench_registers = ap (λ (x : Left ToldSeeds). x.registers) b ∙ ap (λ (x : List ℕ). (initialise_in x bench_flash).registers) first in
    ap row_of c ∙ ap (λ (x : List ℕ). row_of (run x bench_flash sheet row)) second

-- ---- a row is long enough

requested_few : (sheet : List ℕ) (b : Bench) (q : Request) → length (requested sheet b q).printed ≤ length b.printed + 2
unfolding requested
requested_few sheet b (Rights r) = omega arith
requested_few sheet b (Whole o at) = rw length-append (omega arith)

performed_few : (sheet ps : List ℕ) (b : Bench) → length (performed_all sheet ps b).printed ≤ length b.printed + 2 * length ps
unfolding performed_all performed
performed_few sheet [] b = omega arith
performed_few sheet (at ∷ ps) b =
    let q : length (performed sheet at b).printed ≤ length b.printed + 2 = requested_few sheet b (request_at sheet at) in
    let h = performed_few sheet ps (performed sheet at b) in
    omega arith

pub run_few : (s : List ℕ) (f : Flash) (sheet row : List ℕ) → (run s f sheet row).told.numbers ≤ 8192
unfolding run
run_few s f sheet row =
    let h : length (expanded sheet) ≤ 4096 = expanded_few sheet in
    let p = performed_few sheet (expanded sheet) (unprinted s f) in
    omega arith

pub bench_few : (sheet row : List ℕ) → (bench_run sheet row).told.numbers ≤ 8192
unfolding bench_run
bench_few sheet row = run_few bench_registers bench_flash sheet row
