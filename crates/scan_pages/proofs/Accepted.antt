-- A program inside one window of a data page that allows it, and an erase of such a page, pass checks 5, 7, 8 and 9. Assumes nothing.
use Prim.Native.Nat.{ℕ, ◌+◌, ◌-◌, ◌*◌, ◌/◌, ◌%◌, ◌<◌, ◌≤◌}
use native.Mathlib.Omega.{arith}
use mathlib.Core.Path.{◌≡◌, refl}
use mathlib.Core.Bool.{false}
use borrow.Author.Tests.{eq-eqb, ne_eqb, le-ltb, lt-leb}
use Rattle.model.specs.Rights.{ruling_at, leading, allowed_words, denied}
use Rattle.model.specs.Checks.{malformed, out_of_range, crosses_window, operation_answer}
use Rattle.model.specs.declared.Operation.{Operation}
use Rattle.model.specs.declared.Setup.{Setup}
use Rattle.model.specs.Refusals.{accepted}

-- A program of n words from word k of page p on, and an erase of page p.
abbrev pub program_at : ℕ → ℕ → ℕ → Operation
program_at p k n = record { kind = 1; partition = 0; info = 0; address = record { 0 = 1024 * p + 4 * k }; count = n }

abbrev pub erase_at : ℕ → Operation
erase_at p = record { kind = 2; partition = 0; info = 0; address = record { 0 = 1024 * p }; count = 0 }

-- The page exists and has all three rights.
pub record Serves (s : Setup) (p : ℕ) : Type 0 where
  pub there : p < 2 * s.pages
  pub rights : (ruling_at s false 0 (record { 0 = p })).rights ≡ 7

module _ (s : Setup) (p : ℕ) (h : Serves s p) where
  module _ (k n : ℕ) (some : 1 ≤ n) (window : k % 16 + n ≤ 16) (inside : k < 256) where
    program_formed : malformed (program_at p k n) ≡ false
    unfolding malformed
    program_formed =
        let aligned : (1024 * p + 4 * k) % 4 ≡ 0 = omega arith in
        rw (eq-eqb ((1024 * p + 4 * k) % 4) 0 aligned, ne_eqb n 0 (λ e. omega arith), le-ltb 1024 n (omega arith)) refl

    program_there : out_of_range s.pages (program_at p k n) ≡ false
    unfolding out_of_range
    program_there =
        let below : 1024 * p + 4 * k < 2 * s.pages * 1024 = omega (arith, h.there) in
        let ends : 1024 * p + 4 * k + 4 * n ≤ 2 * s.pages * 1024 = omega (arith, h.there) in
        rw (lt-leb _ _ below, le-ltb _ _ ends) refl

    program_inside : crosses_window (program_at p k n) ≡ false
    unfolding crosses_window
    program_inside =
        let same : (1024 * p + 4 * k) / 64 ≡ (1024 * p + 4 * k + 4 * n - 1) / 64 = omega arith in
        rw (eq-eqb _ _ same) refl

    program_allowed : denied s (program_at p k n) ≡ false
    unfolding denied allowed_words leading
    program_allowed =
        let one : ((1024 * p + 4 * k) % 1024 + 4 * n + 1023) / 1024 ≡ 1 = omega arith in
        let page : (1024 * p + 4 * k) / 1024 ≡ p = omega arith in
        let word : (1024 * p + 4 * k) % 1024 / 4 ≡ k = omega arith in
        rw (one, page, word, h.rights) (le-ltb _ n (omega arith))

    pub program_accepted : operation_answer s (program_at p k n) ≡ accepted
    unfolding operation_answer
    program_accepted = rw (program_formed, program_there, program_inside, program_allowed) refl

  pub erase_accepted : operation_answer s (erase_at p) ≡ accepted
  unfolding operation_answer malformed out_of_range crosses_window denied allowed_words leading
  erase_accepted =
      let aligned : 1024 * p % 4 ≡ 0 = omega arith in
      let below : 1024 * p < 2 * s.pages * 1024 = omega (arith, h.there) in
      let page : 1024 * p / 1024 ≡ p = omega arith in
      let start : p * 1024 ≡ 1024 * p = omega arith in
      let first : 1024 * p % 1024 ≡ 0 = omega arith in
      let ends : 1024 * p + 4 * 256 ≤ 2 * s.pages * 1024 = omega (arith, h.there) in
      rw (eq-eqb (1024 * p % 4) 0 aligned, lt-leb _ _ below, page, start, le-ltb _ _ ends, first, page, h.rights) refl
