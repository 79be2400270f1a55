-- Where a span lies in one page, that page's ruling is the answer of check 9. Assumes nothing.
use Rattle.std.specs.Prelude.{Err}
use Prim.Native.Nat.{ℕ, ◌+◌, ◌-◌, ◌*◌, ◌/◌, ◌%◌, ◌≤◌}
use native.Mathlib.Nat.{add-zero, min-eq_left, min-zero}
use native.Mathlib.Omega.{arith}
use mathlib.Core.Path.{◌≡◌}
use mathlib.Core.Bool.{Bool, true, false, not, cond}
use borrow.Author.Tests.{eqb-true, ne_eqb, not-false, lt-ltb, le-ltb}
use Rattle.model.specs.Geometry.{page_of}
use Rattle.model.specs.Kinds.{is_program, is_page_erase, is_information}
use Rattle.model.specs.Places.{span_start, span_words}
use Rattle.model.specs.Refusals.{check}
use Rattle.model.specs.Checks.{malformed, crosses_window}
use Rattle.model.specs.Rights.{ruling_at, leading, page_grants, allowed_words, denied, decider_of}
use Rattle.model.specs.declared.Refusal.TheVariants.{Denied}
use Rattle.model.specs.declared.Page.{Page}
use Rattle.model.specs.declared.Operation.{Operation}
use Rattle.model.specs.declared.Setup.{Setup}
use Rattle.model.proofs.Bool.{by_test}
use Rattle.model.proofs.Checks.{count_bound}
use Rattle.spans.specs.OnePage.{OnePage}

leading_one : (test : Page → Bool) (p : Page) (n : ℕ) → n ≡ 1 → leading test p n ≡ cond (test p) 1 0
unfolding leading
leading_one test p n e = rw e

-- Of a span within one page
module _ (s : Setup) {o : Operation} (p : OnePage o) where
  -- all words are allowed, or none,
  allowed_one : allowed_words s o ≡ cond (page_grants s o (page_of (span_start o))) (span_words o) 0
  unfolding allowed_words
  allowed_one =
      let one : ((span_start o).0 % 1024 + 4 * span_words o + 1023) / 1024 ≡ 1 = omega (arith, p.some, p.inside) in
      let room : span_words o ≤ 256 - (span_start o).0 % 1024 / 4 = omega (arith, p.inside) in
      let none : 0 - (span_start o).0 % 1024 / 4 ≡ 0 = omega arith in
      rw (leading_one (page_grants s o) (page_of (span_start o)) _ one)
      (by_test (page_grants s o (page_of (span_start o))) (λ g. rw g (min-eq_left room)) (λ g. rw (g, none) (min-zero (span_words o))))

  -- so that the page's rights decide,
  pub denied_one : denied s o ≡ not (page_grants s o (page_of (span_start o)))
  unfolding denied
  denied_one =
      rw (p.span, allowed_one)
      (by_test (page_grants s o (page_of (span_start o))) (λ g. rw g (le-ltb (span_words o) (span_words o) (omega arith))) (λ g. rw g (lt-ltb 0 (span_words o) p.some)))

  -- and who decides it is named.
  named_one : page_grants s o (page_of (span_start o)) ≡ false → decider_of s o ≡ (ruling_at s (is_information o) o.info (page_of (span_start o))).decider
  unfolding decider_of
  named_one g = rw (p.span, allowed_one, g, add-zero)

  pub answer_one : check (not (page_grants s o (page_of (span_start o)))) (Err (Denied (ruling_at s (is_information o) o.info (page_of (span_start o))).decider))
      ≡ check (denied s o) (Err (Denied (decider_of s o)))
  answer_one =
      by_test (page_grants s o (page_of (span_start o))) (λ g. rw (denied_one, g)) (λ g. rw (denied_one, g, named_one g))

-- A program that passes checks 5 and 8 is one: its words lie in one window.
module _ (o : Operation) (k : is_program o ≡ true) (m : malformed o ≡ false) (w : crosses_window o ≡ false) where
  kind : o.kind ≡ 1
  kind = eqb-true o.kind 1 k

  spanned : is_page_erase o ≡ false
  spanned = ne_eqb o.kind 2 (λ e. omega (arith, kind, e))

  one_window : o.address.0 / 64 ≡ (o.address.0 + 4 * o.count - 1) / 64
  unfolding crosses_window
  one_window =
      let same = rw k at w in eqb-true (o.address.0 / 64) ((o.address.0 + 4 * o.count - 1) / 64) (not-false _ same)

  program_one : OnePage o
  program_one =
      let count = (count_bound o m (omega (arith, kind))).0 in
      record { span = ne_eqb o.kind 3 (λ e. omega (arith, kind, e)); some = rw spanned count; inside = rw spanned (omega (arith, one_window, count)) }

  pub program_denied : (s : Setup) → denied s o ≡ not (page_grants s o (page_of o.address))
  program_denied s = rw spanned at (denied_one s program_one)
