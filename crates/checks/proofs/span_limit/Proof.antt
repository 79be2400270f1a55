-- `checks::span_limit` meets its contract. Assumes nothing.
use mathlib.Core.Path.{sym, ◌∙◌}
use borrow.Author.Rules.{rules}
use native.Mathlib.Omega.{arith}
use Rattle.model.proofs.Geometry.{bank_times}
use Rattle.checks.proofs.span_limit.Statement.{statement}
use Rattle.checks.proofs.span_limit.Tie as tie

pub span_limit_spec : {M : Type 1} → statement M
span_limit_spec =
    tie.close (tie.spec
    (λ c κs. tt)
    (λ c κs. tt)
    (λ c κs. tt)
    (λ c. search rules)
    (λ c κs. tt)
    (λ c. search rules)
    (λ c. let s = c.before.before.before.before.before.before in omega (arith, bank_times c.before.bank_of-bank.result s.args.d c.before.bank_of-bank.ensures.1, c.info_count-pages.ensures.1))
    (λ c. let s = c.before.before.before.before.before.before in omega (arith, bank_times c.before.bank_of-bank.result s.args.d c.before.bank_of-bank.ensures.1, c.info_count-pages.ensures.1))
    (λ c. let s = c.before.before.before.before.before.before in omega (arith, bank_times c.before.bank_of-bank.result s.args.d c.before.bank_of-bank.ensures.1, c.info_count-pages.ensures.1))
    (λ c. simp (
      c.info_count-pages.ensures.0,
      c.before.bank_of-bank.ensures.0,
      c.before.before.page_of.ensures.0,
      sym c.before.before.before.before.before.is_information.ensures ∙ c.before.before.before.before.if-is_information.true,
    ))
    (λ c. search rules)
    (λ c. search rules)
    (λ c. simp (sym c.before.is_information.ensures ∙ c.if-is_information.false)))
