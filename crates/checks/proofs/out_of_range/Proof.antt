-- `checks::out_of_range` meets its contract. Assumes nothing.
use Rattle.model.specs.Checks.{out_of_range}
use Rattle.checks.proofs.out_of_range.Statement.{statement}
use Rattle.checks.proofs.out_of_range.Tie as tie

pub out_of_range_spec : {M : Type 1} → statement M
unfolding out_of_range
out_of_range_spec =
    tie.close (tie.spec
    (λ c κs. tt)
    (λ c κs. tt)
    (λ c κs. tt)
    (λ c κs. tt)
    (λ c κs. tt)
    (λ c. simp (
      c.span_address-end.ensures.0,
      c.before.span_words.ensures,
      c.before.before.span_limit-limit.ensures,
      c.before.before.before.is_bank_erase-bank_erase.ensures,
      c.before.before.before.before.past_data-past.ensures,
    )))
