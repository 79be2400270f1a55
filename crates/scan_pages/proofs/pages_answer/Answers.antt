-- `scan_pages::pages_answer` meets its contract. Assumes nothing.
use Rattle.std.proofs.Common.{true, false, sym, ◌∙◌, arith}
use Rattle.std.proofs.lemmas.Result.{err_from_is_err_and}
use Rattle.scan_pages.proofs.Answering.{refused_early, by_pages}
use Rattle.scan_pages.proofs.pages_answer.Goals as goal

pub returns-in_err-whole_answer : goal.returns-in_err-whole_answer
returns-in_err-whole_answer c =
    let p = err_from_is_err_and c.from_residual.result c.from_residual.ensures.1 in
    let e = refused_early _ _ c.args.a c.args.b (sym c.whole_answer.ensures ∙ c.in_err-whole_answer.was) in
    rw (p.1, p.2) (record { told = e.0; refused = e.1 })

pub returns-then-serve : goal.returns-then-serve
returns-then-serve c = record {
  told = by_pages _ _ _ _ (sym c.whole_answer.ensures ∙ c.in_ok-whole_answer.was) true c.if-serve.ensures;
  refused = tt;
}

pub returns-else-serve : goal.returns-else-serve
returns-else-serve c = record {
  told = by_pages _ _ _ _ (sym c.whole_answer.ensures ∙ c.in_ok-whole_answer.was) false c.if-serve.ensures;
  refused = λ e. omega arith;
}
