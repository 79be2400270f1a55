-- `spans::bank_closed` meets its contract. Assumes nothing.
use borrow.Author.Rules.{rules}
use Rattle.spans.proofs.Permissions.{permission_of}
use Rattle.spans.proofs.bank_closed.Statement.{statement}
use Rattle.spans.proofs.bank_closed.Tie as tie

pub bank_closed_spec : {M : Type 1} → statement M
bank_closed_spec =
    tie.close (tie.spec
    (λ c κs. search rules)
    (λ c. let s = c.before in rw (c.permission.ensures, permission_of s.args.s.now s.args.bank s.requires)))
