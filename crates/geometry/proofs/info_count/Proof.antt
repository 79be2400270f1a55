-- `geometry::info_count` meets its contract. Assumes nothing.
use Prim.Native.Nat.{suc, ◌-◌}
use mathlib.Core.Path.{◌≡◌, ap, sym}
use native.Mathlib.Omega.{arith}
use borrow.Author.Rules.{rules}
use Rattle.model.specs.Geometry.{info_count}
use Rattle.geometry.proofs.info_count.Statement.{statement}
use Rattle.geometry.proofs.info_count.Tie as tie

returns_4 : tie.Need-returns-in-3-to-255
returns_4 c =
    let k = c.before.args.t in
    let e : k ≡ suc (suc (suc (k - 3))) = omega arith in
    (sym (ap info_count e), search rules)

pub info_count_spec : {M : Type 1} → statement M
info_count_spec = tie.close (tie.spec (λ c. search rules) (λ c. search rules) (λ c. search rules) returns_4)
