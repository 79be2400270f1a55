-- `geometry::data_image_page` meets its contract. Assumes nothing.
use Prim.Native.Nat.{ℕ, ◌+◌, ◌*◌, ◌≤◌}
use native.Mathlib.Nat.{mul-le-mul}
use native.Mathlib.Omega.{arith}
use borrow.Author.Rules.{rules}
use Rattle.geometry.proofs.data_image_page.Statement.{statement}
use Rattle.geometry.proofs.data_image_page.Tie as tie

-- Bank 1 starts after at most 256 + 13 pages.
bank_start : {bank d : ℕ} → d ≤ 256 → bank ≤ 1 → bank * (d + 13) ≤ 269
bank_start h b = mul-le-mul {n₂ = 1} {m₂ = 269} b (omega arith)

pub data_image_page_spec : {M : Type 1} → statement M
data_image_page_spec =
    tie.close
    (tie.spec
    (λ c. search rules)
    (λ c. omega (arith, bank_start c.requires.0 c.requires.1))
    (λ c. omega (arith, bank_start c.requires.0 c.requires.1))
    (λ c. (search rules, omega (arith, bank_start c.requires.0 c.requires.1))))
