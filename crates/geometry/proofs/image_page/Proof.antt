-- `geometry::image_page` meets its contract. Assumes nothing.
use borrow.Author.Rules.{rules}
use Rattle.model.specs.Geometry.{image_page}
use Rattle.geometry.proofs.image_page.Statement.{statement}
use Rattle.geometry.proofs.image_page.Tie as tie

pub image_page_spec : {M : Type 1} → statement M
unfolding image_page
image_page_spec =
    tie.close
    (tie.spec
    (λ c κs. tt)
    (λ c κs. tt)
    (λ c κs. search rules)
    (λ c κs. search rules)
    (λ c.
    let p = c.before.before in
    (simp (c.info_image_page.ensures.0, p.page_in_bank-page.ensures.0, p.before.bank_of-bank.ensures.0, c.before.if-information.true), search rules))
    (λ c.
    let p = c.before.before in
    (simp (c.data_image_page.ensures.0, p.page_in_bank-page.ensures.0, p.before.bank_of-bank.ensures.0, c.before.if-information.false), search rules)))
