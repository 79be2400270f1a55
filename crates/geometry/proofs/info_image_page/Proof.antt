-- `geometry::info_image_page` meets its contract. Assumes nothing.
use borrow.Author.Rules.{rules}
use Rattle.geometry.proofs.info_image_page.Statement.{statement}
use Rattle.geometry.proofs.info_image_page.Tie as tie

pub info_image_page_spec : {M : Type 1} → statement M
info_image_page_spec =
    tie.close
    (tie.spec
    (λ c κs. search rules)
    (λ c κs. tt)
    (λ c. search rules)
    (λ c. search rules)
    (λ c. (rw (c.before.before.data_image_page-after.ensures.0, c.before.info_first.ensures.0) (search rules), search rules)))
