use Rattle.std.proofs.Common.{◌≡◌, rules, tests, nat_lt, sym, ◌∙◌}
use Rattle.std.proofs.lemmas.Iterator.{YieldsList-from_slice}
use Rattle.std.proofs.lemmas.Iterator.Adapters.{YieldsList-from_skip}
use Rattle.std.proofs.lemmas.Iterator.Search.{position_from_yields_List}
use Rattle.numbers.proofs.Laws.{last_found, last_missed, ends_in}
use Rattle.numbers.proofs.last_group.Goals as goal

pub returns-in-Some : goal.returns-in-Some
returns-in-Some c =
    let r : c.position.result ≡ ends_in c.args.s.now c.args.at
    = position_from_yields_List (λ b. nat_lt b 128) _ _ c.position.result c.position.ensures.ran (YieldsList-from_skip c.args.at (YieldsList-from_slice c.args.s.now cc) cc) (λ x b q k. search (rules, tests)) in
    last_found c.args.s.now c.args.at _ (sym r ∙ c.in-Some.is)

pub returns-in-None : goal.returns-in-None
returns-in-None c =
    let r : c.position.result ≡ ends_in c.args.s.now c.args.at
    = position_from_yields_List (λ b. nat_lt b 128) _ _ c.position.result c.position.ensures.ran (YieldsList-from_skip c.args.at (YieldsList-from_slice c.args.s.now cc) cc) (λ x b q k. search (rules, tests)) in
    c.max.ensures ∙ last_missed c.args.s.now c.args.at (sym r ∙ c.in-None.is)
