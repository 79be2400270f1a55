-- `rounds::both_asked` meets its contract. Assumes nothing.
use Rattle.std.proofs.Common.{sym, ◌∙◌}
use Rattle.rounds.proofs.Served.{answer_refused, asked_goes, answer_contest, asked_contest, answer_both, asked_both}
use Rattle.rounds.proofs.both_asked.Goals as goal

pub returns-in-Err-clause-answer : goal.returns-in-Err-clause-answer
returns-in-Err-clause-answer c = c.both_refused.ensures.answer ∙ answer_refused _ _ _ (sym c.ready_with.ensures ∙ c.in-Err.is)

pub contest-requires : goal.contest-requires
contest-requires c = asked_goes _ _ _ (sym c.ready_with.ensures ∙ c.in-Ok.is) (sym c.competes.ensures ∙ c.if-competes.true)

pub returns-then-competes : goal.returns-then-competes
returns-then-competes c =
    let ready = sym c.ready_with.ensures ∙ c.in-Ok.is in
    let meets = sym c.competes.ensures ∙ c.if-competes.true in
    record {
      answer = c.contest.ensures.answer ∙ answer_contest _ _ _ ready meets;
      left = c.contest.ensures.left ∙ asked_contest _ _ _ ready meets;
    }

pub returns-else-competes : goal.returns-else-competes
returns-else-competes c =
    let ready = sym c.ready_with.ensures ∙ c.in-Ok.is in
    let apart = sym c.competes.ensures ∙ c.if-competes.false in
    record {
      answer = c.both_go.ensures.answer ∙ answer_both _ _ _ ready apart;
      left = c.both_go.ensures.left ∙ asked_both _ _ _ ready apart;
    }
