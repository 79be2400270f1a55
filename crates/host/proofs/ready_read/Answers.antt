-- `host::ready_read` meets its contract. Assumes nothing.
use Rattle.std.proofs.Common.{sym, ◌∙◌, rules}
use Rattle.model.specs.State.{flash}
use Rattle.host.proofs.Hosted.{late_answered, late_told, late_inside, late_accepted}
use Rattle.host.proofs.ready_read.Goals as goal

pub returns-in_err-late_answer-clause-answer : goal.returns-in_err-late_answer-clause-answer
returns-in_err-late_answer-clause-answer c =
    let w = late_answered c.args.s.now (flash c.args.image.now) c.args.at c.requires (sym c.late_answer.ensures ∙ c.in_err-late_answer.was) in
    search rules

pub word_at-place-requires : goal.word_at-place-requires
word_at-place-requires c =
    rw c.pages.ensures (late_inside _ _ c.args.at c.requires (sym c.late_answer.ensures ∙ c.in_ok-late_answer.was)).0

pub delivered-requires : goal.delivered-requires
delivered-requires c =
    rw (c.word_at-place.ensures, c.pages.ensures) (late_inside _ _ c.args.at c.requires (sym c.late_answer.ensures ∙ c.in_ok-late_answer.was)).1

pub returns-clause-answer : goal.returns-clause-answer
returns-clause-answer c = sym (late_told _ _ c.args.at c.requires (sym c.late_answer.ensures ∙ c.in_ok-late_answer.was))

pub returns-clause-told : goal.returns-clause-told
returns-clause-told c =
    rw (c.delivered.ensures, c.word_at-place.ensures, c.pages.ensures)
    (late_accepted _ _ c.args.at c.requires (sym c.late_answer.ensures ∙ c.in_ok-late_answer.was))
