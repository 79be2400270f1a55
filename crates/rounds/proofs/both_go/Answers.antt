-- `rounds::both_go` meets its contract. Assumes nothing.
use Rattle.std.proofs.Common.{ap, ◌∙◌}
use Rattle.model.specs.State.{flash}
use Rattle.calls.specs.Calls.{told_step}
use Rattle.calls.specs.declared.ToldHostWord.{ToldHostWord}
use Rattle.rounds.specs.Turns.{served_host}
use Rattle.rounds.proofs.Served.{beside, left_both}
use Rattle.rounds.proofs.both_go.Goals as goal

pub returns-clause-left : goal.returns-clause-left
returns-clause-left c =
    ap (λ (t : ToldHostWord). beside (served_host t)
    (record {
      told = told_step c.ready_step-stepped.result;
      registers = c.ready_step-stepped.new.s;
      flash = flash c.ready_step-stepped.new.image;
    })) c.ready_read-word.ensures.told
    ∙ ap (beside (served_host _)) c.ready_step-stepped.ensures
    ∙ left_both _ _ _
