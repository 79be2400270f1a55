use mathlib.Core.Path.{sym, ◌∙◌}
use native.Mathlib.Omega.{arith}
use lib.ListN.{get_or-eq_default}
use Rattle.model.specs.State.{page_off}
use Rattle.registers.specs.Registers.{info_of}
use Rattle.registers.proofs.Listed.{setting_at_lem, info_length}
use Rattle.lookups.proofs.page_setting.Goals as goal

pub returns-then-page-lt-INFO_SETTINGS : goal.returns-then-page-lt-INFO_SETTINGS
returns-then-page-lt-INFO_SETTINGS c = c.page_setting.ensures ∙ sym (setting_at_lem c.args.s.now c.args.page page_off (omega arith))

pub returns : goal.returns
returns c =
    let long = info_length c.args.s.now in
    sym (get_or-eq_default (info_of c.args.s.now) page_off {n = c.args.page} (omega arith))
