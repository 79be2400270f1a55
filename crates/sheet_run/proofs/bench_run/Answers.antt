use Rattle.sheet_effects.proofs.Running.{bench_runs}
use Rattle.sheet_run.proofs.bench_run.Goals as goal

pub returns : goal.returns
returns c = bench_runs c.args.sheet.now c.args.row.now _ _ c.reset.ensures _ _ c.initialise.ensures _ c.run.ensures
