use Rattle.std.proofs.Common.{sym, ap, ◌≤◌, arith}
use Rattle.std.proofs.lemmas.List.{length-take-le}
use Rattle.sheet_effects.specs.Run.{BenchLeaves}
use Rattle.sheet_effects.proofs.Running.{bench_few}
use Rattle.sheet.proofs.run.Goals as goal

pub slice_bounds-chunks_exact-end : goal.slice_bounds-chunks_exact-end
slice_bounds-chunks_exact-end g c =
    let h : c.bench_run-ran.result.numbers ≤ 8192 = rw (ap (λ (l : BenchLeaves). l.told.numbers) c.bench_run-ran.ensures) (bench_few c.args.sheet.now _) in
    sym (length-take-le c.bench_run-ran.result.numbers c.bench_run-ran.new.row (omega (arith, h, c.bench_run-ran.array_long)))
