use Rattle.sheets.proofs.Loading.{front_length, front_loaded}
use Rattle.sheet_entries.proofs.loaded.Goals as goal

pub slice_bounds-load-end : goal.slice_bounds-load-end
slice_bounds-load-end c = front_length _ _ c.carries-n.ensures

pub returns : goal.returns
returns c = front_loaded _ _ c.carries-n.ensures c.args.s.now c.args.at c.load.ensures
