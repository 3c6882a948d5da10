use Rattle.std.proofs.Common.{List, sym, subst}
use Rattle.ts_name.specs.Paths.{Path}
use Rattle.ts_dirty.specs.Found.{AreTopmost}
use Rattle.ts_dirty.proofs.Dirt.{touches_from}
use Rattle.ts_dirty.proofs.marks.Marks.touches_held.Goals as goal

pub returns : goal.returns
returns c = λ s h. touches_from s _ c.args.self.now c.as_slice.result.now c.args.path.now c.touches.result h c.self.view_is c.as_slice.ensures.value c.touches.ensures

pub touches-requires-clause-topmost : goal.touches-requires-clause-topmost
touches-requires-clause-topmost c = subst (λ (ps : List Path). AreTopmost ps) (sym c.as_slice.ensures.value) c.self.invariant.topmost
