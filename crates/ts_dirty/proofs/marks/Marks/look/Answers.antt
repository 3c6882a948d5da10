use Rattle.std.proofs.Common.{List, sym, subst}
use Rattle.ts_name.specs.Paths.{Path}
use Rattle.ts_dirty.specs.Found.{AreTopmost}
use Rattle.ts_dirty.proofs.Dirt.{agree_from, changed_first, changed_second, touches_from}
use Rattle.ts_dirty.proofs.marks.Marks.look.Goals as goal

pub touches_at-requires-clause-topmost : goal.touches_at-requires-clause-topmost
touches_at-requires-clause-topmost c = subst (λ (ps : List Path). AreTopmost ps) (sym c.as_slice-8.ensures.value) c.self.invariant.topmost

pub returns : goal.returns
returns c = λ s h. record {
  first = changed_first s _ c.args.self.now c.as_slice-5.result.now c.args.path.now c.any_below_at.result h c.self.view_is c.as_slice-5.ensures.value c.any_below_at.ensures;
  second = changed_second s _ c.args.self.now c.as_slice-6.result.now c.args.path.now c.any_below_at-2.result h c.self.view_is c.as_slice-6.ensures.value c.any_below_at-2.ensures;
  agree = agree_from s _ c.args.self.now c.as_slice-7.result.now c.args.path.now c.any_below_at-3.result h c.self.view_is c.as_slice-7.ensures.value c.any_below_at-3.ensures;
  touches_held = touches_from s _ c.args.self.now c.as_slice-8.result.now c.args.path.now c.touches_at.result h c.self.view_is c.as_slice-8.ensures.value c.touches_at.ensures;
}
