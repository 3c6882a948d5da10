use Rattle.ts_dirty.proofs.Dirt.{agree_from}
use Rattle.ts_dirty.proofs.marks.Marks.agree.Goals as goal

pub returns : goal.returns
returns c = λ s h. agree_from s _ c.args.self.now c.as_slice.result.now c.args.path.now c.any_below.result h c.self.view_is c.as_slice.ensures.value c.any_below.ensures
