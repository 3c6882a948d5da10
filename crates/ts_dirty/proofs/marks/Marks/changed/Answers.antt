use Rattle.ts_dirty.proofs.Dirt.{changed_first, changed_second}
use Rattle.ts_dirty.proofs.marks.Marks.changed.Goals as goal

pub returns-in-First : goal.returns-in-First
returns-in-First c = λ s h. rw c.in-First.is (changed_first s _ c.args.self.now c.as_slice.result.now c.args.path.now c.any_below.result h c.self.view_is c.as_slice.ensures.value c.any_below.ensures)

pub returns-in-Second : goal.returns-in-Second
returns-in-Second c = λ s h. rw c.in-Second.is (changed_second s _ c.args.self.now c.as_slice-in-Second.result.now c.args.path.now c.any_below-in-Second.result h c.self.view_is c.as_slice-in-Second.ensures.value c.any_below-in-Second.ensures)
