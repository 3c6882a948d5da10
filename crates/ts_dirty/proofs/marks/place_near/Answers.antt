use Rattle.std.proofs.Common.{◌≡◌, false}
use Rattle.std.specs.Ordering.{is_lt}
use Rattle.ts_name.specs.Paths.{path_cmp}
use Rattle.ts_print.proofs.Rows.{not_Less}
use Rattle.ts_dirty.proofs.Dirt.{parts_here}
use Rattle.ts_dirty.proofs.marks.place_near.Goals as goal

pub returns-else-is_lt-clause-split : goal.returns-else-is_lt-clause-split
returns-else-is_lt-clause-split c =
    let test : is_lt (path_cmp c.index-paths-at.result c.args.path.now) ≡ false = cc in
    parts_here c.args.paths.now c.args.path.now c.loop-at.at c.index-paths-at.result c.requires c.loop-at.invariant.1 c.loop-at-test.true c.index-paths-at.is (not_Less _ test)
