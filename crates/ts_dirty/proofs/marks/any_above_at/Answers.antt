use Rattle.ts_dirty.proofs.Dirt.{above_tested, above_first}
use Rattle.ts_dirty.proofs.marks.any_above_at.Goals as goal

pub returns-then-at-gt0 : goal.returns-then-at-gt0
returns-then-at-gt0 c = above_tested c.args.paths.now c.args.path.now c.args.at c.index-paths-at.result c.is_prefix.result c.requires.ascending c.requires.topmost c.requires.split c.requires.none_below c.if-at-gt0.true c.requires.bound c.index-paths-at.is c.is_prefix.ensures

pub returns-else-at-gt0 : goal.returns-else-at-gt0
returns-else-at-gt0 c = above_first c.args.paths.now c.args.path.now c.args.at c.requires.ascending c.requires.topmost c.requires.split c.requires.none_below c.if-at-gt0.false
