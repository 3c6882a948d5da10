use Rattle.ts_dirty.proofs.Dirt.{below_tested, below_past}
use Rattle.ts_dirty.proofs.marks.any_below_at.Goals as goal

pub returns-then-at-paths : goal.returns-then-at-paths
returns-then-at-paths c = below_tested c.args.paths.now c.args.path.now c.args.at c.index-paths-at.result c.is_prefix.result c.requires.ascending c.requires.split c.if-at-paths.true c.index-paths-at.is c.is_prefix.ensures

pub returns-else-at-paths : goal.returns-else-at-paths
returns-else-at-paths c = below_past c.args.paths.now c.args.path.now c.args.at c.requires.ascending c.requires.split c.if-at-paths.false
