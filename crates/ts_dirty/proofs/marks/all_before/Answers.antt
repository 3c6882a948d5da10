use Rattle.std.proofs.Common.{◌≡◌, true, arith}
use Rattle.std.specs.Ordering.{is_lt}
use Rattle.ts_name.specs.Paths.{path_cmp}
use Rattle.ts_name.proofs.Order.{is_lt_Less}
use Rattle.ts_dirty.proofs.Dirt.{all_before}
use Rattle.ts_dirty.proofs.marks.all_before.Goals as goal

pub returns-then-count-paths-clause-before : goal.returns-then-count-paths-clause-before
returns-then-count-paths-clause-before c = λ is_less.
    let test : is_lt (path_cmp c.index-paths-count.result c.args.path.now) ≡ true = cc in
    all_before c.args.paths.now c.args.path.now c.args.count c.index-paths-count.result c.requires (let n = c.if-count-eq0.false in omega arith) c.if-count-paths.true c.index-paths-count.is (is_lt_Less _ test)
