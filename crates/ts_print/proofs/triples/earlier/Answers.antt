use Rattle.std.proofs.Common.{◌≡◌, true, false}
use Rattle.std.specs.Ordering.{is_lt}
use Rattle.ts_name.specs.Paths.{path_cmp}
use Rattle.ts_print.proofs.Rows.{earlier_first, earlier_best, earlier_none, not_Less}
use Rattle.ts_print.proofs.triples.earlier.Goals as goal
use Rattle.ts_name.proofs.Order.{is_lt_Less}

pub returns-in_default : goal.returns-in_default
returns-in_default c = earlier_none c.args.best c.args.rows.now c.in_default.len_below

pub returns-in_default-best : goal.returns-in_default-best
returns-in_default-best c = rw c.in_default-best.is (earlier_first _ c.args.rows.now c.row-item.result c.requires c.in-len1-up.len_at_least c.row-item.is tt)

pub returns-then-is_lt : goal.returns-then-is_lt
returns-then-is_lt c =
    let test : is_lt (path_cmp c.in-Some.path.now c.row-item.result.path) ≡ true = cc in
    rw c.in-Some.is (earlier_best c.in-Some.path.now c.args.rows.now c.row-item.result c.requires c.in-len1-up.len_at_least c.row-item.is (is_lt_Less _ test))

pub returns-else-is_lt : goal.returns-else-is_lt
returns-else-is_lt c =
    let test : is_lt (path_cmp c.in-Some.path.now c.row-item.result.path) ≡ false = cc in
    rw c.in-Some.is (earlier_first _ c.args.rows.now c.row-item.result c.requires c.in-len1-up.len_at_least c.row-item.is (not_Less _ test))
