use Rattle.std.proofs.Common.{◌≡◌, ◌++◌, true}
use Rattle.std.specs.Vec.Iter.{into_iter_items}
use Rattle.ts_stage.specs.Stagings.{all_held, told_rows}
use Rattle.ts_tree.specs.Trees.{FilesFit}
use Rattle.ts_stage.proofs.staged.with_bytes.Given as goal

-- the rows made so far and those to come are all
abbrev pub invariant-loop-row : goal.invariant-loop-row
invariant-loop-row l =
    (l.made.items ++ told_rows (into_iter_items l.row-iterator) ≡ told_rows l.fn.rows.items) × (all_held (into_iter_items l.row-iterator) ≡ true) × FilesFit l.made.items
