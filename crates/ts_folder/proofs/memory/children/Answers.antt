use Rattle.std.proofs.Common.{◌∙◌, sym}
use Rattle.ts_folder.proofs.Children.{children_push, children_pass}
use Rattle.ts_folder.proofs.memory.children.Goals as goal
use Rattle.ts_folder.proofs.memory.children.Goals.{in-Some+in_ok-push, in_default}

pub loop-row-preserved : goal.loop-row-preserved
loop-row-preserved c = elim c.match-branch-2.branch [
  | in-Some+in_ok-push w ↦ rw w.names-is (rw w.in_ok-push.ensures.items (children_push c.args.path.now c.args.rows.now c.loop-row.row-index c.row-item.result c.loop-row.names.items w.in-Some.child c.loop-row.invariant c.loop-row-test.true c.row-item.is (sym w.in-Some.is ∙ c.in_ok-child.ensures.ok)))
  | in_default w ↦ rw w.names-is (children_pass c.args.path.now c.args.rows.now c.loop-row.row-index c.row-item.result c.loop-row.names.items c.loop-row.invariant c.loop-row-test.true c.row-item.is (sym w.in_default.is ∙ c.in_ok-child.ensures.ok))
]
