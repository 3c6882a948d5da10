use Rattle.std.proofs.Common.{arith}
use Rattle.ts_model.specs.Trees.{at}
use Rattle.ts_board.specs.Edits.{marks}
use Rattle.ts_board.proofs.Flags.{all_picked}
use Rattle.ts_board.proofs.archive.mark_edits.Goals as goal

pub returns : goal.returns
returns c = all_picked (marks (at c.args.first.now) (at c.args.second.now)) c.args.entries.now c.args.flags.now c.requires c.loop-e.e c.loop-e.edits.items (omega (arith, c.loop-e-test.false)) c.loop-e.invariant
