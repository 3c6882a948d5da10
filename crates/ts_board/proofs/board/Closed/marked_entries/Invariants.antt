use Rattle.std.proofs.Common.{◌≡◌, length}
use Rattle.std.specs.Mem.Slots.{slots_items}
use Rattle.ts_board.specs.Archives.{AreMarkedBelow}
use Rattle.ts_board.proofs.board.Closed.marked_entries.Given as goal

abbrev pub invariant-loop-i : goal.invariant-loop-i
invariant-loop-i g l = record {
  count : length l.flags.items ≡ length l.plan.entries;
  marked : AreMarkedBelow l.i l.plan (slots_items l.self.row.words) l.flags.items;
}
