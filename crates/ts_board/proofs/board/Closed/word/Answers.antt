use Rattle.std.specs.Mem.Slots.{slots_items}
use Rattle.ts_board.proofs.Passes.{found_there}
use Rattle.ts_board.proofs.board.Closed.word.Goals as goal

pub returns : goal.returns
returns g c = found_there (slots_items c.args.self.now.row.words) c.args.i c.word.result c.word.ensures
