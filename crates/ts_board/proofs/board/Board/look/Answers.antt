use Rattle.std.proofs.Common.{arith}
use Rattle.ts_board.specs.Terms.{work_in, IsTold}
use Rattle.ts_board.specs.Keys.{terms_of_key}
use Rattle.ts_board.proofs.Steps.{looking}
use Rattle.ts_board.proofs.board.Board.look.Goals as goal

pub load-requires : goal.load-requires
load-requires g c =
    let b = c.args.self.now.table.shared in let p = c.args.pass.now in let content = g.S.Site.content in
    (c.requires.pass.0, omega arith, looking work_in (IsTold content) (terms_of_key content b.key) b.table_id.slots p.seat.id p.seat.me c.args.i c.requires.pass.1 (omega arith))
