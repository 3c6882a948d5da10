use Rattle.std.proofs.Common.{arith}
use Rattle.ts_board.specs.Terms.{work_in, IsTold}
use Rattle.ts_board.specs.Keys.{terms_of_key}
use Rattle.ts_board.proofs.Steps.{releasing}
use Rattle.ts_board.proofs.board.Board.let_go.Goals as goal

pub fetch_sub-requires : goal.fetch_sub-requires
fetch_sub-requires g c =
    let b = c.args.self.now.table.shared in let p = c.args.pass.now in let content = g.S.Site.content in
    let at = releasing work_in (IsTold content) (terms_of_key content b.key) b.table_id.slots p.seat.id p.seat.me c.args.i c.args.j c.requires.pass.1 (omega arith) p.live c.requires.may in
    (c.requires.pass.0, omega arith, rw c.requires.picked at at)
