use Rattle.std.specs.Mem.Slots.{slots_items}
use Rattle.ts_board.specs.Terms.{work_in, IsTold}
use Rattle.ts_board.specs.Keys.{terms_of_key}
use Rattle.ts_board.proofs.Passes.{final_ends}
use Rattle.ts_board.proofs.board.Board.close.Goals as goal

pub returns-clause-ends : goal.returns-clause-ends
returns-clause-ends g c =
    let b = c.args.self.table.shared in let p = c.args.pass in let r = c.close_with-row.result in let content = g.S.Site.content in
    final_ends work_in (IsTold content) (terms_of_key content b.key) p.seat.id p.seat.me.0 (slots_items r.words) (slots_items r.slots) c.close_with-row.ensures.values.2
