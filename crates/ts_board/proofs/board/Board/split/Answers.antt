use Rattle.std.proofs.Common.{ap, ◌∙◌, arith}
use Rattle.ts_board.specs.Terms.{work_in, IsTold}
use Rattle.ts_board.specs.Keys.{terms_of_key}
use Rattle.ts_board.specs.Kept.{mine, Seat}
use Rattle.ts_board.proofs.Runs.{steps_by-nobody}
use Rattle.ts_board.proofs.Passes.{cuts}
use Rattle.ts_board.proofs.board.Board.split.Goals as goal

pub split_seat-second-requires : goal.split_seat-second-requires
split_seat-second-requires g c =
    let b = c.args.self.now.table.shared in let p = c.args.pass in let content = g.S.Site.content in
    (c.requires.pass.0, omega arith, cuts work_in (IsTold content) (terms_of_key content b.key) p.seat.id p.seat.me.0 p.empty)

pub returns-clause-mine : goal.returns-clause-mine
returns-clause-mine g c =
    let h = c.split_seat-second.ensures in
    (ap (λ (m : Seat g.row.S.Denot). mine m.0) h.2, ap (λ (m : Seat g.row.S.Denot). mine m.0) h.4 ∙ steps_by-nobody c.args.pass.seat.me.0.sight.seen)
