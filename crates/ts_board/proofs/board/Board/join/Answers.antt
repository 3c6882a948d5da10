use Rattle.std.proofs.Common.{sym, ap, ◌∙◌, subst, arith}
use Rattle.ts_board.specs.Terms.{work_in, IsTold}
use Rattle.ts_board.specs.Keys.{terms_of_key}
use Rattle.ts_board.specs.Kept.{Seat, Met}
use Rattle.ts_board.proofs.Passes.{joins, meeting_joined, joined_both}
use Rattle.ts_board.proofs.board.Board.join.Goals as goal

pub join_seat-requires : goal.join_seat-requires
join_seat-requires g c =
    let b = c.args.self.now.table.shared in let p = c.args.one in let q = c.args.other in let content = g.S.Site.content in
    (c.requires.one.0, c.requires.other.0, q.free, omega arith, joins work_in (IsTold content) (terms_of_key content b.key) p.seat.id p.seat.me.0 q.seat.id q.seat.me.0 p.empty q.empty)

pub load-requires : goal.load-requires
load-requires g c =
    let h = c.join_seat.ensures in let b = c.args.self.now.table.shared in let s = c.join_seat.new.seat in let content = g.S.Site.content in
    (h.0 ∙ c.requires.one.0, omega arith, meeting_joined work_in (IsTold content) (terms_of_key content b.key) b.table_id.slots s.id s.me 0 c.args.one.seat.me.0 c.args.other.seat.me.0 (ap (λ (m : Seat g.row.S.Denot). m.0) h.2))

pub returns-clause-mine : goal.returns-clause-mine
returns-clause-mine g c =
    let h = c.join_seat.ensures in let k = c.load.ensures in
    joined_both c.args.one.seat.me.0 c.args.other.seat.me.0 c.load.new.seat.me.0 (ap (λ (m : Seat g.row.S.Denot). m.0) (k.2.0 ∙ h.2)) (subst (λ (m : Seat g.row.S.Denot). Met m.0) (sym k.2.0) k.2.1)
