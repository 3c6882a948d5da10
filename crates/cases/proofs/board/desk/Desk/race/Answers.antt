use Rattle.std.proofs.Common.{rules}
use Rattle.std.specs.Thread.{IsSend}
use denote.Param.{param}
use denote.Param.Send.{sendable}
use Rattle.std.proofs.Crossing.{crosses}
use Rattle.atomic_table.proofs.shared.Seat.TheSendSync as seat
use Rattle.ts_board.proofs.Crossing.{slot_send}
use Rattle.cases.proofs.Crossing.{desk_sync}
use Rattle.cases.proofs.board.desk.Desk.race.Goals as goal

pub join-this-requires-send-F : goal.join-this-requires-send-F
join-this-requires-send-F g c κs within =
    let s : IsSend (param 0 g.row.S) = search rules in
    search (sendable, crosses, desk_sync, slot_send, seat.the_send) depth 60 fits 5000

pub join-this-requires-send-A : goal.join-this-requires-send-A
join-this-requires-send-A g c κs within =
    let s : IsSend (param 0 g.row.S) = search rules in
    search (sendable, crosses, slot_send, seat.the_send) depth 60 fits 5000
