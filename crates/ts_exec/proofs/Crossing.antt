-- What workers take along may cross threads.
use denote.Ref.{NamedLft}
use denote.RattleType.{RattleType}
use denote.Param.Send.{IsSend, IsSync, sendable}
use Rattle.std.proofs.Crossing.{crosses}
use Rattle.atomic_blocks.proofs.rows.shared.Rows.TheSendSync as rows
use Rattle.atomic_blocks.proofs.rows.shared.Seat.TheSendSync as row_seat
use Rattle.ts_site.specs.declared.site.Site.{Ghosts}
use Rattle.ts_exec.specs.contracts.crew.Member as Member
use Rattle.ts_exec.specs.contracts.shared.Shared as Shared
use Rattle.ts_board.proofs.Crossing.{board_sync, checked_sync}

pub member_field_send : IsSend (Member.the_field).row
member_field_send = search (sendable, crosses, rows.the_send, rows.the_sync, row_seat.the_send) depth 60 fits 5000

pub shared_sync : (a b : NamedLft) (S F G P : RattleType) (g : Ghosts S.Denot) → IsSend S → IsSync F → IsSync G → IsSync P → IsSync (Shared.the_row a b S F G P g)
shared_sync a b S F G P g s f h p = let k = checked_sync a in let d = board_sync S g s in search (sendable, crosses) depth 60 fits 5000
