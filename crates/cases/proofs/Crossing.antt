-- What two threads take along may cross to them.
use denote.Ref.{NamedLft}
use denote.RattleType.{RattleType}
use denote.Param.Send.{IsSend, IsSync, sendable}
use Rattle.std.proofs.Crossing.{crosses}
use Rattle.ts_site.specs.declared.site.Site.{Ghosts}
use Rattle.cases.specs.contracts.board.desk.Desk as Desk
use Rattle.ts_board.proofs.Crossing.{board_sync, checked_sync}

pub desk_sync : (a b : NamedLft) (S : RattleType) (g : Ghosts S.Denot) → IsSend S → IsSync (Desk.the_row a b S g)
desk_sync a b S g s = let k = checked_sync a in let d = board_sync S g s in search (sendable, crosses) depth 60 fits 5000
