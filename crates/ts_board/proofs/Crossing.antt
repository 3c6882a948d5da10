-- What threads take along of a board and of what was checked may cross to them.
use denote.Ref.{NamedLft}
use denote.RattleType.{RattleType}
use denote.Param.Send.{IsSend, IsSync, sendable}
use Rattle.std.proofs.Crossing.{crosses}
use Rattle.atomic_table.proofs.send_lease.SendLease.TheSendSync as lease
use Rattle.atomic_table.proofs.shared.Seat.TheSendSync as seat
use Rattle.atomic_table.proofs.shared.Shared.TheSendSync as shared
use Rattle.ts_site.specs.declared.site.Site.{Ghosts}
use Rattle.ts_model.specs.contracts.plan.Plan as Plan
use Rattle.ts_print.specs.contracts.print.Print as Print
use Rattle.ts_hold.specs.contracts.holds.Holds as Holds
use Rattle.ts_check.specs.contracts.checked.Checked as Checked
use Rattle.ts_board.specs.contracts.board.Board as Board
use Rattle.ts_board.specs.contracts.board.Pass as Pass
use Rattle.ts_board.specs.contracts.law.Slot as Slot

pub slot_send : (S : RattleType) → IsSend S → IsSend (Slot.the_row S)
slot_send S s = search (sendable, crosses) depth 60 fits 5000

pub pass_field_send : (S : RattleType) → IsSend S → IsSend (Pass.the_field S).row
pass_field_send S s = let a = slot_send S s in search (sendable, crosses, seat.the_send) depth 60 fits 5000

plan_sync : IsSync Plan.the_row
plan_sync = search (sendable, crosses) depth 60 fits 5000

print_sync : IsSync Print.the_row
print_sync = search (sendable, crosses) depth 60 fits 5000

holds_sync : IsSync Holds.the_row
holds_sync = search (sendable, crosses) depth 60 fits 5000

pub checked_sync : (a : NamedLft) → IsSync (Checked.the_row a)
checked_sync a = let p = plan_sync in let r = print_sync in let h = holds_sync in search (sendable, crosses) depth 60 fits 5000

pub board_sync : (S : RattleType) (g : Ghosts S.Denot) → IsSend S → IsSync (Board.the_row S g)
board_sync S g s = let a = slot_send S s in search (sendable, crosses, shared.the_sync, lease.the_sync) depth 60 fits 5000
