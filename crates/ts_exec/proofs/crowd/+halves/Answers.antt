use Rattle.std.proofs.Common.{rules, ◌≡◌, ◌∙◌, [], ap, refl, subst, sym}
use Rattle.std.specs.Thread.{IsSend, IsSync}
use denote.Param.{param}
use denote.Param.Send.{sendable}
use Rattle.std.proofs.Crossing.{crosses}
use Rattle.atomic_blocks.proofs.rows.shared.Rows.TheSendSync as rows
use Rattle.atomic_table.proofs.shared.Seat.TheSendSync as seat
use Rattle.ts_board.proofs.Crossing.{pass_field_send, slot_send}
use Rattle.ts_exec.proofs.Crossing.{shared_sync, member_field_send}
use Rattle.std.proofs.lemmas.List.Elements.{All-pop}
use Rattle.ts_board.specs.Calls.{HasBothParts, seen, terms_of}
use Rattle.ts_board.specs.declared.board.Pass.{Pass}
use Rattle.ts_exec.specs.Sharing.{setting_of}
use Rattle.ts_exec.specs.Stores.{StaysKept}
use Rattle.ts_exec.specs.declared.crew.Member.{Member}
use Rattle.ts_exec.proofs.Stores.{joined_kept, stays_still}
use Rattle.ts_exec.proofs.Teams.{either_stopped, fresh_list, joined_share, kept_notes, kept_share, not_stopped, of_popped, same_notes}
use Rattle.ts_exec.proofs.crowd.+halves.Goals as goal

pub returns-then-is_empty-clause-share : goal.returns-then-is_empty-clause-share
returns-then-is_empty-clause-share g t c =
    joined_share c.args.pass c.in-Ok.halves.0 c.in-Ok.halves.1 c.in-Ok.halves.0 c.work-worked.result.pass c.put_together.result.pass c.in-Ok.ensures.parts.0 c.in-Ok.ensures.parts.1 refl c.work-worked.ensures.pass.1
    (subst (λ (z : Pass g.row.S.Denot). HasBothParts z c.work-worked.result.pass c.put_together.result.pass) c.none_worked-then-is_empty.ensures.pass c.put_together.ensures.part)

pub returns-then-is_empty-clause-kept : goal.returns-then-is_empty-clause-kept
returns-then-is_empty-clause-kept g t c =
    let k = c.args.shared.now.checked.now in let whole = seen c.args.pass in let joined = seen c.put_together.result.pass in let old = g.K.Keeper.kept c.args.keeping.keeper in
    subst (λ keeping. StaysKept k whole old joined (g.K.Keeper.kept keeping.keeper)) (sym (c.put_together.ensures.keeping ∙ c.none_worked-then-is_empty.ensures.keeping))
    (joined_kept k whole (seen c.in-Ok.halves.1) (seen c.work-worked.result.pass) joined old (g.K.Keeper.kept c.work-worked.new.keeping.keeper) c.in-Ok.ensures.seen.1 c.put_together.ensures.seen.1 c.work-worked.ensures.kept)

pub work-worked-requires-clause-listed : goal.work-worked-requires-clause-listed
work-worked-requires-clause-listed g t c κs within =
    let j = c.args.shared.now in
    let empty = of_popped (λ (m : Member). m.failures.items ≡ []) c.args.members.items c.pop.new.self.items c.pop.result c.in-Some.member c.pop.ensures.items c.in-Some.is c.requires.fresh in
    let list = fresh_list j.board.now.table.shared.table_id (terms_of g.S.Site.content j.board.now) (setting_of g.S.Site g.F.Folder g.G.Stop g.P.Stage j) c.in-Ok.halves.1 c.in-Some.member.failures.items
    c.in-Ok.ensures.second c.in-Ok.ensures.mine.1 empty in
    list.listed

pub join-worked-requires-send-F : goal.join-worked-requires-send-F
join-worked-requires-send-F g t c κs within =
    let s : IsSend (param 1 g.row.S) = search rules in let f : IsSync (param 2 g.row.F) = search rules in let h : IsSync (param 3 g.row.G) = search rules in let p : IsSync (param 5 g.row.P) = search rules in
    let m = member_field_send in
    search (sendable, crosses, shared_sync, pass_field_send, rows.the_send, rows.the_sync) depth 60 fits 5000

pub join-worked-requires-send-A : goal.join-worked-requires-send-A
join-worked-requires-send-A g t c κs within =
    let s : IsSend (param 1 g.row.S) = search rules in
    search (sendable, crosses, slot_send, seat.the_send) depth 60 fits 5000

pub join-worked-requires-after_bounds : goal.join-worked-requires-after_bounds
join-worked-requires-after_bounds g t c κs within =
    let j = c.args.shared.now in let id = j.board.now.table.shared.table_id in let terms = terms_of g.S.Site.content j.board.now in
    let x = setting_of g.S.Site g.F.Folder g.G.Stop g.P.Stage j in
    let popped = All-pop (λ (m : Member). m.failures.items ≡ []) c.args.members.items c.pop.new.self.items c.pop.result c.pop.ensures.items c.requires.fresh in
    let empty = of_popped (λ (m : Member). m.failures.items ≡ []) c.args.members.items c.pop.new.self.items c.pop.result c.in-Some.member c.pop.ensures.items c.in-Some.is c.requires.fresh in
    let list = fresh_list id terms x c.in-Ok.halves.1 c.in-Some.member.failures.items c.in-Ok.ensures.second c.in-Ok.ensures.mine.1 empty in
    let notes = same_notes id terms x c.args.pass c.in-Ok.halves.0 c.args.faults.items c.in-Ok.ensures.first c.in-Ok.ensures.seen.0 c.in-Ok.ensures.mine.0 c.requires.notes in
    let fresh = popped.0 in
    search rules parts 30

pub returns-clause-kept : goal.returns-clause-kept
returns-clause-kept g t c =
    let k = c.args.shared.now.checked.now in let whole = seen c.args.pass in let joined = seen c.put_together-2.result.pass in let old = g.K.Keeper.kept c.args.keeping.keeper in
    subst (λ keeping. StaysKept k whole old joined (g.K.Keeper.kept keeping.keeper)) (sym c.put_together-2.ensures.keeping)
    (joined_kept k whole (seen c.in-Ok.halves.0) (seen c.join-worked.result.1.pass) joined old (g.K.Keeper.kept c.join-worked.result.1.keeping.keeper) c.in-Ok.ensures.seen.0 c.put_together-2.ensures.seen.0
    c.join-worked.ensures.second.1.1.1)

pub returns-clause-share : goal.returns-clause-share
returns-clause-share g t c =
    joined_share c.args.pass c.in-Ok.halves.0 c.in-Ok.halves.1 c.join-worked.result.1.pass c.join-worked.result.0.pass c.put_together-2.result.pass c.in-Ok.ensures.parts.0 c.in-Ok.ensures.parts.1 c.join-worked.ensures.second.1.0 c.join-worked.ensures.first.1.0
    c.put_together-2.ensures.part

-- ---- what no worker has changed

pub returns-in_default-clause-notes : goal.returns-in_default-clause-notes
returns-in_default-clause-notes g t c =
    let j = c.args.shared.now in let none = c.none_worked in
    kept_notes j.board.now.table.shared.table_id (terms_of g.S.Site.content j.board.now) (setting_of g.S.Site g.F.Folder g.G.Stop g.P.Stage j) c.args.pass none.result.pass c.args.faults.items none.result.faults.items none.ensures.pass
    none.ensures.faults c.requires.notes

pub returns-in_default-clause-share : goal.returns-in_default-clause-share
returns-in_default-clause-share g t c = kept_share c.args.pass c.none_worked.result.pass c.none_worked.ensures.pass

pub returns-in_default-clause-stopped : goal.returns-in_default-clause-stopped
returns-in_default-clause-stopped g t c = not_stopped c.none_worked.result.is_stopped c.none_worked.ensures.stopped

pub returns-in_default-clause-kept : goal.returns-in_default-clause-kept
returns-in_default-clause-kept g t c =
    let none = c.none_worked in
    stays_still c.args.shared.now.checked.now (seen c.args.pass) (seen none.result.pass) (g.K.Keeper.kept c.args.keeping.keeper) (g.K.Keeper.kept none.result.keeping.keeper) (ap seen none.ensures.pass)
    (ap (λ z. g.K.Keeper.kept z.keeper) none.ensures.keeping)

pub returns-in-Err-clause-notes : goal.returns-in-Err-clause-notes
returns-in-Err-clause-notes g t c =
    let j = c.args.shared.now in let none = c.none_worked-in-Err in
    kept_notes j.board.now.table.shared.table_id (terms_of g.S.Site.content j.board.now) (setting_of g.S.Site g.F.Folder g.G.Stop g.P.Stage j) c.args.pass none.result.pass c.args.faults.items none.result.faults.items
    (none.ensures.pass ∙ c.in-Err.ensures.err) none.ensures.faults c.requires.notes

pub returns-in-Err-clause-share : goal.returns-in-Err-clause-share
returns-in-Err-clause-share g t c = kept_share c.args.pass c.none_worked-in-Err.result.pass (c.none_worked-in-Err.ensures.pass ∙ c.in-Err.ensures.err)

pub returns-in-Err-clause-stopped : goal.returns-in-Err-clause-stopped
returns-in-Err-clause-stopped g t c = not_stopped c.none_worked-in-Err.result.is_stopped c.none_worked-in-Err.ensures.stopped

pub returns-in-Err-clause-kept : goal.returns-in-Err-clause-kept
returns-in-Err-clause-kept g t c =
    let none = c.none_worked-in-Err in
    stays_still c.args.shared.now.checked.now (seen c.args.pass) (seen none.result.pass) (g.K.Keeper.kept c.args.keeping.keeper) (g.K.Keeper.kept none.result.keeping.keeper) (ap seen (none.ensures.pass ∙ c.in-Err.ensures.err))
    (ap (λ z. g.K.Keeper.kept z.keeper) none.ensures.keeping)

-- ---- what was put together

pub work-worked-requires-clause-pass : goal.work-worked-requires-clause-pass
work-worked-requires-clause-pass g t c κs within = c.in-Ok.ensures.second

pub work-worked-requires-clause-tidy : goal.work-worked-requires-clause-tidy
work-worked-requires-clause-tidy g t c κs within =
    let j = c.args.shared.now in
    let empty = of_popped (λ (m : Member). m.failures.items ≡ []) c.args.members.items c.pop.new.self.items c.pop.result c.in-Some.member c.pop.ensures.items c.in-Some.is c.requires.fresh in
    let list = fresh_list j.board.now.table.shared.table_id (terms_of g.S.Site.content j.board.now) (setting_of g.S.Site g.F.Folder g.G.Stop g.P.Stage j) c.in-Ok.halves.1 c.in-Some.member.failures.items
    c.in-Ok.ensures.second c.in-Ok.ensures.mine.1 empty in
    list.tidy

pub put_together-requires-clause-notes : goal.put_together-requires-clause-notes
put_together-requires-clause-notes g t c κs within =
    let j = c.args.shared.now in let id = j.board.now.table.shared.table_id in let terms = terms_of g.S.Site.content j.board.now in
    let x = setting_of g.S.Site g.F.Folder g.G.Stop g.P.Stage j in let none = c.none_worked-then-is_empty in
    let notes = same_notes id terms x c.args.pass c.in-Ok.halves.0 c.args.faults.items c.in-Ok.ensures.first c.in-Ok.ensures.seen.0 c.in-Ok.ensures.mine.0 c.requires.notes in
    kept_notes id terms x c.in-Ok.halves.0 none.result.pass c.args.faults.items none.result.faults.items none.ensures.pass none.ensures.faults notes

pub put_together-requires-clause-list : goal.put_together-requires-clause-list
put_together-requires-clause-list g t c κs within =
    record { of_board = c.work-worked.ensures.pass.0; tidy = c.work-worked.ensures.tidy; listed = c.work-worked.ensures.listed }

pub returns-then-is_empty-clause-notes : goal.returns-then-is_empty-clause-notes
returns-then-is_empty-clause-notes g t c = c.put_together.ensures.notes

pub returns-then-is_empty-clause-stopped : goal.returns-then-is_empty-clause-stopped
returns-then-is_empty-clause-stopped g t c =
    let none = c.none_worked-then-is_empty in
    either_stopped none.result.is_stopped c.work-worked.result.is_stopped c.put_together.result.is_stopped c.put_together.ensures.stopped (not_stopped none.result.is_stopped none.ensures.stopped) c.work-worked.ensures.stopped

pub put_together-requires-2-clause-notes : goal.put_together-requires-2-clause-notes
put_together-requires-2-clause-notes g t c κs within = c.join-worked.ensures.second.0

pub put_together-requires-2-clause-list : goal.put_together-requires-2-clause-list
put_together-requires-2-clause-list g t c κs within = c.join-worked.ensures.first.0

pub returns-clause-notes : goal.returns-clause-notes
returns-clause-notes g t c = c.put_together-2.ensures.notes

pub returns-clause-stopped : goal.returns-clause-stopped
returns-clause-stopped g t c =
    either_stopped c.join-worked.result.1.is_stopped c.join-worked.result.0.is_stopped c.put_together-2.result.is_stopped c.put_together-2.ensures.stopped c.join-worked.ensures.second.1.1.0 c.join-worked.ensures.first.1.1

-- ---- what the closure of the others promises

pub others-returns : goal.others-returns
others-returns g t c = let made = c.work_in_halves.ensures in record { notes = made.notes; share = made.share; stopped = made.stopped; kept = made.kept }

pub fn::work_in_halves::others+FnOnce::call_once-returns : goal.fn::work_in_halves::others+FnOnce::call_once-returns
fn::work_in_halves::others+FnOnce::call_once-returns g t c = let made = c.others.ensures in (made.notes, (made.share, (made.stopped, made.kept)))
