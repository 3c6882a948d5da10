use Rattle.std.proofs.Common.{Some, arith}
use Rattle.ts_model.specs.declared.plan.PlanRule.TheVariants.{PiecesLawful, PiecesComplete}
use Rattle.ts_need.specs.Needs.{snapshot_of}
use Rattle.ts_check.proofs.Verdicts.{hold_fewer, hold_lawful, hold_pieces, broken_here, no_root, first_lawful, first_once}
use Rattle.ts_check.proofs.rules.check_pieces.Goals as goal

pub returns-in-Err-clause-told : goal.returns-in-Err-clause-told
returns-in-Err-clause-told g c =
    let t = c.args.state.now in
    let wrong = rw c.in-Err.is at c.requires.unlawful in
    rw c.broken.ensures (broken_here (snapshot_of t) c.args.plan.now PiecesLawful c.in-Err.place c.requires.before (first_lawful t.archive.now t.first.now t.second.now t.holds.now c.args.plan.now (Some c.in-Err.place) wrong))

pub each_once-requires-clause-places : goal.each_once-requires-clause-places
each_once-requires-clause-places g c = λ κs lives. no_root (snapshot_of c.args.state.now) c.args.plan.now (hold_fewer (snapshot_of c.args.state.now) c.args.plan.now 5 7 (omega arith) c.requires.before)

pub each_once-requires-clause-again : goal.each_once-requires-clause-again
each_once-requires-clause-again g c = λ κs lives. rw (c.rows-first.ensures.rows, c.rows-second.ensures.rows) (rw c.in-Ok.is at c.requires.again)

pub returns-in-Err-each_once-clause-told : goal.returns-in-Err-each_once-clause-told
returns-in-Err-each_once-clause-told g c =
    let t = c.args.state.now in
    let plan = c.args.plan.now in
    let lawful = rw c.in-Ok.is at c.requires.lawful in
    let h8 = hold_lawful t.archive.now t.first.now t.second.now t.holds.now plan c.requires.before lawful in
    rw c.broken-in-Err-each_once.ensures (broken_here (snapshot_of t) plan PiecesComplete c.in-Err-each_once.place h8 (first_once t.archive.now t.first.now t.second.now t.holds.now plan (Some c.in-Err-each_once.place)
    (rw (c.rows-first.ensures.rows, c.rows-second.ensures.rows, c.in-Err-each_once.is) at c.each_once.ensures.wrong)))

pub returns-clause-holds : goal.returns-clause-holds
returns-clause-holds g c =
    let t = c.args.state.now in
    let plan = c.args.plan.now in
    let lawful = rw c.in-Ok.is at c.requires.lawful in
    let staged = rw (c.rows-first.ensures.rows, c.rows-second.ensures.rows, c.in-Ok-each_once.is) at c.each_once.ensures.staged in
    let h8 = hold_lawful t.archive.now t.first.now t.second.now t.holds.now plan c.requires.before lawful in
    hold_pieces t.archive.now t.first.now t.second.now t.holds.now plan h8 staged.0.1
