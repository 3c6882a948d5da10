use Rattle.std.proofs.Common.{refl, None, Some}
use Rattle.ts_model.specs.declared.plan.PlanRule.TheVariants.{OneCommit, OneMark}
use Rattle.ts_need.specs.Needs.{snapshot_of}
use Rattle.ts_check.proofs.Verdicts.{hold_more, broken_here, first_commit}
use Rattle.ts_check.proofs.rules.check_actions.Goals as goal

pub returns-in-Err-clause-told : goal.returns-in-Err-clause-told
returns-in-Err-clause-told g c =
    let s = snapshot_of c.args.state.now in
    rw c.broken.ensures (broken_here s c.args.plan.now OneCommit c.in-Err.place c.requires.before (first_commit s c.args.plan.now (Some c.in-Err.place) (rw c.in-Err.is at c.requires.looked.gathered.wrong_commit)))

pub check_pieces-requires-clause-before : goal.check_pieces-requires-clause-before
check_pieces-requires-clause-before g c = λ κs lives.
    let s = snapshot_of c.args.state.now in
    let commits = rw c.in-Ok.is at c.requires.looked.gathered.commits_are in
    hold_more s c.args.plan.now 6 OneCommit refl c.requires.before (first_commit s c.args.plan.now None commits.1)

pub returns-in-Err-marks-clause-told : goal.returns-in-Err-marks-clause-told
returns-in-Err-marks-clause-told g c =
    let s = snapshot_of c.args.state.now in
    rw c.broken-in-Err-marks.ensures (broken_here s c.args.plan.now OneMark c.in-Err-marks.place c.in_ok-pieces.ensures.holds (rw c.in-Err-marks.is at c.requires.looked.gathered.wrong_mark))

pub returns-clause-holds : goal.returns-clause-holds
returns-clause-holds g c =
    let s = snapshot_of c.args.state.now in
    let marks = rw c.in-Ok-marks.is at c.requires.looked.gathered.marks_are in
    hold_more s c.args.plan.now 9 OneMark refl c.in_ok-pieces.ensures.holds marks.1

pub returns-clause-index : goal.returns-clause-index
returns-clause-index g c =
    let commits = rw c.in-Ok.is at c.requires.looked.gathered.commits_are in
    let marks = rw c.in-Ok-marks.is at c.requires.looked.gathered.marks_are in
    record { commits_are = commits.0; marks_are = marks.0; pieces_are = c.in_ok-pieces.ensures.pieces; successors_are = c.requires.looked.gathered.successors_are }
