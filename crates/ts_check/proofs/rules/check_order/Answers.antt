use Rattle.std.proofs.Common.{refl, arith}
use Rattle.ts_model.specs.declared.plan.PlanRule.TheVariants.{EntriesAscend, PredsAscend, PiecesFirst, CommitFirst, DirFirst}
use Rattle.ts_need.specs.Needs.{snapshot_of}
use Rattle.ts_check.proofs.Verdicts.{hold_more, hold_all, hold_fewer, broken_here, limits_hold}
use Rattle.ts_check.proofs.rules.check_order.Goals as goal

pub first_without_piece-requires-clause-ascending : goal.first_without_piece-requires-clause-ascending
first_without_piece-requires-clause-ascending g c = λ κs lives k bad. c.requires.before PredsAscend k (omega arith) bad

pub first_without_commit-requires-clause-ascending : goal.first_without_commit-requires-clause-ascending
first_without_commit-requires-clause-ascending g c = λ κs lives k bad. c.requires.before PredsAscend k (omega arith) bad

pub returns-in-Some-first_without_commit-clause-told : goal.returns-in-Some-first_without_commit-clause-told
returns-in-Some-first_without_commit-clause-told g c =
    let s = snapshot_of c.args.state.now in
    let plan = c.args.plan.now in
    rw c.broken-in-Some-first_without_commit.ensures (broken_here s plan CommitFirst c.in-Some-first_without_commit.place (hold_more s plan 10 PiecesFirst refl c.requires.before c.in_default.ensures) c.in-Some-first_without_commit.ensures)

pub nearest_dirs-requires-clause-ascending : goal.nearest_dirs-requires-clause-ascending
nearest_dirs-requires-clause-ascending g c = rw c.as_slice.ensures (λ k wrong. c.requires.before EntriesAscend k (omega arith) wrong)

pub first_without_dir-requires-clause-actions : goal.first_without_dir-requires-clause-actions
first_without_dir-requires-clause-actions g c = λ κs lives.
    let s = snapshot_of c.args.state.now in
    (limits_hold s c.args.plan.now (hold_fewer s c.args.plan.now 3 10 (omega arith) c.requires.before)).1

pub first_without_dir-requires-clause-entries : goal.first_without_dir-requires-clause-entries
first_without_dir-requires-clause-entries g c = λ κs lives.
    let s = snapshot_of c.args.state.now in
    (limits_hold s c.args.plan.now (hold_fewer s c.args.plan.now 3 10 (omega arith) c.requires.before)).0

pub first_without_dir-requires-clause-ascending : goal.first_without_dir-requires-clause-ascending
first_without_dir-requires-clause-ascending g c = λ κs lives k bad. c.requires.before PredsAscend k (omega arith) bad

pub first_without_dir-requires-clause-order : goal.first_without_dir-requires-clause-order
first_without_dir-requires-clause-order g c = λ κs lives k wrong. c.requires.before EntriesAscend k (omega arith) wrong

pub first_without_dir-requires-clause-dirs : goal.first_without_dir-requires-clause-dirs
first_without_dir-requires-clause-dirs g c = λ κs lives. rw c.deref-2.ensures.value (rw c.as_slice.ensures at c.in_ok-nearest.ensures)

pub returns-in-Some-first_without_dir-clause-told : goal.returns-in-Some-first_without_dir-clause-told
returns-in-Some-first_without_dir-clause-told g c =
    let s = snapshot_of c.args.state.now in
    let plan = c.args.plan.now in
    rw c.broken-in-Some-first_without_dir.ensures (broken_here s plan DirFirst c.in-Some-first_without_dir.place (hold_more s plan 11 CommitFirst refl (hold_more s plan 10 PiecesFirst refl c.requires.before c.in_default.ensures) c.in_default-first_without_commit.ensures) c.in-Some-first_without_dir.ensures)

pub returns-clause-holds : goal.returns-clause-holds
returns-clause-holds g c =
    let s = snapshot_of c.args.state.now in
    let plan = c.args.plan.now in
    hold_all s plan (hold_more s plan 12 DirFirst refl (hold_more s plan 11 CommitFirst refl (hold_more s plan 10 PiecesFirst refl c.requires.before c.in_default.ensures) c.in_default-first_without_commit.ensures) c.in-None.ensures)

pub nearest_dirs-requires-clause-few : goal.nearest_dirs-requires-clause-few
nearest_dirs-requires-clause-few g c =
    let s = snapshot_of c.args.state.now in
    rw c.as_slice.ensures (limits_hold s c.args.plan.now (hold_fewer s c.args.plan.now 3 10 (omega arith) c.requires.before)).0
