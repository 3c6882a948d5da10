use Rattle.std.proofs.Common.{ap, sym, subst}
use Rattle.ts_model.specs.declared.plan.Plan.{Plan}
use Rattle.ts_model.specs.Sync.{listed_snapshot}
use Rattle.ts_check.specs.Checkup.{Checkup, IsCommit}
use Rattle.ts_check.proofs.Checking.{commit_copies}
use Rattle.ts_check.proofs.checked.Checked.copied.Goals as goal

pub unreachable-requires : goal.unreachable-requires
unreachable-requires c =
    let commit = subst (λ (p : Plan). IsCommit p c.args.c) (sym (ap (λ (k : Checkup). k.plan) c.self.view_is)) c.requires in
    c.in_default.ensures.none commit.0 commit.1

pub unreachable-requires-in_default-source_side : goal.unreachable-requires-in_default-source_side
unreachable-requires-in_default-source_side c = commit_copies (listed_snapshot c.self.inside.archive.now c.self.inside.first.now c.self.inside.second.now c.self.inside.holds.now) c.self.inside.plan.now c.args.c c.in-Some.e c.self.invariant.valid c.in-Some.ensures.some c.in_default-source_side.ensures.none
