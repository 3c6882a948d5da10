use Rattle.std.proofs.Common.{arith}
use Rattle.ts_model.specs.declared.plan.PlanRule.TheVariants.{EntriesAscend}
use Rattle.ts_model.specs.Sync.{listed_snapshot}
use Rattle.ts_check.proofs.Verdicts.{need_told, need_holds}
use Rattle.ts_check.proofs.rules.check_reasons.Goals as goal

pub first_wrong-requires : goal.first_wrong-requires
first_wrong-requires c = rw c.as_slice-entries.ensures (λ k wrong. c.requires EntriesAscend k (omega arith) wrong)

pub returns-in-Some-clause-told : goal.returns-in-Some-clause-told
returns-in-Some-clause-told c =
    let s = listed_snapshot c.args.archive.now c.args.first.now c.args.second.now c.args.holds.now in
    rw c.broken.ensures (need_told s c.args.plan.now c.in-Some.found c.requires (rw (c.as_slice-entries.ensures, c.in-Some.is) at c.in_ok-found.ensures.answer))

pub returns-in-None-clause-holds : goal.returns-in-None-clause-holds
returns-in-None-clause-holds c =
    let s = listed_snapshot c.args.archive.now c.args.first.now c.args.second.now c.args.holds.now in
    need_holds s c.args.plan.now c.requires (rw (c.as_slice-entries.ensures, c.in-None.is) at c.in_ok-found.ensures.answer)
