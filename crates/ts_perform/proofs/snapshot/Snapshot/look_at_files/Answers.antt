use Rattle.ts_perform.specs.Snapshots.{checkup_of}
use Rattle.ts_perform.proofs.Printing.{emptied_quiet}
use Rattle.ts_perform.proofs.snapshot.Snapshot.look_at_files.Goals as goal

pub returns-then-is_emptied-clause-emptied : goal.returns-then-is_emptied-clause-emptied
returns-then-is_emptied-clause-emptied c = (c.is_emptied.ensures.0 c.if-is_emptied.true, c.emptied_fault.ensures c.args.plan.now)

pub returns-then-is_emptied-clause-quiet : goal.returns-then-is_emptied-clause-quiet
returns-then-is_emptied-clause-quiet c =
    emptied_quiet c.args.into (checkup_of c.args.self.now c.args.plan.now) c.emptied_fault.result (c.emptied_fault.ensures c.args.plan.now)
