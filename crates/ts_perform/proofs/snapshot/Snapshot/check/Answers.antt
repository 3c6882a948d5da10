use Rattle.ts_perform.specs.Snapshots.{checkup_of}
use Rattle.ts_perform.proofs.Printing.{unchecked}
use Rattle.ts_perform.proofs.snapshot.Snapshot.check.Goals as goal

pub returns-in-Err-clause-refused : goal.returns-in-Err-clause-refused
returns-in-Err-clause-refused g c = rw c.of_check.ensures (unchecked (checkup_of c.args.self.now c.args.plan.now) c.in-Err.fault c.in-Err.ensures.told)
