use Rattle.std.proofs.Common.{◌≡◌, ◌⊎◌, Err, inl, inr}
use Rattle.ts_scan.specs.declared.fault.ScanFault.TheVariants.{OutOfMemory}
use Rattle.ts_scan.proofs.Walks.{exit_tells}
use Rattle.ts_scan.proofs.walk.put_together.Goals as goal

pub returns-in_err-done-clause-fault : goal.returns-in_err-done-clause-fault
returns-in_err-done-clause-fault c =
    exit_tells c.from_residual.result c.in_err-done.field-0.0 (λ e. (e ≡ OutOfMemory) ⊎ (c.args.front ≡ Err e) ⊎ (c.args.back ≡ Err e))
    c.from_residual.ensures.1 (inr (inl c.in_err-done.was))

pub returns-in_err-more-clause-fault : goal.returns-in_err-more-clause-fault
returns-in_err-more-clause-fault c =
    exit_tells c.from_residual-in_err-more.result c.in_err-more.field-0.0 (λ e. (e ≡ OutOfMemory) ⊎ (c.args.front ≡ Err e) ⊎ (c.args.back ≡ Err e))
    c.from_residual-in_err-more.ensures.1 (inr (inr c.in_err-more.was))
