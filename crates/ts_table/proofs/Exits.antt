-- Where a path's fault comes through.
use Rattle.std.proofs.Common.{◌≡◌, Result, Err, ap}
use Rattle.std.specs.Result.{IsErrAnd}
use Rattle.std.proofs.lemmas.Result.{err_from_is_err_and}
use Rattle.ts_table.specs.declared.fault.TableFault.{TableFault}
use Rattle.ts_table.specs.declared.fault.TableFault.TheVariants.{TooLong}

-- a fault of our own comes through as it is
pub exit_itself : {T S : Type 0} (r : Result T TableFault) (f : TableFault) → IsErrAnd r (λ e. e ≡ f) → r ≡ Err TooLong → ◌≡◌ {A = Result S TableFault} (Err f) (Err TooLong)
exit_itself r f h too = let p = err_from_is_err_and r h in let e = p.1 in let d = p.2 in let same : f ≡ TooLong = cc in ap Err same
