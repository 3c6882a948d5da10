use Rattle.std.proofs.Common.{◌∷◌, []}
use Rattle.std.proofs.lemmas.Result.{err_from_is_err_and}
use Rattle.ts_text.proofs.Sinks.{front_longer, writes_after}
use Rattle.ts_text.proofs.write.write_line.Goals as goal

pub returns-in_err-write_all-clause-written : goal.returns-in_err-write_all-clause-written
returns-in_err-write_all-clause-written g c =
    let p = err_from_is_err_and c.from_residual.result c.from_residual.ensures.1 in
    rw p.1 (front_longer _ _ c.args.line.now (10 ∷ []) c.in_err-write_all.ensures.written)

pub returns-clause-written : goal.returns-clause-written
returns-clause-written g c =
    writes_after _ _ _ c.args.line.now (10 ∷ []) c.write_all-2.result c.in_ok-write_all.ensures.written c.write_all-2.ensures.written
