use Rattle.ts_recon.proofs.Why.{seen_differing}
use Rattle.ts_recon.proofs.reason.reason_below_dirs.Goals as goal

pub returns : goal.returns
returns c = λ s found seen.
    let marked = c.look-marked.ensures s found in
    let it = c.look-marked.result in
    seen_differing s c.args.seen.now.path.now _ _ _ seen c.is_shared.result it.agree it.first it.second it.touches_held c.differing.result
    c.is_shared.ensures c.if-is_shared.false marked.agree c.if-marked.false marked.first marked.second marked.touches_held c.differing.ensures
