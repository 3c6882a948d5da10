use Rattle.std.proofs.Common.{◌≡◌, ℕ, List, sym, subst}
use Rattle.ts_model.specs.Plans.{AscendBelow}
use Rattle.ts_model.specs.Sync.{listed_snapshot}
use Rattle.ts_check.proofs.Checking.{preds_ascend}
use Rattle.ts_check.proofs.Scans.{item_at}
use Rattle.ts_check.proofs.checked.Checked.preds.Goals as goal

pub returns-clause-ascending : goal.returns-clause-ascending
returns-clause-ascending c =
    let plan = c.self.inside.plan.now in
    let at = item_at c.as_slice-actions.result.now plan.actions c.args.i c.index-actions-i.result c.as_slice-actions.ensures c.if-i-actions.false c.index-actions-i.is in
    let same : c.preds.result.now ≡ c.index-actions-i.result.preds = c.preds.ensures in
    subst (λ (xs : List ℕ). AscendBelow c.args.i xs) (sym same) (preds_ascend (listed_snapshot c.self.inside.archive.now c.self.inside.first.now c.self.inside.second.now c.self.inside.holds.now) plan c.args.i c.index-actions-i.result c.self.invariant.valid at)
