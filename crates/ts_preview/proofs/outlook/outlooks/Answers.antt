use Rattle.std.proofs.Common.{◌++◌, ◌∷◌, [], arith, subst, sym, take}
use Rattle.ts_preview.specs.Outlooks.{AreOutlooks}
use Rattle.ts_preview.proofs.Gathered.{one_more, taken_more}
use Rattle.ts_preview.proofs.outlook.outlooks.Goals as goal

pub loop-entry-preserved : goal.loop-entry-preserved
loop-entry-preserved c =
    let archive = c.args.archive.now in let first = c.args.first.now in let second = c.args.second.now in
    let entries = c.args.entries.now in let i = c.loop-entry.entry-index in let entry = c.entry-item.result in
    let more = one_more archive first second (take i entries) c.loop-entry.all.items entry c.outlook_of.result c.loop-entry.invariant c.outlook_of.ensures in
    let taken = taken_more entries i entry (omega arith) c.entry-item.is in
    subst (λ z. AreOutlooks archive first second z c.push.new.self.items) (sym taken)
    (subst (λ z. AreOutlooks archive first second (take i entries ++ entry ∷ []) z) (sym c.in_ok-push.ensures.items) more)
