use Rattle.std.proofs.Common.{List}
use Rattle.ts_model.specs.Sync.{listed_snapshot}
use Rattle.ts_model.specs.declared.hold.Rule.{Rule}
use Rattle.ts_dirty.specs.Found.{IsFoundOf}
use Rattle.ts_recon.proofs.Gathered.{IsReasoned}
use Rattle.ts_recon.proofs.recon.reasons.Given as goal

abbrev pub invariant-loop-seen : goal.invariant-loop-seen
invariant-loop-seen l = (rules : List Rule) → IsFoundOf (listed_snapshot l.fn.archive l.fn.first l.fn.second rules) l.fn.marks
    → IsReasoned l.fn.archive l.fn.first l.fn.second rules l.seen-iterator l.shared l.entries.items
