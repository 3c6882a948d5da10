-- A run that is legal on a board that was opened for a checked plan is legal for what was checked.
use Rattle.std.proofs.Common.{sym, subst, ap}
use Rattle.ts_model.specs.Trees.{at}
use Rattle.ts_model.specs.Runs.{Run, Legal}
use Rattle.ts_model.specs.declared.plan.Plan.{Plan}
use Rattle.ts_check.specs.Checkup.{Checkup, snapshot_of}
use Rattle.ts_board.specs.declared.law.Terms.{Terms}
use Rattle.ts_board.specs.Terms.{IsLegalRun}
use Rattle.ts_board.specs.Checks.{IsFromCheck}

pub legal_for : (t : Terms) (k : Checkup) → IsFromCheck t k → (r : Run) → IsLegalRun t r → Legal (snapshot_of k) k.plan r
legal_for t k from r legal = subst (λ (p : Plan). Legal (snapshot_of k) p r) from.0 (legal (snapshot_of k) (sym (ap at from.1), sym (ap at from.2)))
