-- What the laws on stopped runs give for a plan that is made anew.
use Rattle.std.proofs.Common.{◌≡◌, length, sym, subst}
use Rattle.ts_model.specs.Trees.{Tree, AreApart}
use Rattle.ts_model.specs.Sync.{Snapshot}
use Rattle.ts_model.specs.Plans.{Valid}
use Rattle.ts_model.specs.Runs.{Run, Legal, State, after, start}
use Rattle.ts_model.specs.Headline.{AllDone, FinalArchive, Meets}
use Rattle.ts_model.specs.Resume.{archive_of_part, stopped}
use Rattle.ts_model.specs.declared.plan.Plan.{Plan}
use Rattle.ts_laws.specs.Laws.{EndsAlike}
use Rattle.ts_plan_build.specs.Resumed.{EndsAsBegun}

-- what any run of the plan ends with, where it is done
abbrev Ends : Snapshot → Plan → Snapshot → State → Tree → Tree → Run → Type 0
Ends t next s w c d more = Legal t next more → AreApart (Meets w.first w.second more) → AllDone next more
    → let v = after t next (start t w.first w.second) more in
    (v.first ≡ c) × (v.second ≡ d) × FinalArchive s c v.archive

-- a valid plan for what is left ends as the run was to end
pub ends_as_begun : ((s : Snapshot) (plan : Plan) → Valid s plan → EndsAlike s plan) → (t : Snapshot) (next : Plan) → Valid t next → EndsAsBegun t next
ends_as_begun law t next valid s plan a b c d r part h e more =
    let w = after s plan (start s a b) r in
    let left = stopped s w (archive_of_part s plan part (length plan.actions)) in
    subst (λ (z : Snapshot). Ends z next s w c d more) e
    (λ legal apart done. law s plan h.valid a b c d r part h.premises h.legal h.asked h.closed next more (subst (λ (z : Snapshot). Valid z next) (sym e) valid) legal apart done)
