-- What a plan for what is there now is worth.
--     EndsAsBegun t plan          where a stopped run left t, the plan ends with the pair that the run was to end with
--     IsTooMuch A F S rules       the paths with a reason, or their actions, are more than a plan may have
use Rattle.std.specs.Prelude.{◌≡◌, ℕ, Bool, List, length}
use Rattle.ts_model.specs.Trees.{Listing, Tree, AreApart}
use Rattle.ts_model.specs.Sync.{Snapshot, Synced, listed_snapshot}
use Rattle.ts_model.specs.Plans.{Valid}
use Rattle.ts_model.specs.Runs.{Run, Legal, after, start}
use Rattle.ts_model.specs.Headline.{AllDone, FinalArchive, Meets, Premises}
use Rattle.ts_model.specs.Resume.{IsClosedPart, archive_of_part, stopped}
use Rattle.ts_model.specs.declared.row.Stamp.{Stamp}
use Rattle.ts_model.specs.declared.hold.Rule.{Rule}
use Rattle.ts_model.specs.declared.plan.Entry.{Entry}
use Rattle.ts_model.specs.declared.plan.Plan.{Plan}
use Rattle.ts_plan_build.specs.Planned.{IsPastLimit}
use Rattle.ts_recon.specs.Reasons.{AreReasons}

-- a run of some valid plan, to end with the pair c and d, was stopped; the archive is that of a closed part of its marks
pub record IsStopped (s : Snapshot) (plan : Plan) (a b c d : Tree) (r : Run) (part : ℕ → Bool) : Type 0 where
  pub valid : Valid s plan
  pub premises : Premises s a b r
  pub legal : Legal s plan r
  pub asked : Synced s a b c d
  pub closed : IsClosedPart plan r part

-- whatever run left t, each run of the plan that is done ends with the pair that it was to end with, and a final archive of it
abbrev pub EndsAsBegun : Snapshot → Plan → Type 0
EndsAsBegun t next = (s : Snapshot) (plan : Plan) (a b c d : Tree) (r : Run) (part : ℕ → Bool) → IsStopped s plan a b c d r part
    → let w = after s plan (start s a b) r in
    stopped s w (archive_of_part s plan part (length plan.actions)) ≡ t
    → (more : Run) → Legal t next more → AreApart (Meets w.first w.second more) → AllDone next more
    → let v = after t next (start t w.first w.second) more in
    (v.first ≡ c) × (v.second ≡ d) × FinalArchive s c v.archive

abbrev pub IsTooMuch : Listing Stamp → Listing Stamp → Listing Stamp → List Rule → Type 0
IsTooMuch A F S rules = (entries : List Entry) × AreReasons (listed_snapshot A F S rules) entries × IsPastLimit F S entries
