-- What follows from a fact of one command is a fact of it too.
use Rattle.std.proofs.Common.{ℕ, Bool, List}
use Rattle.ts_command.specs.declared.job.Job.{Job}
use Rattle.ts_command.specs.declared.job.Job.TheVariants as job
use Rattle.ts_command.specs.declared.job.Pair.{Pair}
use Rattle.ts_perform.specs.Jobs.{IfCheck, IfPlan, IfPreview, IfRun, IfScan, IfShow, IfSync, IfTell}

pub in_tell : (j : Job) (P Q : Type 0) → (P → Q) → IfTell j P → IfTell j Q
in_tell (job.Tell text) P Q step is = step is
in_tell job.Trial P Q step is = tt
in_tell (job.Scan folder) P Q step is = tt
in_tell (job.Show archive) P Q step is = tt
in_tell (job.Plan pair) P Q step is = tt
in_tell (job.Preview pair json) P Q step is = tt
in_tell (job.Check pair plan) P Q step is = tt
in_tell (job.Run pair plan) P Q step is = tt
in_tell (job.Sync pair) P Q step is = tt

pub in_scan : (j : Job) (P Q : List ℕ → Type 0) → ((root : List ℕ) → P root → Q root) → IfScan j P → IfScan j Q
in_scan (job.Tell text) P Q step is = tt
in_scan job.Trial P Q step is = tt
in_scan (job.Scan folder) P Q step is = step folder.now is
in_scan (job.Show archive) P Q step is = tt
in_scan (job.Plan pair) P Q step is = tt
in_scan (job.Preview pair json) P Q step is = tt
in_scan (job.Check pair plan) P Q step is = tt
in_scan (job.Run pair plan) P Q step is = tt
in_scan (job.Sync pair) P Q step is = tt

pub in_show : (j : Job) (P Q : List ℕ → Type 0) → ((name : List ℕ) → P name → Q name) → IfShow j P → IfShow j Q
in_show (job.Tell text) P Q step is = tt
in_show job.Trial P Q step is = tt
in_show (job.Scan folder) P Q step is = tt
in_show (job.Show archive) P Q step is = step archive.now is
in_show (job.Plan pair) P Q step is = tt
in_show (job.Preview pair json) P Q step is = tt
in_show (job.Check pair plan) P Q step is = tt
in_show (job.Run pair plan) P Q step is = tt
in_show (job.Sync pair) P Q step is = tt

pub in_plan : (j : Job) (P Q : Pair → Type 0) → ((pair : Pair) → P pair → Q pair) → IfPlan j P → IfPlan j Q
in_plan (job.Tell text) P Q step is = tt
in_plan job.Trial P Q step is = tt
in_plan (job.Scan folder) P Q step is = tt
in_plan (job.Show archive) P Q step is = tt
in_plan (job.Plan pair) P Q step is = step pair is
in_plan (job.Preview pair json) P Q step is = tt
in_plan (job.Check pair plan) P Q step is = tt
in_plan (job.Run pair plan) P Q step is = tt
in_plan (job.Sync pair) P Q step is = tt

pub in_preview : (j : Job) (P Q : Pair → Bool → Type 0) → ((pair : Pair) (json : Bool) → P pair json → Q pair json) → IfPreview j P → IfPreview j Q
in_preview (job.Tell text) P Q step is = tt
in_preview job.Trial P Q step is = tt
in_preview (job.Scan folder) P Q step is = tt
in_preview (job.Show archive) P Q step is = tt
in_preview (job.Plan pair) P Q step is = tt
in_preview (job.Preview pair json) P Q step is = step pair json is
in_preview (job.Check pair plan) P Q step is = tt
in_preview (job.Run pair plan) P Q step is = tt
in_preview (job.Sync pair) P Q step is = tt

pub in_check : (j : Job) (P Q : Pair → List ℕ → Type 0) → ((pair : Pair) (plan : List ℕ) → P pair plan → Q pair plan) → IfCheck j P → IfCheck j Q
in_check (job.Tell text) P Q step is = tt
in_check job.Trial P Q step is = tt
in_check (job.Scan folder) P Q step is = tt
in_check (job.Show archive) P Q step is = tt
in_check (job.Plan pair) P Q step is = tt
in_check (job.Preview pair json) P Q step is = tt
in_check (job.Check pair plan) P Q step is = step pair plan.now is
in_check (job.Run pair plan) P Q step is = tt
in_check (job.Sync pair) P Q step is = tt

pub in_run : (j : Job) (P Q : Pair → List ℕ → Type 0) → ((pair : Pair) (plan : List ℕ) → P pair plan → Q pair plan) → IfRun j P → IfRun j Q
in_run (job.Tell text) P Q step is = tt
in_run job.Trial P Q step is = tt
in_run (job.Scan folder) P Q step is = tt
in_run (job.Show archive) P Q step is = tt
in_run (job.Plan pair) P Q step is = tt
in_run (job.Preview pair json) P Q step is = tt
in_run (job.Check pair plan) P Q step is = tt
in_run (job.Run pair plan) P Q step is = step pair plan.now is
in_run (job.Sync pair) P Q step is = tt

pub in_sync : (j : Job) (P Q : Pair → Type 0) → ((pair : Pair) → P pair → Q pair) → IfSync j P → IfSync j Q
in_sync (job.Tell text) P Q step is = tt
in_sync job.Trial P Q step is = tt
in_sync (job.Scan folder) P Q step is = tt
in_sync (job.Show archive) P Q step is = tt
in_sync (job.Plan pair) P Q step is = tt
in_sync (job.Preview pair json) P Q step is = tt
in_sync (job.Check pair plan) P Q step is = tt
in_sync (job.Run pair plan) P Q step is = tt
in_sync (job.Sync pair) P Q step is = step pair is
