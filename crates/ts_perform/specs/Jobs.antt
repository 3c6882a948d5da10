-- Facts of one command: `IfPlan job P` says P of the pair that the command works on, where the command is `plan`. `IfTell job P` says P
-- where the words ask for help or the version.
use Rattle.std.specs.Prelude.{⊤, ℕ, Bool, List}
use Rattle.ts_command.specs.declared.job.Job.{Job}
use Rattle.ts_command.specs.declared.job.Job.TheVariants as job
use Rattle.ts_command.specs.declared.job.Pair.{Pair}

abbrev pub IfTell : Job → Type 0 → Type 0
IfTell j P = elim j [
  | job.Tell text ↦ P
  | job.Trial ↦ ⊤
  | job.Scan folder ↦ ⊤
  | job.Show archive ↦ ⊤
  | job.Plan pair ↦ ⊤
  | job.Preview pair json ↦ ⊤
  | job.Check pair plan ↦ ⊤
  | job.Run pair plan ↦ ⊤
  | job.Sync pair ↦ ⊤
]

-- of the folder's root
abbrev pub IfScan : Job → (List ℕ → Type 0) → Type 0
IfScan j P = elim j [
  | job.Tell text ↦ ⊤
  | job.Trial ↦ ⊤
  | job.Scan folder ↦ P folder.now
  | job.Show archive ↦ ⊤
  | job.Plan pair ↦ ⊤
  | job.Preview pair json ↦ ⊤
  | job.Check pair plan ↦ ⊤
  | job.Run pair plan ↦ ⊤
  | job.Sync pair ↦ ⊤
]

-- of the archive's name
abbrev pub IfShow : Job → (List ℕ → Type 0) → Type 0
IfShow j P = elim j [
  | job.Tell text ↦ ⊤
  | job.Trial ↦ ⊤
  | job.Scan folder ↦ ⊤
  | job.Show archive ↦ P archive.now
  | job.Plan pair ↦ ⊤
  | job.Preview pair json ↦ ⊤
  | job.Check pair plan ↦ ⊤
  | job.Run pair plan ↦ ⊤
  | job.Sync pair ↦ ⊤
]

abbrev pub IfPlan : Job → (Pair → Type 0) → Type 0
IfPlan j P = elim j [
  | job.Tell text ↦ ⊤
  | job.Trial ↦ ⊤
  | job.Scan folder ↦ ⊤
  | job.Show archive ↦ ⊤
  | job.Plan pair ↦ P pair
  | job.Preview pair json ↦ ⊤
  | job.Check pair plan ↦ ⊤
  | job.Run pair plan ↦ ⊤
  | job.Sync pair ↦ ⊤
]

-- and of whether it is asked for as JSON
abbrev pub IfPreview : Job → (Pair → Bool → Type 0) → Type 0
IfPreview j P = elim j [
  | job.Tell text ↦ ⊤
  | job.Trial ↦ ⊤
  | job.Scan folder ↦ ⊤
  | job.Show archive ↦ ⊤
  | job.Plan pair ↦ ⊤
  | job.Preview pair json ↦ P pair json
  | job.Check pair plan ↦ ⊤
  | job.Run pair plan ↦ ⊤
  | job.Sync pair ↦ ⊤
]

-- and of the plan's name
abbrev pub IfCheck : Job → (Pair → List ℕ → Type 0) → Type 0
IfCheck j P = elim j [
  | job.Tell text ↦ ⊤
  | job.Trial ↦ ⊤
  | job.Scan folder ↦ ⊤
  | job.Show archive ↦ ⊤
  | job.Plan pair ↦ ⊤
  | job.Preview pair json ↦ ⊤
  | job.Check pair plan ↦ P pair plan.now
  | job.Run pair plan ↦ ⊤
  | job.Sync pair ↦ ⊤
]

-- and of the plan's name
abbrev pub IfRun : Job → (Pair → List ℕ → Type 0) → Type 0
IfRun j P = elim j [
  | job.Tell text ↦ ⊤
  | job.Trial ↦ ⊤
  | job.Scan folder ↦ ⊤
  | job.Show archive ↦ ⊤
  | job.Plan pair ↦ ⊤
  | job.Preview pair json ↦ ⊤
  | job.Check pair plan ↦ ⊤
  | job.Run pair plan ↦ P pair plan.now
  | job.Sync pair ↦ ⊤
]

abbrev pub IfSync : Job → (Pair → Type 0) → Type 0
IfSync j P = elim j [
  | job.Tell text ↦ ⊤
  | job.Trial ↦ ⊤
  | job.Scan folder ↦ ⊤
  | job.Show archive ↦ ⊤
  | job.Plan pair ↦ ⊤
  | job.Preview pair json ↦ ⊤
  | job.Check pair plan ↦ ⊤
  | job.Run pair plan ↦ ⊤
  | job.Sync pair ↦ P pair
]
