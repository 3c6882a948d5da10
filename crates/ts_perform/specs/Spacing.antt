-- How many actions of a worker lie between two checkpoints where nobody says so.
--     bytes_of plan                  how many bytes the pieces of a plan have, or the most that 64 bits can count
--     IsBetween actions bytes workers every   256 MiB are copied meanwhile, by actions of which each copies as much, but for these limits
--     IsSpacing plan workers every   the same of a plan
use Rattle.std.specs.Prelude.{ℕ, ◌-◌, ◌+◌, ◌*◌, ◌<◌, ◌≤◌, ◌^◌, length, min, sum_by}
use Rattle.ts_model.specs.declared.plan.Action.{Action}
use Rattle.ts_model.specs.declared.plan.Kind.{Kind}
use Rattle.ts_model.specs.declared.plan.Kind.TheVariants.{Piece, Commit, Mark}
use Rattle.ts_model.specs.declared.plan.Plan.{Plan}

abbrev pub kind_bytes : Kind → ℕ
kind_bytes (Piece e offset size p) = size
kind_bytes (Commit e) = 0
kind_bytes (Mark e) = 0

abbrev pub size_of : Action → ℕ
size_of action = kind_bytes action.kind

abbrev pub bytes_of : Plan → ℕ
bytes_of plan = min (sum_by size_of plan.actions) (2 ^ 64 - 1)

-- so many actions of each worker come to 256 MiB at most, and one more of each to more
pub record IsBetween (actions bytes workers every : ℕ) : Type 0 where
  pub least : 1 ≤ every
  pub most : every ≤ 65536
  pub within : 1 < every → every * (workers * bytes) ≤ 268435456 * actions
  pub past : every < 65536 → 268435456 * actions < (every + 1) * (workers * bytes)

abbrev pub IsSpacing : Plan → (workers every : ℕ) → Type 0
IsSpacing plan workers every = IsBetween (length plan.actions) (bytes_of plan) workers every
