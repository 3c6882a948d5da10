-- The nearest new directory strictly above an entry.
--     IsDirAbove entries d e        entry d is a new directory strictly above entry e
--     IsNearestOf entries e found   found is the nearest of these, or no_action where there is none
use Rattle.std.specs.Prelude.{◌≡◌, ◌≢◌, ◌⊎◌, ℕ, ◌<◌, List, Some, slice_get}
use Rattle.ts_name.specs.Paths.{IsAbove}
use Rattle.ts_model.specs.declared.plan.Reason.TheVariants as reason
use Rattle.ts_model.specs.declared.plan.Entry.{Entry}
use Rattle.ts_check.specs.Places.{no_action}

-- entry e is a new directory
abbrev pub IsDirEntry : List Entry → ℕ → Type 0
IsDirEntry entries e = (entry : Entry) × (slice_get entries e ≡ Some entry) × (entry.reason ≡ reason.Dir)

-- the path of entry d is above that of entry e, or the same
abbrev pub IsEntryAbove : List Entry → ℕ → ℕ → Type 0
IsEntryAbove entries d e = (dir : Entry) × (below : Entry) × (slice_get entries d ≡ Some dir) × (slice_get entries e ≡ Some below) × IsAbove dir.path below.path

pub record IsDirAbove (entries : List Entry) (d e : ℕ) : Type 0 where
  pub dir : Entry
  pub below : Entry
  pub is_dir : slice_get entries d ≡ Some dir
  pub is_below : slice_get entries e ≡ Some below
  pub new_dir : dir.reason ≡ reason.Dir
  pub above : IsAbove dir.path below.path
  pub strictly : dir.path ≢ below.path

-- the nearest: each other one is above it too
abbrev pub IsNearestOf : List Entry → ℕ → ℕ → Type 0
IsNearestOf entries e found =
    ((found ≡ no_action) × ((d : ℕ) → ¬ IsDirAbove entries d e))
    ⊎ ((found < e) × IsDirAbove entries found e × ((d : ℕ) → IsDirAbove entries d e → (d ≡ found) ⊎ IsDirAbove entries d found))

-- what stands at each entry is its nearest
abbrev pub IsNearestIndex : List Entry → List ℕ → Type 0
IsNearestIndex entries nearest = (e found : ℕ) → slice_get nearest e ≡ Some found → IsNearestOf entries e found
