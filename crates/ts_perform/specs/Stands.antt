-- Where commits are made.
--     Stand                       below which replica's root, from which replica, and at which path
--     stand_of first second e     where the commit of an entry is made: in the replica that it is copied to. An entry that isn't copied has no commit
--     stands_of first second      where the commits of a plan are made, in the order of its actions
--     AreAtStands stand first second plan sites   the sites' commits are made where those of the plan are, one after another
--     IsScanOf is_at tells root special print   the print was made of a folder that was asked for by this root, with stand-ins at these paths
--     AreScans is_at tells pair special ..      the two prints were, each of its own root, with its own stand-ins
use Rattle.std.specs.Prelude.{◌≡◌, ℕ, List, [], ◌∷◌, Option, Some, None, IfSome, map, slice_get}
use Rattle.ts_name.specs.Paths.{Path}
use Rattle.ts_exec.specs.Failures.{of_side}
use Rattle.ts_command.specs.declared.job.Pair.{Pair}
use Rattle.ts_perform.specs.declared.special.SpecialPaths.{SpecialPaths}
use Rattle.ts_model.specs.Plans.{other, source}
use Rattle.ts_model.specs.Trees.{Listing, at, print_of}
use Rattle.ts_model.specs.declared.plan.Action.{Action}
use Rattle.ts_model.specs.declared.plan.Entry.{Entry}
use Rattle.ts_model.specs.declared.plan.Kind.TheVariants.{Piece, Commit, Mark}
use Rattle.ts_model.specs.declared.plan.Plan.{Plan}
use Rattle.ts_model.specs.declared.plan.Reason.{Reason}
use Rattle.ts_model.specs.declared.row.Stamp.{Stamp}

pub record Stand : Type 0 where
  pub root : List ℕ
  pub source : List ℕ
  pub path : Path

-- of the replica that is copied to, and of the one that is copied from. An entry that isn't copied has no commit
abbrev pub target_root : List ℕ → List ℕ → Reason → List ℕ
target_root first second r = elim (source r) [
  | None ↦ second
  | Some from ↦ of_side first second (other from)
]

abbrev pub source_root : List ℕ → List ℕ → Reason → List ℕ
source_root first second r = elim (source r) [
  | None ↦ first
  | Some from ↦ of_side first second from
]

abbrev pub stand_of : List ℕ → List ℕ → Entry → Stand
stand_of first second entry = record {
  root = target_root first second entry.reason;
  source = source_root first second entry.reason;
  path = entry.path;
}

abbrev pub stand_at : List ℕ → List ℕ → Option Entry → Option Stand
stand_at first second None = None
stand_at first second (Some entry) = Some (stand_of first second entry)

abbrev pub stands_of : List ℕ → List ℕ → List Entry → List Action → List (Option Stand)
stands_of first second entries [] = []
stands_of first second entries (action ∷ actions) = elim action.kind [
  | Piece e offset size p ↦ stands_of first second entries actions
  | Commit e ↦ stand_at first second (slice_get entries e) ∷ stands_of first second entries actions
  | Mark e ↦ stands_of first second entries actions
]

-- each site stands where the commit is made that it is for
abbrev pub AreAtStands : {S : Type 0} → (S → Stand) → (first second : List ℕ) → Plan → List S → Type 0
AreAtStands stand first second plan sites = map (λ s. Some (stand s)) sites ≡ stands_of first second plan.entries plan.actions

-- a folder was asked for by a root, with stand-ins at these paths
abbrev pub IsAt : Type 0 → Type 1
IsAt F = F → List ℕ → List Path → Type 0

-- a stage was asked for by the roots of both replicas
abbrev pub IsStaged : Type 0 → Type 1
IsStaged P = P → List ℕ → List ℕ → Type 0

-- it is the print of the tree which that folder tells, if it tells one
abbrev pub IsScanOf : {F : Type 0} → IsAt F → (F → Option (Listing (List ℕ))) → List ℕ → List Path → Listing Stamp → Type 0
IsScanOf {F} is_at tells root special print = (folder : F) × is_at folder root special × IfSome (tells folder) (λ tree. at print ≡ print_of (at tree))

pub record AreScans {F : Type 0} (is_at : IsAt F) (tells : F → Option (Listing (List ℕ))) (pair : Pair) (special : SpecialPaths)
    (first second : Listing Stamp) : Type 0 where
  pub of_first : IsScanOf is_at tells pair.first.now special.first first
  pub of_second : IsScanOf is_at tells pair.second.now special.second second
