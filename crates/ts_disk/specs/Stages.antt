-- Where a run over a pair stores what its pieces read.
--     root_of first second side             of two replicas' roots, that of the one on this side
--     root_from first second from           of two replicas' roots, that of the replica that is copied into
--     IsCopiedTo entry first second root    the replica with this root is the one that the entry is copied into
--     IsStoredAt entry n root path place    the place of the file at this whole path, which entry n copies
--     IsStagePlace entry n first second path place
--                                           the own directory, the stage and the file of this path that entry n is stored at
--     IsSourceOf entry first second path place    the file at this whole path, which the entry copies, is copied from this place
--     cause_number cause                    the number by which a cause is kept
--     failure_number failure                the number by which it is kept why an entry failed, where 0 is that it didn't
use Rattle.std.specs.Prelude.{◌≡◌, ◌++◌, ◌+◌, ℕ, List, Some, codes, decimal}
use Rattle.std.specs.String.{string_bytes}
use Rattle.ts_cause.specs.declared.cause.Cause.{Cause}
use Rattle.ts_cause.specs.declared.cause.Cause.TheVariants as cause
use Rattle.ts_disk.specs.declared.stage.Failure.{Failure}
use Rattle.ts_disk.specs.declared.stage.Failure.TheVariants as failure
use Rattle.ts_disk.specs.declared.stage.StagePlace.{StagePlace}
use Rattle.ts_model.specs.Plans.{source}
use Rattle.ts_model.specs.declared.plan.Entry.{Entry}
use Rattle.ts_model.specs.declared.plan.Side.{Side}
use Rattle.ts_model.specs.declared.plan.Side.TheVariants.{First, Second}
use Rattle.ts_name.specs.Paths.{Path, place_text}

abbrev pub root_of : List ℕ → List ℕ → Side → List ℕ
root_of first second First = first
root_of first second Second = second

-- what is copied from one replica goes into the other
abbrev pub root_from : List ℕ → List ℕ → Side → List ℕ
root_from first second First = second
root_from first second Second = first

-- the place of the stage of the entry of this number
abbrev pub stage_text : List ℕ → ℕ → List ℕ
stage_text root number = root ++ codes "/.twosync/stage-" ++ decimal number

-- of two replicas with these roots the entry is copied into the one with this root
abbrev pub IsCopiedTo : Entry → List ℕ → List ℕ → List ℕ → Type 0
IsCopiedTo entry first second root = (from : Side) × (source entry.reason ≡ Some from) × (root ≡ root_from first second from)

-- below its stage the file at this whole path stands as it does below the entry's path
abbrev pub IsStoredAt : Entry → ℕ → List ℕ → Path → List ℕ → Type 0
IsStoredAt entry number root path place = (rest : Path) × (path ≡ entry.path ++ rest) × (place ≡ stage_text root number ++ place_text rest)

-- where entry n, copied into one of two replicas with these roots, and the file at this whole path are stored
pub record IsStagePlace (entry : Entry) (number : ℕ) (first second : List ℕ) (path : Path) (place : StagePlace) : Type 0 where
  pub root : List ℕ
  pub copied : IsCopiedTo entry first second root
  pub own : string_bytes place.own ≡ root ++ codes "/.twosync"
  pub stage : string_bytes place.stage ≡ stage_text root number
  pub file : IsStoredAt entry number root path (string_bytes place.file)

-- of two replicas with these roots it is the one that the entry is copied from, and the file stands at its path there
abbrev pub IsSourceOf : Entry → List ℕ → List ℕ → Path → List ℕ → Type 0
IsSourceOf entry first second path place = (from : Side) × (source entry.reason ≡ Some from) × (place ≡ root_of first second from ++ place_text path)

abbrev pub cause_number : Cause → ℕ
cause_number cause.Unknown = 0
cause_number cause.Denied = 1
cause_number cause.Full = 2
cause_number cause.QuotaUsed = 3
cause_number cause.ReadOnly = 4
cause_number cause.NotThere = 5
cause_number cause.NotFolder = 6
cause_number cause.IsFolder = 7
cause_number cause.Taken = 8
cause_number cause.Busy = 9
cause_number cause.OtherDevice = 10
cause_number cause.TooLarge = 11
cause_number cause.BadName = 12
cause_number cause.LinksInCircle = 13
cause_number cause.Unsupported = 14
cause_number cause.Stale = 15
cause_number cause.OutOfMemory = 16
cause_number cause.Device = 17

abbrev pub failure_number : Failure → ℕ
failure_number failure.OutOfMemory = 1
failure_number (failure.Device cause) = cause_number cause + 2
