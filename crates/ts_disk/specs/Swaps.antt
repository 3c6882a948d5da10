-- Which entries of a plan have a swap in a replica, and where its spots are.
--     IsCopiedInto plan number into entry     the entry of this number is copied, and into this replica of the pair where one is given
--     IsPathCopied plan number into path      this is such an entry's path
--     IsTargetOf plan number into root place  this is such an entry's place below a root
--     IsNoneCopied plan number into           no entry is such
--     notice_path notice                      the path that is reported, if one is
--     IsNoticeOf plan number into notice      a path is reported, and it is such an entry's path
--     IsOfCopied plan into notice             so it is for an entry of some number
--     AddsNotices old new                     what was to be reported still is, and perhaps more
--     place_of spot target new old            of three places, that of the spot
use Rattle.std.specs.Prelude.{◌≡◌, ◌++◌, ℕ, List, MatchOption, Option, Some, None}
use Rattle.ts_name.specs.Paths.{Path, place_text}
use Rattle.ts_model.specs.Plans.{Copies, other}
use Rattle.ts_disk.specs.declared.notice.Notice.{Notice}
use Rattle.ts_disk.specs.declared.notice.Notice.TheVariants.{Discarded, Kept, Mounted, Forgot}
use Rattle.ts_model.specs.declared.plan.Entry.{Entry}
use Rattle.ts_model.specs.declared.plan.Plan.{Plan}
use Rattle.ts_model.specs.declared.plan.Side.{Side}
use Rattle.ts_swap.specs.declared.places.Spot.{Spot}
use Rattle.ts_swap.specs.declared.places.Spot.TheVariants.{Target, New, Old}

abbrev pub IsCopiedInto : Plan → ℕ → Option Side → Entry → Type 0
IsCopiedInto plan number None entry = (from : Side) × Copies plan number entry from
IsCopiedInto plan number (Some into) entry = Copies plan number entry (other into)

-- the entry of this number is copied, and into this replica of the pair where one is given, and it has this path
abbrev pub IsPathCopied : Plan → ℕ → Option Side → Path → Type 0
IsPathCopied plan number into path = (entry : Entry) × IsCopiedInto plan number into entry × (path ≡ entry.path)

-- the place is that of such an entry's path below the root
abbrev pub IsTargetOf : Plan → ℕ → Option Side → List ℕ → List ℕ → Type 0
IsTargetOf plan number into root place = (entry : Entry) × IsCopiedInto plan number into entry × (place ≡ root ++ place_text entry.path)

-- no entry of this number is copied, or not into this replica of the pair
abbrev pub IsNoneCopied : Plan → ℕ → Option Side → Type 0
IsNoneCopied plan number into = (entry : Entry) → ¬ IsCopiedInto plan number into entry

-- the path that is reported, if one is
abbrev pub notice_path : Notice → Option Path
notice_path (Discarded path) = Some path
notice_path (Kept path place) = Some path
notice_path (Mounted path) = Some path
notice_path (Forgot side) = None

-- a path is reported, and it is that of the entry of this number, which is copied, and into this replica of the pair where one is given
abbrev pub IsNoticeOf : Plan → ℕ → Option Side → Notice → Type 0
IsNoticeOf plan number into notice = MatchOption (notice_path notice) ⊥ (IsPathCopied plan number into)

-- so it is for an entry of some number
abbrev pub IsOfCopied : Plan → Option Side → Notice → Type 0
IsOfCopied plan into notice = (number : ℕ) × IsNoticeOf plan number into notice

-- what was to be reported still is, and then perhaps more
abbrev pub AddsNotices : List Notice → List Notice → Type 0
AddsNotices old new = (more : List Notice) × (new ≡ old ++ more)

abbrev pub place_of : {A : Type 0} → Spot → A → A → A → A
place_of Target target new old = target
place_of New target new old = new
place_of Old target new old = old
