-- Why an action may fail.
--     Setting             what folders and sites tell, and may fail with
--     setting_for ..      that of a run, by the sites of its commits at the start
--     setting_until ..    the same of a run that may be stopped
--     setting_over ..     the same of a run over a stage that may fail
--     run_setting ..      the same of a run over such a stage that may be stopped, too
--     TellsTree x from    the folder of this side tells a tree, of the print that the plan was checked with
--     TellsSite x c       the site of this commit told its content at the start
--     AreRead x r         in these steps, what pieces staged is what their folders tell
--     AreTold x r own     and what commits put in place, where pieces did so in the steps r
--     MayFail x r i f     after these steps, the fault is one that the folder or the site of action i may have given
use Rattle.std.specs.Prelude.{◌≡◌, ◌⊎◌, ℕ, ◌+◌, ◌<◌, List, Option, Some, IfSome, length, slice_index_or, None}
use Rattle.std.specs.List.{AllByRecursion}
use Rattle.ts_name.specs.Paths.{Path}
use Rattle.ts_model.specs.Trees.{Listing, at, listed, print_of, sub}
use Rattle.ts_model.specs.Sync.{replica}
use Rattle.ts_model.specs.Runs.{Run}
use Rattle.ts_model.specs.Plans.{KindIs, Copies}
use Rattle.ts_model.specs.declared.row.Content.TheVariants.{File}
use Rattle.ts_model.specs.declared.plan.Entry.{Entry}
use Rattle.ts_model.specs.declared.plan.Kind.{Kind}
use Rattle.ts_model.specs.declared.plan.Kind.TheVariants.{Piece, Commit, Mark}
use Rattle.ts_model.specs.declared.plan.Plan.{Plan}
use Rattle.ts_model.specs.declared.plan.Side.{Side}
use Rattle.ts_model.specs.declared.plan.Side.TheVariants as side
use Rattle.ts_model.specs.declared.step.Step.{Step}
use Rattle.ts_model.specs.declared.step.Step.TheVariants.{Claim, Take, Act, Done, Fail, Release}
use Rattle.ts_model.specs.declared.step.Work.{Work}
use Rattle.ts_model.specs.declared.step.Work.TheVariants.{Staged, Put}
use Rattle.ts_check.specs.Checkup.{Checkup, IsSourcePart, snapshot_of}
use Rattle.ts_print.specs.Parts.{Part}
use Rattle.ts_stage.specs.Assemblies.{Assembly, IsComplete}
use Rattle.ts_board.specs.Checks.{DiffersFromTarget, terms_for}
use Rattle.ts_site.specs.declared.site.Site as sites
use Rattle.ts_folder.specs.declared.folder.Folder as folders
use Rattle.ts_stage.specs.declared.stage.Stage as stages
use Rattle.ts_folder.specs.Folders.{IsFile, Reads}
use Rattle.ts_folder.specs.declared.folder.Call.{Call}
use Rattle.ts_folder.specs.declared.folder.Call.TheVariants.{Read}
use Rattle.ts_folder.specs.declared.fault.Trouble.{Trouble}
use Rattle.ts_folder.specs.declared.fault.Trouble.TheVariants as trouble
use Rattle.ts_exec.specs.declared.stop.Stop as stopping
use Rattle.ts_exec.specs.declared.fault.ActFault.{ActFault}
use Rattle.ts_exec.specs.declared.fault.ActFault.TheVariants as fault

-- the checked plan; which tree the folder of a side tells, and how its reads may fail; what each site told at the start;
-- that a site's device may fail at all; that the stage may; and that the run may be stopped
pub record Setting : Type 1 where
  pub checkup : Checkup
  pub tells : Side → Option (Listing (List ℕ))
  pub lets : Side → Path → Trouble → Type 0
  pub told : List (Option (Option (Listing (List ℕ))))
  pub breaks : Type 0
  pub jams : Type 0
  pub stops : Type 0

-- of each side its own
abbrev pub of_side : {A : Type 0} → A → A → Side → A
of_side first second side.First = first
of_side first second side.Second = second

-- a site's count of failures can grow
abbrev pub MayBreak : {S : Type 0} → (S → ℕ) → Type 0
MayBreak {S} failures = (before : S) × (after : S) × (failures before < failures after)

abbrev pub setting_with : {S F : Type 0} → (S → ℕ) → (F → Option (Listing (List ℕ))) → (F → Call → Path → Trouble → Type 0)
    → Checkup → F → F → List (Option (Option (Listing (List ℕ)))) → Setting
setting_with failures tells lets checkup first second told = record {
  checkup = checkup;
  tells = λ from. tells (of_side first second from);
  lets = λ from p t. lets (of_side first second from) Read p t;
  told = told;
  breaks = MayBreak failures;
  jams = ⊥;
  stops = ⊥;
}

-- a run of this checked plan, over folders and sites as they are at its start: the sites are those of the commits, in order
abbrev pub setting_for : {S F File : Type 0} → sites.Ghosts S → folders.Ghosts F File → Checkup → F → F → List S → Setting
setting_for site folder k first second starts =
    setting_with site.failures folder.tells folder.lets k first second (terms_for site.content k starts).told

-- the same, where it may be stopped
abbrev pub or_stopped : Type 0 → Setting → Setting
or_stopped may x = record x { stops = may }

abbrev pub setting_until : {S F File T : Type 0} → sites.Ghosts S → folders.Ghosts F File → stopping.Ghosts T → Checkup → F → F → List S → T → Setting
setting_until site folder stopped k first second starts stop = or_stopped (stopped.stops stop) (setting_for site folder k first second starts)

-- the same, where the stage of pieces may fail
abbrev pub or_jammed : Type 0 → Setting → Setting
or_jammed may x = record x { jams = may }

abbrev pub setting_over : {S F File P : Type 0} → sites.Ghosts S → folders.Ghosts F File → stages.Ghosts P → Checkup → F → F → List S → P → Setting
setting_over site folder stages k first second starts stage = or_jammed (stages.fails stage) (setting_for site folder k first second starts)

abbrev pub run_setting : {S F File P T : Type 0} → sites.Ghosts S → folders.Ghosts F File → stages.Ghosts P → stopping.Ghosts T → Checkup → F → F → List S → P → T → Setting
run_setting site folder stages stopped k first second starts stage stop = or_jammed (stages.fails stage) (setting_until site folder stopped k first second starts stop)

-- the entry is copied
abbrev pub IsCopied : Plan → ℕ → Type 0
IsCopied plan e = (entry : Entry) × (from : Side) × Copies plan e entry from

-- of two values, this is that of the side that the entry is copied from
abbrev pub IsOfSource : {A : Type 0} → Plan → ℕ → A → A → A → Type 0
IsOfSource plan e first second it = (entry : Entry) × (from : Side) × Copies plan e entry from × (it ≡ of_side first second from)

-- the folder of this side tells a tree, whose print is the one that the plan was checked with
abbrev pub TellsTree : Setting → Side → Type 0
TellsTree x from = (rows : Listing (List ℕ)) × (x.tells from ≡ Some rows) × (print_of (at rows) ≡ replica (snapshot_of x.checkup) from)

-- a piece has staged what the folder that it is copied from tells of its range
abbrev pub HasRead : Setting → Kind → Work → Type 0
HasRead x (Piece e offset size p) w =
    (bytes : List ℕ) × (entry : Entry) × (from : Side) × Copies x.checkup.plan e entry from × (w ≡ Staged bytes) × IfSome (x.tells from) (λ rows. Reads (at rows p) offset size bytes)
HasRead x (Commit e) w = Unit {0}
HasRead x (Mark e) w = Unit {0}

-- the same of what an action of the plan did
abbrev pub IsRead : Setting → ℕ → Work → Type 0
IsRead x i w = (kind : Kind) × KindIs x.checkup.plan i kind × HasRead x kind w

abbrev pub IsReadStep : Setting → Step → Type 0
IsReadStep x (Claim i) = Unit {0}
IsReadStep x (Take c k) = Unit {0}
IsReadStep x (Act i w) = IsRead x i w
IsReadStep x (Done i) = Unit {0}
IsReadStep x (Fail i) = Unit {0}
IsReadStep x (Release i j) = Unit {0}

abbrev pub AreRead : Setting → Run → Type 0
AreRead x r = AllByRecursion (IsReadStep x) r

-- the site in the slot of this action told its content at the start
abbrev pub TellsSite : Setting → ℕ → Type 0
TellsSite x c = (rows : Listing (List ℕ)) × (slice_index_or x.told c None ≡ Some (Some rows))

-- a commit over a site that tells its content has put in place what its source's folder tells at the entry's path and below, where pieces staged
-- in these steps what folders tell
abbrev pub HasPut : Setting → Run → ℕ → ℕ → Work → Type 0
HasPut x r c e w =
    (made : Listing (List ℕ)) × (entry : Entry) × (from : Side) × Copies x.checkup.plan e entry from × (w ≡ Put made)
    × (TellsSite x c → (told : TellsTree x from) → AreRead x r → listed made ≡ sub (at told.0) entry.path)

abbrev pub HasTold : Setting → Run → ℕ → Kind → Work → Type 0
HasTold x r i (Piece e offset size p) w = HasRead x (Piece e offset size p) w
HasTold x r i (Commit e) w = HasPut x r i e w
HasTold x r i (Mark e) w = Unit {0}

-- what an action of the plan did is what its folder tells
abbrev pub IsTold : Setting → Run → ℕ → Work → Type 0
IsTold x r i w = (kind : Kind) × KindIs x.checkup.plan i kind × HasTold x r i kind w

abbrev pub IsToldStep : Setting → Run → Step → Type 0
IsToldStep x r (Claim i) = Unit {0}
IsToldStep x r (Take c k) = Unit {0}
IsToldStep x r (Act i w) = IsTold x r i w
IsToldStep x r (Done i) = Unit {0}
IsToldStep x r (Fail i) = Unit {0}
IsToldStep x r (Release i j) = Unit {0}

abbrev pub AreTold : Setting → Run → Run → Type 0
AreTold x r own = AllByRecursion (IsToldStep x r) own

-- a piece that is read from this path: a file that is too short doesn't fit, and its stage may fail
abbrev pub PieceFails : (Trouble → Type 0) → Type 0 → Option (Listing (List ℕ)) → ℕ → Path → ActFault → Type 0
PieceFails lets jams tells end p fault.OutOfMemory = Unit {0}
PieceFails lets jams tells end p fault.Device = lets trouble.Device ⊎ jams
PieceFails lets jams tells end p fault.NotThere = IfSome tells (λ rows. ¬ IsFile (at rows p))
PieceFails lets jams tells end p fault.Unreadable = lets trouble.Unreadable
PieceFails lets jams tells end p fault.Changed = ⊥
PieceFails lets jams tells end p fault.Misfit = IfSome tells (λ rows. (bytes : List ℕ) × (at rows p ≡ File bytes) × (length bytes < end))

-- of a commit whose site tells its content: an assembly of the commit's source, of which a file doesn't fit its stamp. Where the source's folder
-- tells such a tree, some piece in these steps has staged what no folder tells
abbrev pub IsMisfit : Setting → Run → ℕ → Type 0
IsMisfit x r c =
    TellsSite x c → (staged : Assembly) × (part : Part) × (of : IsSourcePart x.checkup c part) × (staged.wanted ≡ part.rows) × (¬ IsComplete staged)
    × (TellsTree x of.from → ¬ AreRead x r)

-- what the commit's site told at the start hasn't the print that the target had
abbrev pub IsChanged : Setting → ℕ → Type 0
IsChanged x c =
    (content : Option (Listing (List ℕ))) × (slice_index_or x.told c None ≡ Some content)
    × DiffersFromTarget x.checkup c content

abbrev pub CommitFails : Setting → Run → ℕ → ActFault → Type 0
CommitFails x r c fault.OutOfMemory = Unit {0}
CommitFails x r c fault.Device = x.breaks
CommitFails x r c fault.NotThere = ⊥
CommitFails x r c fault.Unreadable = ⊥
CommitFails x r c fault.Changed = IsChanged x c
CommitFails x r c fault.Misfit = IsMisfit x r c

-- marks don't fail
abbrev pub KindFails : Setting → Run → ℕ → Kind → ActFault → Type 0
KindFails x r i (Piece e offset size p) f = (entry : Entry) × (from : Side) × Copies x.checkup.plan e entry from × PieceFails (x.lets from p) x.jams (x.tells from) (offset + size) p f
KindFails x r i (Commit e) f = CommitFails x r i f
KindFails x r i (Mark e) f = ⊥

abbrev pub MayFail : Setting → Run → ℕ → ActFault → Type 0
MayFail x r i f = (kind : Kind) × KindIs x.checkup.plan i kind × KindFails x r i kind f
