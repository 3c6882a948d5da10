-- What a look at a folder finds, where the folder tells its tree.
--     HasPart t part              the print of the tree has this part where it stands
--     Has t rows row              the tree has what a row says, and in a directory nothing that no row says
--     HasAll, LacksSome           the tree, where it is told, has what each row says; or it hasn't what each row says
--     MayEnd troubles differs e   a look may end with this fault, where these troubles may come and this differs
use Rattle.std.specs.Prelude.{◌≡◌, ◌≢◌, ◌⊎◌, [], ◌∷◌, ◌++◌, ◌↔◌, Bool, Result, IfOk, IfSome, IsTrue}
use Rattle.std.specs.List.{AllByRecursion}
use Rattle.ts_name.specs.Paths.{Name, Path}
use Rattle.ts_model.specs.Texts.{IsTreeBody}
use Rattle.ts_model.specs.Trees.{Tree, Listing, at, listed, print_of, stamped, sub}
use Rattle.ts_model.specs.declared.row.Content.{Content}
use Rattle.ts_model.specs.declared.row.Content.TheVariants.{Absent, Dir, File}
use Rattle.ts_model.specs.declared.row.Row.{Row}
use Rattle.ts_model.specs.declared.row.Stamp.{Stamp}
use Rattle.ts_print.specs.Parts.{Part}
use Rattle.ts_folder.specs.Folders.{HasKind, IsFile}
use Rattle.ts_folder.specs.declared.fault.FolderFault.{FolderFault}
use Rattle.ts_folder.specs.declared.fault.FolderFault.TheVariants as folder
use Rattle.ts_folder.specs.declared.fault.Trouble.{Trouble}
use Rattle.ts_folder.specs.declared.fault.Trouble.TheVariants as trouble
use Rattle.ts_folder.specs.declared.folder.Call.{Call}
use Rattle.ts_folder.specs.declared.folder.Kind.{Kind}
use Rattle.ts_folder.specs.declared.folder.Kind.TheVariants as kind
use Rattle.ts_scan.specs.Scans.{Told}
use Rattle.ts_site.specs.declared.fault.SiteFault.{SiteFault}
use Rattle.ts_site.specs.declared.fault.SiteFault.TheVariants.{OutOfMemory, Device, Changed, Misfit}

abbrev pub HasPart : Tree → Part → Type 0
HasPart t part = listed part.rows ≡ sub (print_of t) part.top

-- a file is there
abbrev pub HasFile : Told → Path → Type 0
HasFile told p = IfSome told (λ tree. IsTreeBody tree × IsFile (at tree p))

-- the answer says whether the file there has the stamp
abbrev pub TellsStamp : Told → Path → Stamp → Bool → Type 0
TellsStamp told p stamp answer = IfSome told (λ tree. IsTrue answer ↔ (stamped (at tree p) ≡ File stamp))

-- where a file is there, an answer without a fault says whether it has the stamp
abbrev pub AnswersFile : {E : Type 0} → Told → Path → Stamp → Result Bool E → Type 0
AnswersFile told p stamp result = HasFile told p → IfOk result (TellsStamp told p stamp)

-- ---- rows

abbrev pub IsOf : Content Stamp → Kind → Type 0
IsOf x kind.Dir = x ≡ Dir
IsOf x kind.File = (stamp : Stamp) × (x ≡ File stamp)
IsOf x kind.Unseen = x ≢ Absent

-- a row says that this is there, of this kind
abbrev pub Says : Listing Stamp → Path → Kind → Type 0
Says rows p k = IsOf (listed rows p) k

-- the tree has a directory there, of which a row says each child
abbrev pub HasOnly : Tree → Listing Stamp → Path → Type 0
HasOnly t rows p = (t p ≡ Dir) × ((name : Name) (k : Kind) → HasKind (t (p ++ name ∷ [])) k → Says rows (p ++ name ∷ []) k)

abbrev pub HasAt : Tree → Listing Stamp → Path → Content Stamp → Type 0
HasAt t rows p Absent = Unit {0}
HasAt t rows p Dir = HasOnly t rows p
HasAt t rows p (File stamp) = stamped (t p) ≡ File stamp

abbrev pub Has : Tree → Listing Stamp → Row Stamp → Type 0
Has t rows row = HasAt t rows row.path row.content

-- the tree, where it is told, has what each row says
abbrev pub HasAll : Told → Listing Stamp → Type 0
HasAll told rows = IfSome told (λ tree. AllByRecursion (Has (at tree) rows) rows)

-- the tree, where it is told, hasn't what each row says
abbrev pub LacksSome : Told → Listing Stamp → Type 0
LacksSome told rows = IfSome told (λ tree. ¬ AllByRecursion (Has (at tree) rows) rows)

-- ---- faults

-- what isn't there, or is neither a directory nor a file, isn't what it was
abbrev pub site_fault : FolderFault → SiteFault
site_fault folder.OutOfMemory = OutOfMemory
site_fault folder.Device = Device
site_fault folder.NotThere = Changed
site_fault folder.Unreadable = Changed

abbrev pub MayEnd : (Trouble → Type 0) → Type 0 → SiteFault → Type 0
MayEnd troubles differs OutOfMemory = Unit {0}
MayEnd troubles differs Device = troubles trouble.Device
MayEnd troubles differs Changed = differs ⊎ troubles trouble.Unreadable
MayEnd troubles differs Misfit = ⊥

-- what a folder lets a call fail with, and that a file's metadata can't be had
abbrev pub Troubles : (Call → Path → Trouble → Type 0) → Trouble → Type 0
Troubles lets t = (t ≡ trouble.Device) ⊎ ((call : Call) × (p : Path) × lets call p t)
