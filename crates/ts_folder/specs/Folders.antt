-- What the calls of a folder answer.
--     InOrder names              each name comes after the one before it
--     HasKind x k                what is there was seen to be of this kind
--     CanBe x k                  what is there is of this kind, or is there at least where that is unseen
--     AreChildren t p names      the names in the directory p, each with its kind, which was seen
--     range bytes offset n       the bytes from the offset on, n of them, or fewer where they end before
--     Reads x offset n bytes     these are so many bytes of the file x
--     Fills x offset buffer n    the buffer begins with n bytes of the file x, as many as fit
--     IsMissing told p           nothing is at the path, where the folder tells its tree
--     MayAnswer lets missing     which faults a call may answer
use Rattle.std.specs.Prelude.{◌≡◌, ◌≢◌, ℕ, List, [], ◌∷◌, ◌++◌, ◌↔◌, length, take, drop, Contains, Option, IfSome}
use Rattle.std.specs.declared.cmp.Ordering.TheVariants.{Less}
use Rattle.std.specs.Cmp.Lexicographic.{slice_cmp}
use Rattle.std.specs.Ordering.{nat_cmp}
use Rattle.ts_name.specs.Paths.{Name, Path}
use Rattle.ts_model.specs.Trees.{Listing, Tree, at}
use Rattle.ts_model.specs.declared.row.Content.{Content}
use Rattle.ts_model.specs.declared.row.Content.TheVariants.{Absent, Dir, File}
use Rattle.ts_folder.specs.declared.fault.FolderFault.{FolderFault}
use Rattle.ts_folder.specs.declared.fault.FolderFault.TheVariants as fault
use Rattle.ts_folder.specs.declared.fault.Trouble.{Trouble}
use Rattle.ts_folder.specs.declared.fault.Trouble.TheVariants as trouble
use Rattle.ts_folder.specs.declared.folder.Kind.{Kind}
use Rattle.ts_folder.specs.declared.folder.Kind.TheVariants as kind

abbrev pub IsFile : Content (List ℕ) → Type 0
IsFile x = (bytes : List ℕ) × (x ≡ File bytes)

abbrev pub HasKind : Content (List ℕ) → Kind → Type 0
HasKind x kind.Dir = x ≡ Dir
HasKind x kind.File = IsFile x
HasKind x kind.Unseen = ⊥

abbrev pub CanBe : Content (List ℕ) → Kind → Type 0
CanBe x kind.Dir = x ≡ Dir
CanBe x kind.File = IsFile x
CanBe x kind.Unseen = x ≢ Absent

abbrev pub InOrder : List (Name × Kind) → Type 0
InOrder [] = Unit {0}
InOrder (child ∷ []) = Unit {0}
InOrder (child ∷ next ∷ names) = (slice_cmp nat_cmp child.0 next.0 ≡ Less) × InOrder (next ∷ names)

pub record AreChildren (t : Tree) (p : Path) (names : List (Name × Kind)) : Type 0 where
  pub directory : t p ≡ Dir
  pub each : (name : Name) (k : Kind) → Contains names (name, k) ↔ HasKind (t (p ++ name ∷ [])) k

abbrev pub range : List ℕ → ℕ → ℕ → List ℕ
range bytes offset n = take n (drop offset bytes)

pub record Reads (x : Content (List ℕ)) (offset n : ℕ) (answer : List ℕ) : Type 0 where
  pub bytes : List ℕ
  pub file : x ≡ File bytes
  pub answered : answer ≡ range bytes offset n

abbrev pub Fills : Content (List ℕ) → ℕ → List ℕ → ℕ → Type 0
Fills x offset buffer n = Reads x offset (length buffer) (take n buffer)

abbrev pub IsMissing : Option (Listing (List ℕ)) → Path → Type 0
IsMissing told p = IfSome told (λ rows. at rows p ≡ Absent)

-- out of memory at any time, the folder's own troubles where it lets them, and that nothing is there for a reason
abbrev pub MayAnswer : (Trouble → Type 0) → Type 0 → FolderFault → Type 0
MayAnswer lets missing fault.OutOfMemory = Unit {0}
MayAnswer lets missing fault.Device = lets trouble.Device
MayAnswer lets missing fault.NotThere = missing
MayAnswer lets missing fault.Unreadable = lets trouble.Unreadable
