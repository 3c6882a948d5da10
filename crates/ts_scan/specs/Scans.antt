-- What a scan finds in a directory.
--     IsUnder p children q             q is one of these children of p, or below one
--     AreBelow p children rows         the rows may be all that is under these children
--     ArePrinted t p children rows     and they are what the print of t has there
--     Found told p children rows       the rows that a scan of these children finds
--     FoundIn told p rows              the rows that a scan of the directory p finds
use Rattle.std.specs.Prelude.{◌≡◌, ◌≢◌, ◌⊎◌, ℕ, List, [], ◌∷◌, ◌++◌, Option, IfSome}
use Rattle.std.specs.List.{AllByRecursion}
use Rattle.ts_name.specs.Paths.{Name, Path, IsPath, IsAbove}
use Rattle.ts_model.specs.Texts.{IsTreeBody}
use Rattle.ts_model.specs.Trees.{Tree, Listing, Ascend, at, listed, stamped}
use Rattle.ts_model.specs.declared.row.Content.TheVariants.{Absent, Dir}
use Rattle.ts_model.specs.declared.row.Stamp.{Stamp}
use Rattle.ts_folder.specs.Folders.{AreChildren, CanBe}
use Rattle.ts_folder.specs.declared.folder.Kind.{Kind}

abbrev pub Children : Type 0
Children = List (Name × Kind)

-- the tree that a folder tells, if it tells one
abbrev pub Told : Type 0
Told = Option (Listing (List ℕ))

abbrev pub IsUnder : Path → Children → Path → Type 0
IsUnder p [] q = ⊥
IsUnder p (child ∷ children) q = IsAbove (p ++ child.0 ∷ []) q ⊎ IsUnder p children q

pub record AreBelow (p : Path) (children : Children) (rows : Listing Stamp) : Type 0 where
  pub ascending : Ascend rows
  pub rows_are : AllByRecursion (λ row. IsPath row.path × (row.content ≢ Absent) × IsUnder p children row.path) rows
  pub parents : (q : Path) (name : Name) → listed rows (q ++ name ∷ []) ≢ Absent → (q ≡ p) ⊎ (listed rows q ≡ Dir)

abbrev pub ArePrinted : Tree → Path → Children → Listing Stamp → Type 0
ArePrinted t p children rows = (q : Path) → IsUnder p children q → listed rows q ≡ stamped (t q)

-- the children are there, each of its kind
abbrev pub AreThere : Tree → Path → Children → Type 0
AreThere t p children = AllByRecursion (λ child. CanBe (t (p ++ child.0 ∷ [])) child.1) children

pub record Found (told : Told) (p : Path) (children : Children) (rows : Listing Stamp) : Type 0 where
  pub below : AreBelow p children rows
  pub print : IfSome told (λ tree. AreThere (at tree) p children → ArePrinted (at tree) p children rows)

pub record FoundIn (told : Told) (p : Path) (rows : Listing Stamp) : Type 0 where
  pub children : Children
  pub lawful : IfSome told IsTreeBody
  pub all : IfSome told (λ tree. AreChildren (at tree) p children)
  pub found : Found told p children rows

-- more is added to the old rows
abbrev pub Adds : Listing Stamp → Listing Stamp → (Listing Stamp → Type 0) → Type 0
Adds old new P = (more : Listing Stamp) × (new ≡ old ++ more) × P more
