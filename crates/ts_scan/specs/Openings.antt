-- What a scan makes of a child when it opens it.
--     IsChildOf p q                   q goes on from p by one name
--     IsOpened told q kind opened     of the child at q that was listed with this kind
--     kind_under children name        the kind that a listing has for a name
use Rattle.std.specs.Prelude.{◌≡◌, [], ◌∷◌, ◌++◌, Option, IfSome}
use Rattle.std.specs.List.{find}
use Rattle.std.specs.Option.{option_map}
use Rattle.ts_name.specs.Paths.{Name, Path, same_name}
use Rattle.ts_model.specs.Texts.{IsTreeBody}
use Rattle.ts_model.specs.Trees.{at}
use Rattle.ts_folder.specs.Folders.{AreChildren, CanBe, InOrder}
use Rattle.ts_folder.specs.declared.folder.Kind.{Kind}
use Rattle.ts_scan.specs.Files.{HasStamp}
use Rattle.ts_scan.specs.Scans.{Children, Told}
use Rattle.ts_scan.specs.declared.opened.Opened.{Opened}
use Rattle.ts_scan.specs.declared.opened.Opened.TheVariants.{Gone, File, Dir}

abbrev pub IsChildOf : Path → Path → Type 0
IsChildOf p q = (name : Name) × (q ≡ p ++ name ∷ [])

-- a directory's children, in order
pub record IsListed (told : Told) (q : Path) (children : Children) : Type 0 where
  pub order : InOrder children
  pub lawful : IfSome told IsTreeBody
  pub all : IfSome told (λ tree. AreChildren (at tree) q children)

-- what is gone isn't of its listed kind
abbrev pub IsOpened : Told → Path → Kind → Opened → Type 0
IsOpened told q kind Gone = IfSome told (λ tree. ¬ CanBe (at tree q) kind)
IsOpened told q kind (File stamp) = IfSome told (λ tree. HasStamp (at tree q) stamp)
IsOpened told q kind (Dir children) = IsListed told q children.items

abbrev pub kind_under : Children → Name → Option Kind
kind_under children name = option_map (λ child. child.1) (find (λ child. same_name child.0 name) children)
