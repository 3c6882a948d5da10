-- What a scan makes of a child when it opens it, put together.
use Rattle.std.proofs.Common.{◌≡◌, [], ◌∷◌, ◌++◌, IfSome, sym, subst, append-nil}
use Rattle.ts_name.specs.Paths.{Name, Path, IsPath}
use Rattle.ts_model.specs.Trees.{Listing, at}
use Rattle.ts_model.specs.declared.row.Content.TheVariants.{Dir}
use Rattle.ts_model.specs.declared.row.Stamp.{Stamp}
use Rattle.ts_folder.specs.Folders.{AreChildren, CanBe}
use Rattle.ts_folder.specs.declared.folder.Kind.{Kind}
use Rattle.ts_scan.specs.Openings.{IsListed}
use Rattle.ts_scan.specs.Scans.{Children, Told, ArePrinted, AreThere, Found, FoundIn, Adds}
use Rattle.ts_scan.proofs.Parts.{none_below}
use Rattle.ts_scan.proofs.Walks.{adds_below, are_there, map_some}

-- ---- a child that is gone

found_gone : (told : Told) (p : Path) (child : Name × Kind) → IfSome told (λ tree. ¬ CanBe (at tree (p ++ child.0 ∷ [])) child.1) → Found told p (child ∷ []) []
found_gone told p child gone = record {
  below = none_below p (child ∷ []);
  print = map_some (λ tree. ¬ CanBe (at tree (p ++ child.0 ∷ [])) child.1) (λ tree. AreThere (at tree) p (child ∷ []) → ArePrinted (at tree) p (child ∷ []) []) told
      (λ tree none there. absurd (none there.0)) gone;
}

-- it adds nothing
pub adds_gone :
    (told : Told) (p path : Path) (child : Name × Kind) (old : Listing Stamp) → path ≡ p ++ child.0 ∷ [] → IfSome told (λ tree. ¬ CanBe (at tree path) child.1) → Adds old old (Found told p (child ∷ []))
adds_gone told p path child old e gone =
    ([], sym (append-nil old), found_gone told p child (subst (λ z. IfSome told (λ tree. ¬ CanBe (at tree z) child.1)) e gone))

-- ---- a directory

-- what is found of its children is found in it
pub adds_inside : (told : Told) (p : Path) (children : Children) (old new : Listing Stamp) → IsListed told p children → Adds old new (Found told p children) → Adds old new (FoundIn told p)
adds_inside told p children old new is h =
    (h.0, h.1, record { children = children; lawful = is.lawful; all = is.all; found = h.2 })

-- with its row it is what is found of a child
pub adds_opened :
    (told : Told) (p path own : Path) (child : Name × Kind) (children : Children) (old mid new : Listing Stamp)
    → path ≡ p ++ child.0 ∷ [] → IsPath path → own ≡ path → IsListed told path children
    → mid ≡ old ++ record { path = own; content = Dir } ∷ [] → Adds mid new (Found told path children) → Adds old new (Found told p (child ∷ []))
adds_opened told p path own child children old mid new e lawful same is pushed h =
    adds_below told p path own child old mid new is.lawful e lawful same pushed (adds_inside told path children mid new is h)

-- its children are there
pub listed_there : (told : Told) (p : Path) (children : Children) → IsListed told p children → IfSome told (λ tree. AreThere (at tree) p children)
listed_there told p children is =
    map_some (λ tree. AreChildren (at tree) p children) (λ tree. AreThere (at tree) p children) told (λ tree are. are_there (at tree) p children are) is.all
