-- The children of a directory, of which rows say each or not.
use Rattle.std.proofs.Common.{◌≡◌, ℕ, ◌+◌, ◌<◌, List, [], ◌∷◌, ◌++◌, length, get_or, take, IfSome, IsTrue, ◌↔◌, Bool, false, ◌∙◌, refl, sym, ap, subst}
use Rattle.std.specs.List.{AllByRecursion}
use Rattle.std.proofs.lemmas.Bool.{false≢true}
use Rattle.std.proofs.lemmas.List.{take_more}
use Rattle.std.proofs.lemmas.List.Elements.{All-contains, All-from_recursion}
use Rattle.ts_name.specs.Paths.{Name, Path, IsPath}
use Rattle.ts_name.proofs.Utf8.{all_append}
use Rattle.ts_model.specs.Texts.{IsTreeBody}
use Rattle.ts_model.specs.Trees.{Listing, at, listed}
use Rattle.ts_model.specs.declared.row.Content.{Content}
use Rattle.ts_model.specs.declared.row.Content.TheVariants.{Absent, Dir, File}
use Rattle.ts_model.specs.declared.row.Stamp.{Stamp}
use Rattle.ts_folder.specs.Folders.{AreChildren}
use Rattle.ts_folder.proofs.Children.{can_be}
use Rattle.ts_folder.specs.declared.folder.Kind.{Kind}
use Rattle.ts_folder.specs.declared.folder.Kind.TheVariants as kind
use Rattle.ts_scan.specs.Scans.{Children, Told}
use Rattle.ts_scan.proofs.Walks.{both_some, child_path, map_some}
use Rattle.ts_disk.specs.Compared.{HasOnly, IsOf, Says}

-- a row says this child
abbrev pub IsSaid : Listing Stamp → Path → Name × Kind → Type 0
IsSaid rows p child = IsPath (p ++ child.0 ∷ []) × Says rows (p ++ child.0 ∷ []) child.1

-- the row that is found says whether it is
pub said_by_row :
    (rows : Listing Stamp) (p path : Path) (name : Name) (k : Kind) (x : Content Stamp) (b : Bool) → path ≡ p ++ name ∷ [] → IsPath path → x ≡ listed rows path
    → IsTrue b ↔ IsOf x k → IsTrue b ↔ IsSaid rows p (name, k)
said_by_row rows p path name k x b e is found tested = (
  (λ yes. (subst IsPath e is, subst (λ z. IsOf z k) (found ∙ ap (listed rows) e) (tested.0 yes))),
  (λ h. tested.1 (subst (λ z. IsOf z k) (sym (found ∙ ap (listed rows) e)) h.1)),
)

-- what is absent is of no kind
pub absent_is : (k : Kind) → IsTrue false ↔ IsOf Absent k
absent_is kind.Dir = ((λ h. absurd (false≢true h)), (λ e. let f : ◌≡◌ {A = Content Stamp} Absent Dir = e in cc))
absent_is kind.File = ((λ h. absurd (false≢true h)), (λ e. let f : ◌≡◌ {A = Content Stamp} Absent (File e.0) = e.1 in cc))
absent_is kind.Unseen = ((λ h. absurd (false≢true h)), (λ there. absurd (there refl)))

-- what holds of the first elements and of the next
pub all_more : {A : Type 0} (P : A → Type 0) (xs : List A) (k : ℕ) (x : A) → k < length xs → x ≡ get_or xs k x → AllByRecursion P (take k xs) → P x → AllByRecursion P (take (k + 1) xs)
all_more P xs k x under is all h = subst (AllByRecursion P) (sym (take_more xs k x under)) (all_append P (take k xs) (get_or xs k x ∷ []) all (subst P is h, tt))

-- all children are said
pub only_said :
    (told : Told) (rows : Listing Stamp) (p : Path) (children : Children) → IfSome told (λ tree. AreChildren (at tree) p children)
    → AllByRecursion (IsSaid rows p) children → IfSome told (λ tree. HasOnly (at tree) rows p)
only_said told rows p children are all =
    map_some (λ tree. AreChildren (at tree) p children) (λ tree. HasOnly (at tree) rows p) told
    (λ tree of. (of.directory, (λ name k kind. (All-contains (IsSaid rows p) children (name, k) (All-from_recursion (IsSaid rows p) children all) ((of.each name k).1 kind)).1))) are

-- one child isn't
pub one_unsaid :
    (told : Told) (rows : Listing Stamp) (p : Path) (children : Children) (k : ℕ) (child : Name × Kind) → k < length children → child ≡ get_or children k child
    → IfSome told IsTreeBody → IfSome told (λ tree. AreChildren (at tree) p children) → ¬ IsSaid rows p child → IfSome told (λ tree. ¬ HasOnly (at tree) rows p)
one_unsaid told rows p children k child under is lawful are unsaid =
    both_some IsTreeBody (λ tree. AreChildren (at tree) p children) (λ tree. ¬ HasOnly (at tree) rows p) told
    (λ tree body of only. let kind = (of.each child.0 child.1).0 (k, under, sym is) in unsaid (child_path tree p child body (can_be (at tree (p ++ child.0 ∷ [])) child.1 kind), only.1 child.0 child.1 kind)) lawful are
