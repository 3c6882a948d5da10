-- What the comparison of a part answers over a folder that tells a tree.
use Rattle.std.proofs.Common.{◌≡◌, ◌≢◌, ◌==◌, Bool, true, false, List, [], ◌∷◌, length, Some, None, Result, Ok, Err, IfOk, IfSome, IsTrue, ◌↔◌, eqb-true, refl, sym, ◌∙◌, ap, subst}
use Rattle.std.proofs.lemmas.Bool.{false≢true}
use Rattle.std.proofs.lemmas.List.{nil_from_length}
use Rattle.std.specs.List.{AllByRecursion}
use Rattle.ts_name.specs.Paths.{Path}
use Rattle.ts_model.specs.Texts.{IsTreeBody}
use Rattle.ts_model.specs.Trees.{Listing, at}
use Rattle.ts_model.specs.declared.row.Content.TheVariants.{Absent}
use Rattle.ts_model.specs.declared.row.Stamp.{Stamp}
use Rattle.ts_print.specs.Parts.{Part}
use Rattle.ts_scan.specs.Scans.{Told}
use Rattle.ts_site.specs.declared.fault.SiteFault.{SiteFault}
use Rattle.ts_scan.proofs.Walks.{both_some, closed, map_some}
use Rattle.ts_disk.specs.Compared.{Has, HasOnly, HasPart}
use Rattle.ts_disk.proofs.Compared.{AreLent, nothing_has_part, part_has_rows, part_is_nothing, part_of_root, place_has_part, root_has_part}

-- ---- the root

pub root_same :
    (told : Told) (part : Part) (rows : Listing Stamp) (top : Path) → AreLent part rows → top ≡ part.top → part.top ≡ [] → IfSome told IsTreeBody
    → IfSome told (λ tree. HasOnly (at tree) rows top) → IfSome told (λ tree. AllByRecursion (Has (at tree) rows) rows) → IfSome told (λ tree. HasPart (at tree) part)
root_same None part rows top lent same root body only all = tt
root_same (Some tree) part rows top lent same root body only all = root_has_part (at tree) part rows (closed tree body) lent root (subst (HasOnly (at tree) rows) (same ∙ root) only) all

pub root_differs :
    (told : Told) (part : Part) (rows : Listing Stamp) (top : Path) → AreLent part rows → top ≡ part.top → part.top ≡ []
    → IfSome told (λ tree. ¬ HasOnly (at tree) rows top) → IfSome told (λ tree. ¬ HasPart (at tree) part)
root_differs told part rows top lent same root =
    map_some (λ tree. ¬ HasOnly (at tree) rows top) (λ tree. ¬ HasPart (at tree) part) told
    (λ tree none has. none (subst (HasOnly (at tree) rows) (sym (same ∙ root)) (part_of_root (at tree) part rows lent root refl has)))

-- ---- rows

pub rows_differ :
    (told : Told) (part : Part) (rows : Listing Stamp) → AreLent part rows → IfSome told (λ tree. ¬ AllByRecursion (Has (at tree) rows) rows)
    → IfSome told (λ tree. ¬ HasPart (at tree) part)
rows_differ told part rows lent =
    map_some (λ tree. ¬ AllByRecursion (Has (at tree) rows) rows) (λ tree. ¬ HasPart (at tree) part) told
    (λ tree none has. none (part_has_rows (at tree) part rows lent has))

rows_same :
    (told : Told) (part : Part) (rows : Listing Stamp) → AreLent part rows → part.top ≢ [] → rows ≢ []
    → AllByRecursion (λ row. row.content ≢ Absent → IfSome told IsTreeBody) rows → IfSome told (λ tree. AllByRecursion (Has (at tree) rows) rows)
    → IfSome told (λ tree. HasPart (at tree) part)
rows_same told part [] lent below_root some bodies all = absurd (some refl)
rows_same told part (row ∷ rows) lent below_root some bodies all =
    both_some IsTreeBody (λ tree. AllByRecursion (Has (at tree) (row ∷ rows)) (row ∷ rows)) (λ tree. HasPart (at tree) part) told
    (λ tree body has. place_has_part (at tree) part (row ∷ rows) (closed tree body) lent below_root some has) (bodies.0 lent.each.0.2) all

pub rows_same_there :
    {T : Type 0} (told : Told) (part : Part) (rows : Listing Stamp) (r : Result T SiteFault) → AreLent part rows → part.top ≢ [] → rows ≢ []
    → IfOk r (λ _. AllByRecursion (λ row. row.content ≢ Absent → IfSome told IsTreeBody) rows)
    → IfOk r (λ _. IfSome told (λ tree. AllByRecursion (Has (at tree) rows) rows)) → IfOk r (λ _. IfSome told (λ tree. HasPart (at tree) part))
rows_same_there told part rows (Ok looks) lent below_root some bodies all = rows_same told part rows lent below_root some bodies all
rows_same_there told part rows (Err e) lent below_root some bodies all = tt

-- whether there are rows
pub emptied : {A : Type 0} (rows : List A) (r : Bool) → r ≡ (length rows == 0) → r ≡ true → rows ≡ []
emptied rows r tested is = nil_from_length rows (eqb-true (length rows) 0 (sym tested ∙ is))

pub filled : {A : Type 0} (rows : List A) (r : Bool) → r ≡ (length rows == 0) → r ≡ false → rows ≢ []
filled rows r tested not none = false≢true (sym not ∙ tested ∙ ap (λ z. length z == 0) none)

-- ---- nothing

pub nothing_same :
    (told : Told) (part : Part) (rows : Listing Stamp) (top : Path) (b : Bool) → AreLent part rows → top ≡ part.top → part.top ≢ [] → rows ≡ [] → IsTrue b
    → IfSome told IsTreeBody → IfSome told (λ tree. IsTrue b ↔ (at tree top ≡ Absent)) → IfSome told (λ tree. HasPart (at tree) part)
nothing_same told part rows top b lent same below_root none is =
    both_some IsTreeBody (λ tree. IsTrue b ↔ (at tree top ≡ Absent)) (λ tree. HasPart (at tree) part) told
    (λ tree body tested. nothing_has_part (at tree) part (closed tree body) (subst (AreLent part) none lent) below_root (ap (at tree) (sym same) ∙ tested.0 is))

pub nothing_differs :
    (told : Told) (part : Part) (rows : Listing Stamp) (top : Path) (b : Bool) → AreLent part rows → top ≡ part.top → part.top ≢ [] → rows ≡ [] → b ≡ false
    → IfSome told (λ tree. IsTrue b ↔ (at tree top ≡ Absent)) → IfSome told (λ tree. ¬ HasPart (at tree) part)
nothing_differs told part rows top b lent same below_root none not =
    map_some (λ tree. IsTrue b ↔ (at tree top ≡ Absent)) (λ tree. ¬ HasPart (at tree) part) told
    (λ tree tested has. false≢true (sym not ∙ tested.1 (ap (at tree) same ∙ part_is_nothing (at tree) part (subst (AreLent part) none lent) below_root has)))
