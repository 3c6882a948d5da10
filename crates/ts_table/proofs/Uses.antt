-- What callers need: what is at a path has one listing, and when edits may follow one another.
use Rattle.std.proofs.Common.{◌≡◌, ◌≢◌, [], ◌∷◌, ◌++◌, Option, Some, None, refl, sym, ap, ◌∙◌, subst, append_assoc, append-nil}
use Rattle.std.specs.List.{AllByRecursion}
use Rattle.ts_name.specs.Paths.{Name, Path, IsPath, IsAbove, IsBefore, below}
use Rattle.ts_model.specs.Trees.{Listing, listed, IsSubListing}
use Rattle.ts_model.specs.Runs.{graft}
use Rattle.ts_model.specs.declared.row.Content.{Content}
use Rattle.ts_model.specs.declared.row.Content.TheVariants.{Absent, Dir}
use Rattle.ts_model.specs.declared.row.Row.{Row}
use Rattle.ts_table.specs.Tables.{placed, IsPlace}
use Rattle.ts_name.proofs.Prefixes.{below_gives}
use Rattle.ts_name.proofs.Order.{below_before}
use Rattle.ts_name.proofs.Basics.{at_each, weaker}
use Rattle.ts_table.proofs.Rows.{placed_below}
use Rattle.ts_model.proofs.Listings.{one_listed}

-- ---- one listing

-- and so has what is at a path and below it
pub one_sub_listing : {F : Type 0} (xs ys : Listing F) → IsSubListing xs → IsSubListing ys → listed xs ≡ listed ys → xs ≡ ys
one_sub_listing {F} xs ys of_x of_y same = one_listed xs ys of_x.ascending of_y.ascending (some xs of_x) (some ys of_y) (at_each same)
  where
    some : (rows : Listing F) → IsSubListing rows → AllByRecursion (λ row. row.content ≢ Absent) rows
    some rows lists = weaker (λ (row : Row F). IsPath row.path × (row.content ≢ Absent)) (λ row. row.content ≢ Absent) (λ row h. h.1) rows lists.rows_are

-- ---- edits that follow one another

-- rows put down at a path come before a later path that isn't below it
pub placed_before : {F : Type 0} (p q : Path) (part : Listing F) → IsBefore p q → (¬ IsAbove p q) → AllByRecursion (λ row. IsBefore row.path q) (placed p part)
placed_before {F} p q part before off =
    weaker (λ (row : Row F). IsAbove p row.path) (λ row. IsBefore row.path q) (λ row above. subst (λ z. IsBefore z q) (sym above.1) (below_before p above.0 q before off)) (placed p part) (placed_below p part)

-- a bare directory comes before each later path
pub dir_before : (F : Type 0) (p q : Path) → IsBefore p q → AllByRecursion (λ row. IsBefore row.path q) (placed {F = F} p (record { path = []; content = Dir } ∷ []))
dir_before F p q before = (subst (λ z. IsBefore z q) (sym (append-nil p)) before, tt)

-- an edit leaves the places that aren't below it
pub IsPlace-graft : {F : Type 0} (t content : Path → Content F) (p q : Path) → (¬ IsAbove p q) → IsPlace t q → IsPlace (graft t p content) q
IsPlace-graft {F} t content p q off place = record { not_root = place.not_root; parent = parent }
  where
    parent : (parent : Path) (name : Name) → q ≡ parent ++ name ∷ [] → graft t p content parent ≡ Dir
    parent r name is = go (below p r) refl
      where
        go : (o : Option Path) → below p r ≡ o → ◌≡◌ {A = Content F} (elim o [ None ↦ t r | Some rest ↦ content rest ]) Dir
        go None e = place.parent r name is
        go (Some rest) e = absurd (off (rest ++ name ∷ [], is ∙ ap (λ z. z ++ name ∷ []) (below_gives p r rest e) ∙ append_assoc p rest (name ∷ [])))
