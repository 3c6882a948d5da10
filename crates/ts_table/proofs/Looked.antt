-- What a search by halving finds in the rows of a content.
use Rattle.std.proofs.Common.{◌≡◌, ◌≢◌, ℕ, ◌<◌, ◌≤◌, ◌++◌, length, get_or, take, drop, Less, Equal, Greater, sym, ap, ◌∙◌, subst}
use Rattle.std.proofs.lemmas.Cmp.{tied_itself}
use Rattle.std.proofs.lemmas.List.{take-append-drop}
use Rattle.std.specs.List.{AllByRecursion}
use Rattle.std.specs.List.Sorted.{IsPartitionPoint}
use Rattle.ts_name.specs.Paths.{Path, path_cmp}
use Rattle.ts_model.specs.Trees.{Listing, listed, Ascend}
use Rattle.ts_model.specs.declared.row.Content.TheVariants.{Absent}
use Rattle.ts_model.specs.declared.row.Row.{Row}
use Rattle.ts_name.specs.Laws.{path_total, tied_paths}
use Rattle.ts_name.proofs.Utf8.{all_append}
use Rattle.ts_name.proofs.Basics.{weaker}
use Rattle.ts_table.proofs.Rows.{all_before, all_from}
use Rattle.ts_table.proofs.Listings.{listed_at}
use Rattle.ts_model.proofs.Listings.{listed_none}

-- a row of the path says what is listed
pub listed_found : {F : Type 0} (rows : Listing F) (p : Path) (i : ℕ) (row : Row F) → Ascend rows → i < length rows → row ≡ get_or rows i row → path_cmp (get_or rows i row).path p ≡ Equal → row.content ≡ listed rows p
listed_found rows p i row up under is tied = ap (λ r. r.content) is ∙ sym (listed_at rows i row up under) ∙ ap (listed rows) (tied_paths (get_or rows i row).path p tied)

-- where rows come before it up to a place and after it from there on, nothing is listed
pub not_listed : {F : Type 0} (rows : Listing F) (p : Path) (i : ℕ) → i ≤ length rows → IsPartitionPoint (λ row. path_cmp row.path p ≡ Less) (λ row. path_cmp row.path p ≡ Greater) rows i → Absent ≡ listed rows p
not_listed {F} rows p i under parted = sym (ap (λ z. listed z p) (sym (take-append-drop i rows)) ∙ listed_none (take i rows ++ drop i rows) p differ)
  where
    tied : (row : Row F) → row.path ≡ p → path_cmp row.path p ≡ Equal
    tied row e = subst (λ z. path_cmp z p ≡ Equal) (sym e) (tied_itself path_total p)

    differ : AllByRecursion (λ row. row.path ≢ p) (take i rows ++ drop i rows)
    differ = all_append (λ (row : Row F). row.path ≢ p) (take i rows) (drop i rows)
        (weaker (λ (row : Row F). path_cmp row.path p ≡ Less) (λ row. row.path ≢ p) (λ row h e. let f = tied row e in cc) (take i rows) (all_before _ rows i under parted.0))
        (weaker (λ (row : Row F). path_cmp row.path p ≡ Greater) (λ row. row.path ≢ p) (λ row h e. let f = tied row e in cc) (drop i rows) (all_from _ rows i under parted.1))
