-- A tree's rows with stamps are a listing of its print.
use Rattle.std.proofs.Common.{◌≡◌, ◌≢◌, ℕ, Bool, true, false, cond, List, [], ◌∷◌, ◌++◌, refl, ap, sym, ◌∙◌, subst}
use Rattle.std.specs.List.{AllByRecursion}
use Rattle.ts_name.specs.Paths.{Path, IsPath, same_path}
use Rattle.ts_model.specs.declared.row.Content.{Content}
use Rattle.ts_model.specs.declared.row.Content.TheVariants.{Absent}
use Rattle.ts_model.specs.Trees.{Listing, Ascend, IsListing, at, listed, print_of, stamped}
use Rattle.ts_print.specs.Prints.{stamped_rows}
use Rattle.ts_model.proofs.Rows.{stamped_absent}

there_stamped : (x : Content (List ℕ)) → stamped x ≢ Absent → x ≢ Absent
there_stamped x there e = there (ap stamped e)

stamped_choice : (b : Bool) (x y : Content (List ℕ)) → stamped (cond b x y) ≡ cond b (stamped x) (stamped y)
stamped_choice true x y = refl
stamped_choice false x y = refl

-- what a stamped listing says is the stamp of what the listing says
pub listed-stamped : (rows : Listing (List ℕ)) (p : Path) → listed (stamped_rows rows) p ≡ stamped (listed rows p)
listed-stamped [] p = refl
listed-stamped (row ∷ rows) p =
    ap (cond (same_path row.path p) (stamped row.content)) (listed-stamped rows p) ∙ sym (stamped_choice (same_path row.path p) row.content (listed rows p))

pub at-stamped : (rows : Listing (List ℕ)) (p : Path) → at (stamped_rows rows) p ≡ print_of (at rows) p
at-stamped rows [] = refl
at-stamped rows (name ∷ names) = listed-stamped rows (name ∷ names)

pub ascend-stamped : (rows : Listing (List ℕ)) → Ascend rows → Ascend (stamped_rows rows)
ascend-stamped [] h = tt
ascend-stamped (row ∷ []) h = tt
ascend-stamped (row ∷ next ∷ rows) h = (h.0, ascend-stamped (next ∷ rows) h.1)

each-stamped : (rows : Listing (List ℕ)) → AllByRecursion (λ row. IsPath row.path × (row.path ≢ []) × (row.content ≢ Absent)) rows
    → AllByRecursion (λ row. IsPath row.path × (row.path ≢ []) × (row.content ≢ Absent)) (stamped_rows rows)
each-stamped [] h = tt
each-stamped (row ∷ rows) h = ((h.0.0, h.0.1, λ e. h.0.2 (stamped_absent row.content e)), each-stamped rows h.1)

pub IsListing-stamped : (rows : Listing (List ℕ)) → IsListing rows → IsListing (stamped_rows rows)
IsListing-stamped rows is = record {
  ascending = ascend-stamped rows is.ascending;
  rows_are = each-stamped rows is.rows_are;
  parents = λ p name there.
      at-stamped rows p ∙ ap stamped (is.parents p name (there_stamped _ (subst (λ x. x ≢ Absent) (at-stamped rows (p ++ name ∷ [])) there)));
}

-- the print of a listed tree
pub print-stamped : (rows : Listing (List ℕ)) → at (stamped_rows rows) ≡ print_of (at rows)
print-stamped rows = λ i. λ p. at-stamped rows p i
