-- The rows of a part with their whole paths, as a print lends them.
use Rattle.std.proofs.Common.{◌≡◌, ◌≢◌, Bool, true, false, cond, [], ◌∷◌, refl, sym, subst}
use Rattle.std.specs.List.{AllByRecursion}
use Rattle.ts_name.specs.Paths.{Path, IsPath, IsAbove}
use Rattle.ts_model.specs.Trees.{Listing, Ascend, IsListing}
use Rattle.ts_model.specs.declared.row.Content.TheVariants.{Absent}
use Rattle.ts_model.specs.declared.row.Row.{Row}
use Rattle.ts_table.specs.Tables.{is_above, rows_below}
use Rattle.ts_table.proofs.Listings.{filter_ascend, is_above_gives}

-- each row below a path stands at it or below it, and none is that of the root
each_below : {F : Type 0} (p : Path) (rows : Listing F) → AllByRecursion (λ row. IsPath row.path × (row.path ≢ []) × (row.content ≢ Absent)) rows → AllByRecursion (λ row. IsAbove p row.path × (row.path ≢ []) × (row.content ≢ Absent)) (rows_below p rows)
each_below p [] h = tt
each_below {F} p (row ∷ rows) h = go (is_above p row.path) refl (each_below p rows h.1)
  where
    go : (b : Bool) → is_above p row.path ≡ b → AllByRecursion (λ (row : Row F). IsAbove p row.path × (row.path ≢ []) × (row.content ≢ Absent)) (rows_below p rows) → AllByRecursion (λ (row : Row F). IsAbove p row.path × (row.path ≢ []) × (row.content ≢ Absent)) (cond b (row ∷ rows_below p rows) (rows_below p rows))
    go true e more = ((is_above_gives p row.path e, h.0.1, h.0.2), more)
    go false e more = more

pub lent_each : {F : Type 0} (p : Path) (rows lent : Listing F) → IsListing rows → lent ≡ rows_below p rows → AllByRecursion (λ row. IsAbove p row.path × (row.path ≢ []) × (row.content ≢ Absent)) lent
lent_each {F} p rows lent lists e = subst (AllByRecursion (λ (row : Row F). IsAbove p row.path × (row.path ≢ []) × (row.content ≢ Absent))) (sym e) (each_below p rows lists.rows_are)

pub lent_order : {F : Type 0} (p : Path) (rows lent : Listing F) → IsListing rows → lent ≡ rows_below p rows → Ascend lent
lent_order p rows lent lists e = subst Ascend (sym e) (filter_ascend (λ row. is_above p row.path) rows lists.ascending)
