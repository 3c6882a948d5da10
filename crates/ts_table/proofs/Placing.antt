-- Rows that are placed one after another.
use Rattle.std.proofs.Common.{◌≡◌, ℕ, ◌+◌, ◌<◌, [], ◌∷◌, ◌++◌, length, get_or, take, refl, sym, ap, ◌∙◌, subst}
use Rattle.std.proofs.lemmas.List.{take_more}
use Rattle.std.specs.List.{AllByRecursion}
use Rattle.ts_name.specs.Paths.{Path, IsPath}
use Rattle.ts_model.specs.Trees.{Listing}
use Rattle.ts_model.specs.declared.row.Row.{Row}
use Rattle.ts_table.specs.Tables.{placed}
use Rattle.ts_name.proofs.Utf8.{all_append, all_parts}

-- rows are placed part by part
pub placed_append : {F : Type 0} (p : Path) (xs ys : Listing F) → placed p (xs ++ ys) ≡ placed p xs ++ placed p ys
placed_append p [] ys = refl
placed_append p (x ∷ xs) ys = ap (λ z. record { path = p ++ x.path; content = x.content } ∷ z) (placed_append p xs ys)

-- one more row
pub placed_push : {F : Type 0} (p : Path) (xs : Listing F) (row : Row F) → placed p (xs ++ row ∷ []) ≡ placed p xs ++ record { path = p ++ row.path; content = row.content } ∷ []
placed_push p xs row = placed_append p xs (row ∷ [])

-- whose path is one too
pub paths_push : {F : Type 0} (p : Path) (xs : Listing F) (row : Row F) → AllByRecursion (λ row. IsPath row.path) (placed p xs) → IsPath (p ++ row.path) → AllByRecursion (λ row. IsPath row.path) (placed p (xs ++ row ∷ []))
paths_push {F} p xs row all one = subst (λ z. AllByRecursion (λ (row : Row F). IsPath row.path) z) (sym (placed_push p xs row)) (all_append (λ (row : Row F). IsPath row.path) (placed p xs) _ all (one, tt))

-- the row at an index after those before it
pub placed_more : {F : Type 0} (p : Path) (rows : Listing F) (i : ℕ) (row : Row F) → i < length rows → row ≡ get_or rows i row → placed p (take (i + 1) rows) ≡ placed p (take i rows) ++ record { path = p ++ row.path; content = row.content } ∷ []
placed_more p rows i row under is = ap (placed p) (take_more rows i row under ∙ ap (λ z. take i rows ++ z ∷ []) (sym is)) ∙ placed_push p (take i rows) row

-- where one isn't, not all are
pub past_limit : {F : Type 0} (p : Path) (all xs ys : Listing F) (row : Row F) → all ≡ xs ++ row ∷ ys → ¬ IsPath (p ++ row.path) → ¬ AllByRecursion (λ row. IsPath row.path) (placed p all)
past_limit {F} p all xs ys row is bad h =
    let parts = subst (λ z. AllByRecursion (λ (row : Row F). IsPath row.path) z) (ap (placed p) is ∙ placed_append p xs (row ∷ ys)) h in
    let rest = (all_parts (λ (row : Row F). IsPath row.path) (placed p xs) (placed p (row ∷ ys)) parts).1 in bad rest.0
