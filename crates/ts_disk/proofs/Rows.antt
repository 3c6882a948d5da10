-- Rows that a tree has, one after another.
use Rattle.std.proofs.Common.{◌≡◌, ℕ, ◌+◌, ◌<◌, false, List, [], ◌∷◌, ◌++◌, length, get_or, take, IfSome, Result, Ok, Err, sym, ap, ◌∙◌, subst, length-append}
use Rattle.std.proofs.lemmas.List.Elements.{All-from_recursion}
use Rattle.std.specs.Bool.{if◌then◌else◌}
use Rattle.std.specs.List.{AllByRecursion}
use Rattle.std.specs.Result.{is_err, is_ok}
use Rattle.ts_model.specs.Trees.{Listing, at}
use Rattle.ts_model.specs.declared.row.Row.{Row}
use Rattle.ts_model.specs.declared.row.Stamp.{Stamp}
use Rattle.ts_folder.specs.declared.fault.Trouble.{Trouble}
use Rattle.ts_site.specs.declared.fault.SiteFault.{SiteFault}
use Rattle.ts_scan.specs.Scans.{Told}
use Rattle.ts_scan.proofs.Walks.{both_some, map_some}
use Rattle.ts_disk.specs.Compared.{Has, MayEnd}
use Rattle.ts_disk.proofs.Children.{all_more}
use Rattle.ts_disk.proofs.Ends.{ends_weaker}

-- one more row is there
pub has_more :
    (told : Told) (rows : Listing Stamp) (k : ℕ) (row : Row Stamp) → k < length rows → row ≡ get_or rows k row
    → IfSome told (λ tree. AllByRecursion (Has (at tree) rows) (take k rows)) → IfSome told (λ tree. Has (at tree) rows row)
    → IfSome told (λ tree. AllByRecursion (Has (at tree) rows) (take (k + 1) rows))
has_more told rows k row under is =
    both_some (λ tree. AllByRecursion (Has (at tree) rows) (take k rows)) (λ tree. Has (at tree) rows row) (λ tree. AllByRecursion (Has (at tree) rows) (take (k + 1) rows)) told
    (λ tree all has. all_more (Has (at tree) rows) rows k row under is all has)

-- one that isn't is missing from all
pub one_missing :
    (troubles : Trouble → Type 0) (told : Told) (rows : Listing Stamp) (k : ℕ) (row : Row Stamp) (e : SiteFault) → k < length rows → row ≡ get_or rows k row
    → MayEnd troubles (IfSome told (λ tree. ¬ Has (at tree) rows row)) e → MayEnd troubles (IfSome told (λ tree. ¬ AllByRecursion (Has (at tree) rows) rows)) e
one_missing troubles told rows k row e under is =
    ends_weaker troubles troubles _ _ e (λ t h. h)
    (map_some (λ tree. ¬ Has (at tree) rows row) (λ tree. ¬ AllByRecursion (Has (at tree) rows) rows) told
    (λ tree none all. none (subst (Has (at tree) rows) (sym is) (All-from_recursion (Has (at tree) rows) rows all k row under))))

-- one more look is kept
pub pushed :
    {A E X : Type 0} (r : Result A E) (looks new : List X) (look : X) (n : ℕ) → false ≡ is_err r → new ≡ (if is_ok r then looks ++ look ∷ [] else looks)
    → length looks ≡ n → length new ≡ n + 1
pushed (Ok a) looks new look n good e size = ap length e ∙ length-append looks (look ∷ []) ∙ ap (λ k. k + 1) size
pushed (Err b) looks new look n good e size = cc
