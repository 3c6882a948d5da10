-- What would become of entries, one after another.
use Rattle.std.proofs.Common.{◌≡◌, ◌∙◌, ℕ, ◌+◌, ◌<◌, List, [], ◌∷◌, ◌++◌, length, get_or, take, ap, sym, add-one}
use Rattle.std.proofs.Math.Seq.{take-suc}
use Rattle.ts_model.specs.Trees.{Listing}
use Rattle.ts_model.specs.declared.plan.Entry.{Entry}
use Rattle.ts_model.specs.declared.row.Stamp.{Stamp}
use Rattle.ts_preview.specs.Outlooks.{AreOutlooks, IsOutlook}
use Rattle.ts_preview.specs.declared.outlook.Outlook.{Outlook}

pub one_more : (archive first second : Listing Stamp) (entries : List Entry) (all : List Outlook) (entry : Entry) (o : Outlook)
    → AreOutlooks archive first second entries all → IsOutlook archive first second entry o
    → AreOutlooks archive first second (entries ++ entry ∷ []) (all ++ o ∷ [])
one_more archive first second [] [] entry o are is = (is, tt)
one_more archive first second [] (x ∷ xs) entry o are is = absurd are
one_more archive first second (e ∷ es) [] entry o are is = absurd are
one_more archive first second (e ∷ es) (x ∷ xs) entry o are is = (are.0, one_more archive first second es xs entry o are.1 is)

pub taken_more : (entries : List Entry) (i : ℕ) (entry : Entry) → i < length entries → entry ≡ get_or entries i entry → take (i + 1) entries ≡ take i entries ++ entry ∷ []
taken_more entries i entry within is =
    rw add-one (take-suc entries i entry within ∙ ap (λ (e : Entry). take i entries ++ e ∷ []) (sym is))
