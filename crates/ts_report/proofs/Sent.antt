-- The lines of entries and their fates, one by one.
use Rattle.std.proofs.Common.{◌≡◌, ℕ, ◌+◌, ◌<◌, suc, List, [], ◌∷◌, ◌++◌, length, drop, get_or, sym, ap₂, add-one, drop-cons}
use Rattle.ts_model.specs.declared.plan.Entry.{Entry}
use Rattle.ts_report.specs.declared.fate.Fate.{Fate}
use Rattle.ts_report.specs.Reports.{fate_line, fate_lines}

-- an entry with its fate, and those after it
pub fates_step : (entries : List Entry) (all : List Fate) (i : ℕ) (entry : Entry) (became : Fate) → i < length entries → i < length all → entry ≡ get_or entries i entry → became ≡ get_or all i became
    → fate_lines (drop i entries) (drop i all) ≡ (fate_line entry became ∷ []) ++ fate_lines (drop (i + 1) entries) (drop (i + 1) all)
fates_step entries all i entry became within within' is is' =
    rw (add-one, drop-cons entries i entry within, drop-cons all i became within')
    (ap₂ (λ (e : Entry) (f : Fate). fate_line e f ∷ fate_lines (drop (suc i) entries) (drop (suc i) all)) (sym is) (sym is'))
