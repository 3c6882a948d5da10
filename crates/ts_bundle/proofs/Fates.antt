-- The report of a run in which every action was done, by what became of each entry.
use Rattle.std.proofs.Common.{◌≡◌, ℕ, ◌+◌, suc, Bool, true, false, cond, List, [], ◌∷◌, ◌++◌, length, map, codes, count_by, refl, sym, ap, ap₂, ◌∙◌}
use Rattle.std.proofs.lemmas.List.Sums.{sum_by-cons}
use Rattle.std.specs.Fmt.{digits}
use Rattle.ts_name.specs.Paths.{path_text}
use Rattle.ts_model.specs.Sync.{is_skipped}
use Rattle.ts_model.specs.Texts.{words, reason_text}
use Rattle.ts_model.specs.Trial.{report_line, total_line}
use Rattle.ts_model.specs.declared.plan.Entry.{Entry}
use Rattle.ts_report.specs.Fates.{fate_word, same_fate}
use Rattle.ts_report.specs.Reports.{fate_line, fate_lines, report_lines, totals_of}
use Rattle.ts_report.specs.Reports as report
use Rattle.ts_report.specs.declared.fate.Fate.{Fate}
use Rattle.ts_report.specs.declared.fate.Fate.TheVariants.{Skipped, Done, Failed, Blocked}
use Rattle.ts_bundle.specs.Results.{fate_of}

pub fates_length : (entries : List Entry) → length (map (λ (entry : Entry). fate_of entry.reason) entries) ≡ length entries
fates_length [] = refl
fates_length (entry ∷ entries) = ap suc (fates_length entries)

-- ---- the lines of entries

same_word : (skipped : Bool) → fate_word (cond skipped Skipped Done) ≡ cond skipped (codes "skip") (codes "done")
same_word true = refl
same_word false = refl

same_line : (entry : Entry) → fate_line entry (fate_of entry.reason) ≡ report_line entry
same_line entry = ap (λ word. words (word ∷ reason_text entry.reason ∷ path_text entry.path ∷ [])) (same_word (is_skipped entry.reason))

same_lines : (entries : List Entry) → fate_lines entries (map (λ (entry : Entry). fate_of entry.reason) entries) ≡ map report_line entries
same_lines [] = refl
same_lines (entry ∷ entries) = ap₂ (λ line lines. line ∷ lines) (same_line entry) (same_lines entries)

-- ---- the line of totals

is_done : (skipped : Bool) → same_fate Done (cond skipped Skipped Done) ≡ cond skipped false true
is_done true = refl
is_done false = refl

is_left : (skipped : Bool) → same_fate Skipped (cond skipped Skipped Done) ≡ skipped
is_left true = refl
is_left false = refl

is_not_failed : (skipped : Bool) → same_fate Failed (cond skipped Skipped Done) ≡ false
is_not_failed true = refl
is_not_failed false = refl

is_not_blocked : (skipped : Bool) → same_fate Blocked (cond skipped Skipped Done) ≡ false
is_not_blocked true = refl
is_not_blocked false = refl

count_same : (p : Fate → Bool) (q : Entry → Bool) → ((entry : Entry) → p (fate_of entry.reason) ≡ q entry) → (entries : List Entry)
    → count_by p (map (λ (entry : Entry). fate_of entry.reason) entries) ≡ count_by q entries
count_same p q same [] = refl
count_same p q same (entry ∷ entries) =
    sum_by-cons (λ became. cond (p became) 1 0) (fate_of entry.reason) (map (λ (entry : Entry). fate_of entry.reason) entries)
    ∙ ap₂ (λ (b : Bool) (n : ℕ). cond b 1 0 + n) (same entry) (count_same p q same entries)
    ∙ sym (sum_by-cons (λ entry. cond (q entry) 1 0) entry entries)

count_none : (entries : List Entry) → count_by (λ (entry : Entry). false) entries ≡ 0
count_none [] = refl
count_none (entry ∷ entries) = sum_by-cons (λ entry. 0) entry entries ∙ ap (λ n. 0 + n) (count_none entries)

same_total : (entries : List Entry) → report.total_line (length entries) (totals_of (map (λ (entry : Entry). fate_of entry.reason) entries)) ≡ total_line entries
unfolding digits
same_total entries =
    let done = count_same (same_fate Done) (λ entry. cond (is_skipped entry.reason) false true) (λ entry. is_done (is_skipped entry.reason)) entries in
    let skipped = count_same (same_fate Skipped) (λ entry. is_skipped entry.reason) (λ entry. is_left (is_skipped entry.reason)) entries in
    let failed = count_same (same_fate Failed) (λ entry. false) (λ entry. is_not_failed (is_skipped entry.reason)) entries ∙ count_none entries in
    let blocked = count_same (same_fate Blocked) (λ entry. false) (λ entry. is_not_blocked (is_skipped entry.reason)) entries ∙ count_none entries in
    rw (done, skipped, failed, blocked) refl

-- all of them
pub same_report : (entries : List Entry) → report_lines entries (map (λ (entry : Entry). fate_of entry.reason) entries) ≡ map report_line entries ++ (total_line entries ∷ [])
same_report entries = ap₂ (λ lines line. lines ++ (line ∷ [])) (same_lines entries) (same_total entries)
