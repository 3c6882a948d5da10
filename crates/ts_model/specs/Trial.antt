-- What `trial` writes for the bytes of a bundle, and its exit status.
--     snapshot_of b                 what the checker reads of a bundle
--     Trial bytes written status    what is written for these bytes, and the exit status
--     HasContentsApart bytes        the premise: no two contents of the bundle's files share a stamp
use Rattle.std.specs.Prelude.{◌≡◌, ◌⊎◌, ℕ, min, true, false, cond, List, [], ◌∷◌, ◌++◌, length, map, codes, decimal, count_by}
use Rattle.ts_name.specs.Paths.{path_text}
use Rattle.ts_model.specs.declared.row.Stamp.{Stamp}
use Rattle.ts_model.specs.Trees.{Listing, at, print_of, AreApart}
use Rattle.ts_model.specs.Sync.{Snapshot, Synced, is_skipped}
use Rattle.ts_model.specs.Plans.{rule_number, Broken, Valid}
use Rattle.ts_model.specs.declared.plan.PlanRule.{PlanRule}
use Rattle.ts_model.specs.Headline.{FinalArchive, Meets}
use Rattle.ts_model.specs.Texts.{Line, text, words, Bundle, IsBundleText, IsTreeBody, IsPrintBody, tree_lines, print_lines, reason_text}
use Rattle.ts_model.specs.declared.plan.Entry.{Entry}

abbrev pub snapshot_of : Bundle → Snapshot
snapshot_of b = record { archive = at b.archive; first = print_of (at b.first); second = print_of (at b.second); rules = b.rules }

-- ---- the report of a run in which every action was done

abbrev pub report_line : Entry → Line
report_line e = words (cond (is_skipped e.reason) (codes "skip") (codes "done") ∷ reason_text e.reason ∷ path_text e.path ∷ [])

abbrev pub skipped_count : List Entry → ℕ
skipped_count entries = count_by (λ e. is_skipped e.reason) entries

abbrev pub done_count : List Entry → ℕ
done_count entries = count_by (λ e. cond (is_skipped e.reason) false true) entries

abbrev pub total_line : List Entry → Line
total_line entries = words (codes "total" ∷ decimal (length entries) ∷ codes "done" ∷ decimal (done_count entries)
    ∷ codes "skipped" ∷ decimal (skipped_count entries) ∷ codes "failed" ∷ codes "0" ∷ codes "blocked" ∷ codes "0" ∷ [])

abbrev pub result_lines : Listing (List ℕ) → Listing (List ℕ) → Listing Stamp → List Entry → List Line
result_lines first second archive entries = (codes "first" ∷ tree_lines first) ++ (codes "second" ∷ tree_lines second)
    ++ (codes "archive" ∷ print_lines archive) ++ (codes "report" ∷ map report_line entries) ++ (total_line entries ∷ [])

-- ---- the answers

abbrev pub Refuses : Line → List ℕ → ℕ → Type 0
Refuses line written status = (written ≡ text (line ∷ [])) × (status ≡ 3)

pub record IsRefused (b : Bundle) (written : List ℕ) (status : ℕ) : Type 0 where
  pub rule : PlanRule
  pub place : ℕ
  pub broken : Broken (snapshot_of b) b.plan rule place
  pub says : Refuses (words (codes "refused" ∷ decimal (rule_number rule) ∷ decimal place ∷ [])) written status

pub record IsResult (b : Bundle) (written : List ℕ) (status : ℕ) : Type 0 where
  pub first : Listing (List ℕ)
  pub second : Listing (List ℕ)
  pub archive : Listing Stamp
  pub bodies : IsTreeBody first × IsTreeBody second × IsPrintBody archive
  pub valid : Valid (snapshot_of b) b.plan
  pub pair : Synced (snapshot_of b) (at b.first) (at b.second) (at first) (at second)
  pub final : FinalArchive (snapshot_of b) (at first) (at archive)
  pub says : (written ≡ text (result_lines first second archive b.plan.entries)) × (status ≡ min 1 (skipped_count b.plan.entries))

abbrev pub IsNoBundle : List ℕ → Type 0
IsNoBundle bytes = (b : Bundle) → ¬ IsBundleText bytes b

abbrev pub Trial : List ℕ → List ℕ → ℕ → Type 0
Trial bytes written status =
    (IsNoBundle bytes × Refuses (codes "malformed") written status)
    ⊎ ((b : Bundle) × IsBundleText bytes b × (IsRefused b written status ⊎ IsResult b written status))

abbrev pub HasContentsApart : List ℕ → Type 0
HasContentsApart bytes = (b : Bundle) → IsBundleText bytes b → AreApart (Meets (at b.first) (at b.second) [])
