-- The report of a run, by how each action ended.
--     fates how plan          what became of each entry
--     report_text how plan    the lines: one for each entry, and the counts
use Rattle.std.specs.Prelude.{ℕ, ◌+◌, ◌==◌, min, nat_lt, if◌then◌else◌, Bool, true, false, ◌&&◌, ◌||◌, List, [], ◌∷◌, ◌++◌, length, codes, decimal, count_by}
use Rattle.ts_name.specs.Paths.{path_text}
use Rattle.ts_model.specs.Texts.{Line, text, words, reason_text}
use Rattle.ts_model.specs.Sync.{is_skipped}
use Rattle.ts_model.specs.declared.plan.Entry.{Entry}
use Rattle.ts_model.specs.declared.plan.Action.{Action}
use Rattle.ts_model.specs.declared.plan.Kind.{Kind}
use Rattle.ts_model.specs.declared.plan.Kind.TheVariants.{Piece, Commit, Mark}
use Rattle.ts_model.specs.declared.plan.Plan.{Plan}
use Rattle.ts_report.specs.Fates.{fate, fate_word, has_failed, next_fate, same_fate, was_done}
use Rattle.ts_report.specs.declared.results.Ending.{Ending}
use Rattle.ts_report.specs.declared.fate.Fate.{Fate}
use Rattle.ts_report.specs.declared.fate.Fate.TheVariants.{Skipped, Done, Failed, Blocked}
use Rattle.ts_report.specs.declared.writing.Totals.{Totals}

-- ---- what became of an entry

-- the entry that an action is for
abbrev pub entry_of : Kind → ℕ
entry_of (Piece e offset len path) = e
entry_of (Commit e) = e
entry_of (Mark e) = e

abbrev pub is_mark : Kind → Bool
is_mark (Piece e offset len path) = false
is_mark (Commit e) = false
is_mark (Mark e) = true

-- some action is so, where the first one has the number i
abbrev pub some_action : (ℕ → Action → Bool) → ℕ → List Action → Bool
some_action test i [] = false
some_action test i (action ∷ actions) = test i action || some_action test (i + 1) actions

-- the action is entry e's mark and done
abbrev pub marks : (ℕ → Ending) → ℕ → ℕ → Action → Bool
marks how e i action = (entry_of action.kind == e) && (is_mark action.kind && was_done (how i))

-- the action is for entry e and failed
abbrev pub fails : (ℕ → Ending) → ℕ → ℕ → Action → Bool
fails how e i action = (entry_of action.kind == e) && has_failed (how i)

abbrev pub fate_in : (ℕ → Ending) → List Action → ℕ → Entry → Fate
fate_in how actions e entry = fate (is_skipped entry.reason) (some_action (marks how e) 0 actions) (some_action (fails how e) 0 actions)

-- those of entries of which the first has the number e
abbrev pub fates_from : (ℕ → Ending) → List Action → ℕ → List Entry → List Fate
fates_from how actions e [] = []
fates_from how actions e (entry ∷ entries) = fate_in how actions e entry ∷ fates_from how actions (e + 1) entries

abbrev pub fates : (ℕ → Ending) → Plan → List Fate
fates how plan = fates_from how plan.actions 0 plan.entries

-- what is known of all entries, of which the first has the number k, once an action for entry e is looked at
abbrev pub step_from : ℕ → Bool → Ending → ℕ → List Fate → List Fate
step_from e mark how k [] = []
step_from e mark how k (known ∷ all) = (if e == k then next_fate known mark how else known) ∷ step_from e mark how (k + 1) all

-- ---- the lines

abbrev pub fate_line : Entry → Fate → Line
fate_line entry became = words (fate_word became ∷ reason_text entry.reason ∷ path_text entry.path ∷ [])

abbrev pub fate_lines : List Entry → List Fate → List Line
fate_lines [] all = []
fate_lines (entry ∷ entries) [] = []
fate_lines (entry ∷ entries) (became ∷ all) = fate_line entry became ∷ fate_lines entries all

abbrev pub totals_of : List Fate → Totals
totals_of all = record {
  done = count_by (same_fate Done) all;
  skipped = count_by (same_fate Skipped) all;
  failed = count_by (same_fate Failed) all;
  blocked = count_by (same_fate Blocked) all;
}

abbrev pub total_line : ℕ → Totals → Line
total_line n totals = words (codes "total" ∷ decimal n ∷ codes "done" ∷ decimal totals.done ∷ codes "skipped" ∷ decimal totals.skipped
    ∷ codes "failed" ∷ decimal totals.failed ∷ codes "blocked" ∷ decimal totals.blocked ∷ [])

abbrev pub report_lines : List Entry → List Fate → List Line
report_lines entries all = fate_lines entries all ++ total_line (length entries) (totals_of all) ∷ []

abbrev pub report_text : (ℕ → Ending) → Plan → List ℕ
report_text how plan = text (report_lines plan.entries (fates how plan))

-- the exit status of a run that ended so
abbrev pub status_of : Totals → ℕ
status_of totals = if nat_lt 0 (totals.failed + totals.blocked) then 2 else min 1 totals.skipped
