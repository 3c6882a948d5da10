-- Why entries are skipped, as a run says it.
--     IsSkippedSo snapshot entry skipped   the entry is skipped, and so: these are its changes in both replicas, or a rule names this path
--     skip_lines job skips                 a sentence for each
--     asked_skips command skips            the same where the command asks for sentences
use Rattle.std.specs.Prelude.{◌≡◌, if◌then◌else◌, List, [], ◌∷◌}
use Rattle.ts_command.specs.declared.job.Command.{Command}
use Rattle.ts_command.specs.declared.job.Job.{Job}
use Rattle.ts_explain.specs.Skips.{skip_text}
use Rattle.ts_explain.specs.declared.skipped.Skip.{Skip}
use Rattle.ts_explain.specs.declared.skipped.Skip.TheVariants as skip
use Rattle.ts_explain.specs.declared.skipped.Skipped.{Skipped}
use Rattle.ts_model.specs.Holds.{Names}
use Rattle.ts_model.specs.Texts.{Line}
use Rattle.ts_model.specs.Trees.{at}
use Rattle.ts_model.specs.declared.plan.Entry.{Entry}
use Rattle.ts_model.specs.declared.plan.Reason.TheVariants as reason
use Rattle.ts_preview.specs.Changes.{IsChange}
use Rattle.ts_perform.specs.declared.snapshot.Snapshot.{Snapshot}

abbrev pub IsWhy : Snapshot → Entry → Skip → Type 0
IsWhy s entry (skip.Conflict first second) =
    (entry.reason ≡ reason.Conflict) × IsChange (at s.archive) (at s.first) entry.path first × IsChange (at s.archive) (at s.second) entry.path second
IsWhy s entry (skip.Held by) = (entry.reason ≡ reason.Held) × Names s.holds by

abbrev pub IsSkippedSo : Snapshot → Entry → Skipped → Type 0
IsSkippedSo s entry skipped = (skipped.path.now ≡ entry.path) × IsWhy s entry skipped.why

abbrev pub skip_lines : Job → List Skipped → List Line
skip_lines job [] = []
skip_lines job (skipped ∷ skips) = skip_text job skipped ∷ skip_lines job skips

abbrev pub asked_skips : Command → List Skipped → List Line
asked_skips command skips = if command.explain then skip_lines command.job skips else []
