-- What is said of entries that are skipped.
--     skip_text job skipped     why an entry is skipped, in a sentence
use Rattle.std.specs.Prelude.{ℕ, List, [], ◌∷◌, codes}
use Rattle.ts_name.specs.Paths.{Path, path_text}
use Rattle.ts_command.specs.declared.job.Job.{Job}
use Rattle.ts_preview.specs.Changes.{change_word}
use Rattle.ts_preview.specs.Names.{shown}
use Rattle.ts_preview.specs.declared.change.Change.{Change}
use Rattle.ts_explain.specs.Pieces.{said}
use Rattle.ts_explain.specs.Subjects.{name_in}
use Rattle.ts_explain.specs.declared.skipped.Skip.{Skip}
use Rattle.ts_explain.specs.declared.skipped.Skip.TheVariants as skip
use Rattle.ts_explain.specs.declared.skipped.Skipped.{Skipped}
use Rattle.ts_explain.specs.declared.subject.Subject.TheVariants as subject

abbrev pub conflict_text : Job → Path → Change → Change → List ℕ
conflict_text job path first second = said (shown 0 (path_text path) ∷ codes " is a conflict: " ∷ change_word first ∷ codes " in "
    ∷ shown 0 (name_in job subject.First) ∷ codes ", " ∷ change_word second ∷ codes " in " ∷ shown 0 (name_in job subject.Second) ∷ codes "." ∷ [])

abbrev pub held_text : Path → Path → List ℕ
held_text path by = said (shown 0 (path_text path) ∷ codes " is held: a rule or --hold-special holds " ∷ shown 0 (path_text by) ∷ codes "." ∷ [])

abbrev pub why_skipped : Job → Path → Skip → List ℕ
why_skipped job path (skip.Conflict first second) = conflict_text job path first second
why_skipped job path (skip.Held by) = held_text path by

abbrev pub skip_text : Job → Skipped → List ℕ
skip_text job skipped = why_skipped job skipped.path.now skipped.why
