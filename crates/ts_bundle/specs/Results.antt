-- The report of a run in which every action was done.
--     fate_of reason          what became of an entry with this reason
--     report_lines entries    the title, a line for each entry, and the counts
use Rattle.std.specs.Prelude.{cond, List, [], ◌∷◌, ◌++◌, map, codes}
use Rattle.ts_model.specs.Sync.{is_skipped}
use Rattle.ts_model.specs.Texts.{Line}
use Rattle.ts_model.specs.Trial.{report_line, total_line}
use Rattle.ts_model.specs.declared.plan.Entry.{Entry}
use Rattle.ts_model.specs.declared.plan.Reason.{Reason}
use Rattle.ts_report.specs.declared.fate.Fate.{Fate}
use Rattle.ts_report.specs.declared.fate.Fate.TheVariants.{Skipped, Done}

abbrev pub fate_of : Reason → Fate
fate_of reason = cond (is_skipped reason) Skipped Done

abbrev pub report_lines : List Entry → List Line
report_lines entries = (codes "report" ∷ map report_line entries) ++ (total_line entries ∷ [])
