-- What `preview` prints.
--     form_of coloured json                    JSON where that is asked for, else for people, with colours or without
--     IsPreview k form written status          what would become of each entry of a plan that `resume` makes, in this form; with the
--                                              status of a report in which all is done but what is skipped
--     IsGuarded allow_empty past k best status  the best status of a plan that is let through, or that of a refusal for one that is held back
--     IsPreviewOf allow_empty past s form written status   the same of some plan for this snapshot
--     IsPreviewAt w allow_empty pair form written status   the same of scans of a pair's replicas, and of the archive and the rules that were
--                                              read for it, by what is seen of the replicas' past
--     shown printed looked_at                  the fault of what couldn't be printed, or else of the plan that is held back
use Rattle.std.specs.Prelude.{◌≡◌, ◌⊎◌, ℕ, Bool, if◌then◌else◌, List, Result, Ok, Err}
use Rattle.ts_check.specs.Checkup.{Checkup}
use Rattle.ts_command.specs.declared.job.Pair.{Pair}
use Rattle.ts_explain.specs.declared.fault.PerformFault.{PerformFault}
use Rattle.ts_model.specs.Texts.{text}
use Rattle.ts_model.specs.declared.plan.Plan.{Plan}
use Rattle.ts_preview.specs.Outlooks.{AreOutlooks}
use Rattle.ts_preview.specs.Previews.{preview_lines}
use Rattle.ts_preview.specs.Totals.{best_totals}
use Rattle.ts_preview.specs.declared.outlook.Outlook.{Outlook}
use Rattle.ts_preview.specs.declared.writing.Form.{Form}
use Rattle.ts_preview.specs.declared.writing.Form.TheVariants.{People, Coloured, Json}
use Rattle.ts_report.specs.Reports.{status_of}
use Rattle.ts_perform.specs.Guards.{IsLetThrough, IsPastSeen}
use Rattle.ts_perform.specs.Inputs.{IsSeenFor}
use Rattle.ts_perform.specs.Snapshots.{IsPlanned, checkup_of}
use Rattle.ts_perform.specs.Worlds.{World}
use Rattle.ts_perform.specs.declared.guarding.Past.{Past}
use Rattle.ts_perform.specs.declared.snapshot.Snapshot.{Snapshot}

abbrev pub form_of : (coloured json : Bool) → Form
form_of coloured json = if json then Json else if coloured then Coloured else People

abbrev pub IsPreview : Checkup → Form → List ℕ → ℕ → Type 0
IsPreview k form written status =
    (all : List Outlook) × IsPlanned k × AreOutlooks k.archive k.first k.second k.plan.entries all
    × (written ≡ text (preview_lines form all)) × (status ≡ status_of (best_totals all))

abbrev pub IsGuarded : Bool → Past → Checkup → (best status : ℕ) → Type 0
IsGuarded allow_empty past k best status =
    (IsLetThrough allow_empty past k × (status ≡ best)) ⊎ ((¬ IsLetThrough allow_empty past k) × (status ≡ 3))

abbrev pub IsGuardedPreview : Bool → Past → Checkup → Form → List ℕ → ℕ → Type 0
IsGuardedPreview allow_empty past k form written status = (best : ℕ) × IsPreview k form written best × IsGuarded allow_empty past k best status

abbrev pub IsPreviewOf : Bool → Past → Snapshot → Form → List ℕ → ℕ → Type 0
IsPreviewOf allow_empty past s form written status = (plan : Plan) × IsGuardedPreview allow_empty past (checkup_of s plan) form written status

abbrev pub IsPreviewAt : {S F P A L : Type 0} → World S F P A L → Bool → Pair → Form → List ℕ → ℕ → Type 0
IsPreviewAt w allow_empty pair form written status = (k : Checkup) × (past : Past) × IsSeenFor w pair k.archive k.rules k.first k.second
    × IsPastSeen w pair past × IsGuardedPreview allow_empty past k form written status

abbrev pub shown : Result ℕ PerformFault → Result (Unit {0}) PerformFault → Result ℕ PerformFault
shown (Err fault) looked_at = Err fault
shown (Ok status) (Err fault) = Err fault
shown (Ok status) (Ok done) = Ok status
