-- What each command answers, by what the machine tells, the command, what standard output and standard error hold before and after, and the
-- exit status. Of any other command a word says nothing.
--     Scans, Plans, Previews, Checks, Runs, Syncs    of `scan`, `plan`, `preview`, `check`, `run` and `sync`
--     TriesScan, TriesPlan, TriesPreview, TriesCheck, TriesRun, TriesSync    the same before a refusal is reported
use Rattle.std.specs.Prelude.{ℕ, List, Option, Result}
use Rattle.ts_command.specs.declared.job.Command.{Command}
use Rattle.ts_explain.specs.declared.fault.PerformFault.{PerformFault}
use Rattle.ts_perform.specs.Jobs.{IfCheck, IfPlan, IfPreview, IfRun, IfScan, IfSync}
use Rattle.ts_perform.specs.Pending.{AnswersPending, AnswersVerdictPending, JudgesPending, PrintsPending}
use Rattle.ts_perform.specs.Previewing.{IsPreviewAt, form_of}
use Rattle.ts_perform.specs.Printouts.{IsScanText}
use Rattle.ts_perform.specs.Runs.{AnswersOne, AnswersRun, IsRun, IsSynced, Ran}
use Rattle.ts_perform.specs.Snapshots.{IsCheckupAt, IsPrintoutAt, PrintsAlone}
use Rattle.ts_perform.specs.Worlds.{World}

abbrev pub Scans : {S F P A L : Type 0} → World S F P A L → Command → (old new old_faults new_faults : Option (List ℕ)) → ℕ → Type 0
Scans w command old new old_faults new_faults status =
    IfScan command.job (λ root. AnswersOne command (IsScanText w root) old new old_faults new_faults status)

abbrev pub Plans : {S F P A L : Type 0} → World S F P A L → Command → (old new old_faults new_faults : Option (List ℕ)) → ℕ → Type 0
Plans w command old new old_faults new_faults status =
    IfPlan command.job (λ pair. AnswersPending w.awaits command pair (IsPrintoutAt w pair) old new old_faults new_faults status)

abbrev pub Previews : {S F P A L : Type 0} → World S F P A L → Command → (old new old_faults new_faults : Option (List ℕ)) → ℕ → Type 0
Previews w command old new old_faults new_faults status =
    IfPreview command.job (λ pair json. AnswersPending w.awaits command pair (IsPreviewAt w command.allow_empty pair (form_of command.coloured json)) old new old_faults new_faults status)

abbrev pub Checks : {S F P A L : Type 0} → World S F P A L → Command → (old new old_faults new_faults : Option (List ℕ)) → ℕ → Type 0
Checks w command old new old_faults new_faults status =
    IfCheck command.job (λ pair plan. AnswersVerdictPending w.awaits command pair (IsCheckupAt w pair plan) old new old_faults new_faults status)

abbrev pub Runs : {S F P A L : Type 0} → World S F P A L → Command → (old new old_faults new_faults : Option (List ℕ)) → ℕ → Type 0
Runs w command old new old_faults new_faults status =
    IfRun command.job (λ pair plan. AnswersRun command (IsRun w pair plan) old new old_faults new_faults status)

abbrev pub Syncs : {S F P A L : Type 0} → World S F P A L → Command → (old new old_faults new_faults : Option (List ℕ)) → ℕ → Type 0
Syncs w command old new old_faults new_faults status =
    IfSync command.job (λ pair. AnswersRun command (IsSynced w command.allow_empty pair) old new old_faults new_faults status)

-- ---- before a refusal is reported

abbrev pub TriesScan : {S F P A L : Type 0} → World S F P A L → Command → (old new old_faults new_faults : Option (List ℕ)) → Result ℕ PerformFault → Type 0
TriesScan w command old new old_faults new_faults result =
    IfScan command.job (λ root. PrintsAlone (IsScanText w root) old new old_faults new_faults result)

abbrev pub TriesPlan : {S F P A L : Type 0} → World S F P A L → Command → (old new old_faults new_faults : Option (List ℕ)) → Result ℕ PerformFault → Type 0
TriesPlan w command old new old_faults new_faults result =
    IfPlan command.job (λ pair. PrintsPending w.awaits command pair (IsPrintoutAt w pair) old new old_faults new_faults result)

abbrev pub TriesPreview : {S F P A L : Type 0} → World S F P A L → Command → (old new old_faults new_faults : Option (List ℕ)) → Result ℕ PerformFault → Type 0
TriesPreview w command old new old_faults new_faults result =
    IfPreview command.job (λ pair json. PrintsPending w.awaits command pair (IsPreviewAt w command.allow_empty pair (form_of command.coloured json)) old new old_faults new_faults result)

abbrev pub TriesCheck : {S F P A L : Type 0} → World S F P A L → Command → (old new old_faults new_faults : Option (List ℕ)) → Result ℕ PerformFault → Type 0
TriesCheck w command old new old_faults new_faults result =
    IfCheck command.job (λ pair plan. JudgesPending w.awaits command pair (IsCheckupAt w pair plan) old new old_faults new_faults result)

abbrev pub TriesRun : {S F P A L : Type 0} → World S F P A L → Command → (old new old_faults new_faults : Option (List ℕ)) → Result ℕ PerformFault → Type 0
TriesRun w command old new old_faults new_faults result =
    IfRun command.job (λ pair plan. Ran command (IsRun w pair plan) old new old_faults new_faults result)

abbrev pub TriesSync : {S F P A L : Type 0} → World S F P A L → Command → (old new old_faults new_faults : Option (List ℕ)) → Result ℕ PerformFault → Type 0
TriesSync w command old new old_faults new_faults result =
    IfSync command.job (λ pair. Ran command (IsSynced w command.allow_empty pair) old new old_faults new_faults result)
