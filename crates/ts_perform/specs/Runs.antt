-- What `run` and `sync` answer, and how a command is refused.
--     failed_lines explain fault path cause     the fault of a failed action
--     failure_lines entries actions results causes   the fault of each failed action, with its entry's path, in the order of the actions, and why it failed
--     notice_line notice                        a fault where what a swap left can't be removed, its place where it was kept, a mount as such
--     notice_said explain notice                that line, and its sentence before it where that is asked for; what a replica forgot is said by a sentence alone
--     notice_lines notices                      what is said of each
--     remark_lines command notices skips        those, and a sentence for each skipped entry where that is asked for
--     run_lines command plan results causes lost notices skips   all that is said of a run on standard error
--     all_lines command plan results causes lost remarks   the same of these remarks
--     run_report, run_faults, run_status        what is reported of a run on standard output, and on standard error but for notices, and its exit status
--     Came                                      what came of a plan: the plan and what it was checked against, how its actions ended, and why, why the new archive wasn't written, if it wasn't, whether both replicas were told of it, and what else is to be said
--     report_of, faults_of, status_after        what is then reported, on standard output and standard error, and the exit status
--     HasReported came                          both were written; or one of them could be written in part, and the status is 2
--     IsRunOf w first second k results words slots  these are of one run, whose commits were made where they stand
--     IsRunFor w pair k outcome                 the same of what an outcome has
--     IsCarriedOut w pair came                  the plan is valid for the scans of the pair's replicas, and the results are those of a run of it there, whose archive was written
--     IsRun w pair name came                    the same of a plan that was read from a file
--     IsSynced w allow_empty pair came          the same of a plan that `resume` made, and that was let through
--     RanQuietly Is                             a plan was run, `Is` is said of what came of it, and all was reported; or nothing was written
--     Ran Is                                    the same, but what recovery has to say of an earlier run's swaps may be reported where nothing was run
--     Refuses fault                             a broken plan is reported on standard output, every other fault on standard error
--     AnswersRun Is                             the same as `Ran` of a command: where nothing was run, it is refused
--     AnswersOne Says                           what `plan` and `check` answer
use Rattle.std.specs.Prelude.{◌≡◌, ◌⊎◌, ◌↔◌, ⊤, ℕ, Bool, true, if◌then◌else◌, IsTrue, List, [], ◌∷◌, ◌++◌, Option, Some, None, IfNone, Result, Ok, Err, slice_get}
use Rattle.std.specs.Io.KnownBytes.{Appends}
use Rattle.std.specs.String.{string_bytes}
use Rattle.ts_name.specs.Paths.{Path}
use Rattle.ts_board.specs.Archives.{LeftArchive}
use Rattle.ts_board.specs.Calls.{slots_of, words_of}
use Rattle.ts_board.specs.Terms.{placed, terms_with}
use Rattle.ts_board.specs.declared.law.Slot.{Slot}
use Rattle.ts_cause.specs.declared.cause.Cause.{Cause}
use Rattle.ts_cause.specs.declared.cause.Cause.TheVariants.{Unknown}
use Rattle.ts_check.specs.Checkup.{Checkup, snapshot_of}
use Rattle.ts_check.specs.Verdict.{IsSafe}
use Rattle.ts_command.specs.declared.job.Command.{Command}
use Rattle.ts_command.specs.declared.job.Job.{Job}
use Rattle.ts_command.specs.declared.job.Pair.{Pair}
use Rattle.ts_command.specs.declared.job.Job.TheVariants as job
use Rattle.ts_disk.specs.declared.notice.Notice.{Notice}
use Rattle.ts_disk.specs.declared.notice.Notice.TheVariants as notice
use Rattle.ts_exec.specs.Failures.{or_jammed, setting_with}
use Rattle.ts_exec.specs.Faults.{fault_number as act_number}
use Rattle.ts_exec.specs.Outcomes.{IsOutcome}
use Rattle.ts_exec.specs.declared.fault.ActFault.{ActFault}
use Rattle.ts_exec.specs.declared.outcome.ActionResult.{ActionResult}
use Rattle.ts_exec.specs.declared.outcome.ActionResult.TheVariants as ended
use Rattle.ts_exec.specs.declared.outcome.Outcome.{Outcome}
use Rattle.ts_model.specs.Plans.{Broken, Valid}
use Rattle.ts_model.specs.Texts.{IsPlanText, Line, text}
use Rattle.ts_model.specs.Trees.{Listing}
use Rattle.ts_model.specs.declared.plan.Action.{Action}
use Rattle.ts_model.specs.declared.plan.Entry.{Entry}
use Rattle.ts_model.specs.declared.plan.Kind.{Kind}
use Rattle.ts_model.specs.declared.plan.Plan.{Plan}
use Rattle.ts_model.specs.declared.plan.PlanRule.{PlanRule}
use Rattle.ts_model.specs.declared.row.Stamp.{Stamp}
use Rattle.ts_report.specs.Reports.{entry_of, fates, report_text, status_of, totals_of}
use Rattle.ts_site.specs.declared.site.Site.{Ghosts}
use Rattle.ts_text.specs.Sources.{AppendsFront}
use Rattle.ts_trial.specs.Answers.{refusal}
use Rattle.ts_exec.specs.Ends.{ending_at}
use Rattle.ts_explain.specs.Faults.{fault_line, fault_number}
use Rattle.ts_explain.specs.Lines.{BeginsLines, fault_lines, sentence_lines, with_sentence}
use Rattle.ts_explain.specs.Sentences.{sentence_of}
use Rattle.ts_explain.specs.declared.skipped.Skipped.{Skipped}
use Rattle.ts_perform.specs.Agreed.{HasFlushed, HasFlushedPut}
use Rattle.ts_perform.specs.Failures.{failure_text, notice_text}
use Rattle.ts_perform.specs.Faults.{kept_line, mount_line}
use Rattle.ts_perform.specs.Inputs.{IsReadAt, IsSeenFor}
use Rattle.ts_perform.specs.Guards.{IsLetThrough, IsPastOf, IsTaught}
use Rattle.ts_perform.specs.Skips.{asked_skips}
use Rattle.ts_perform.specs.Snapshots.{IsBegun, IsBrokenAt, IsPlanned, IsValidAt, IsValidBegun, valid_text}
use Rattle.ts_perform.specs.Stands.{AreAtStands}
use Rattle.ts_perform.specs.Trials.{IsQuiet}
use Rattle.ts_perform.specs.Worlds.{World}
use Rattle.ts_perform.specs.declared.guarding.Past.{Past}
use Rattle.ts_perform.specs.declared.reporting.Remarks.{Remarks}
use Rattle.ts_explain.specs.declared.fault.PerformFault.{PerformFault}
use Rattle.ts_explain.specs.declared.fault.PerformFault.TheVariants as fault

abbrev pub path_in : Option Entry → Option Path
path_in None = None
path_in (Some entry) = Some entry.path

-- the path of the entry that an action is for
abbrev pub path_for : List Entry → Kind → Option Path
path_for entries kind = path_in (slice_get entries (entry_of kind))

abbrev pub failed_lines : Bool → ActFault → Option Path → Cause → List Line
failed_lines explain fault path cause = with_sentence explain (failure_text fault path cause) (fault_line (act_number fault) path)

abbrev pub failure_line : Bool → List Entry → Action → ActionResult → Cause → List Line
failure_line explain entries action ended.Done cause = []
failure_line explain entries action (ended.Failed fault) cause = failed_lines explain fault (path_for entries action.kind) cause
failure_line explain entries action (ended.Blocked before) cause = []
failure_line explain entries action ended.Left cause = []

-- the cause of the first action, and those after it; where there is none, it is unknown
abbrev pub first_cause : List Cause → Cause
first_cause [] = Unknown
first_cause (cause ∷ causes) = cause

abbrev pub later_causes : List Cause → List Cause
later_causes [] = []
later_causes (cause ∷ causes) = causes

abbrev pub failure_lines : Bool → List Entry → List Action → List ActionResult → List Cause → List Line
failure_lines explain entries [] results causes = []
failure_lines explain entries (action ∷ actions) [] causes = []
failure_lines explain entries (action ∷ actions) (result ∷ results) causes =
    failure_line explain entries action result (first_cause causes) ++ failure_lines explain entries actions results (later_causes causes)

abbrev pub notice_line : Notice → Line
notice_line (notice.Discarded path) = fault_line 8 (Some path)
notice_line (notice.Kept path place) = kept_line path (string_bytes place)
notice_line (notice.Mounted path) = mount_line path
notice_line (notice.Forgot side) = []

abbrev pub notice_said : Bool → Notice → List Line
notice_said explain (notice.Discarded path) = with_sentence explain (notice_text (notice.Discarded path)) (notice_line (notice.Discarded path))
notice_said explain (notice.Kept path place) = with_sentence explain (notice_text (notice.Kept path place)) (notice_line (notice.Kept path place))
notice_said explain (notice.Mounted path) = with_sentence explain (notice_text (notice.Mounted path)) (notice_line (notice.Mounted path))
notice_said explain (notice.Forgot side) = if explain then notice_text (notice.Forgot side) ∷ [] else []

abbrev pub notice_lines : Bool → List Notice → List Line
notice_lines explain [] = []
notice_lines explain (notice ∷ notices) = notice_said explain notice ++ notice_lines explain notices

-- what else is said of a run
abbrev pub remark_lines : Command → List Notice → List Skipped → List Line
remark_lines command notices skips = notice_lines command.explain notices ++ asked_skips command skips

-- some notices were reported, as far as they could be written
abbrev pub BeginsNotices : Bool → (old new : Option (List ℕ)) → Type 0
BeginsNotices explain old new = (notices : List Notice) × AppendsFront old new (text (notice_lines explain notices))

-- why something is lost, and what is said of that
abbrev pub lost_by : {A : Type 0} → Result A PerformFault → Option PerformFault
lost_by (Ok kept) = None
lost_by (Err fault) = Some fault

abbrev pub lost_lines : Command → Option PerformFault → List Line
lost_lines command None = []
lost_lines command (Some fault) = with_sentence command.explain (sentence_of command.job fault) (fault_line (fault_number fault) None)

abbrev pub status_with : Option PerformFault → ℕ → ℕ
status_with None status = status
status_with (Some fault) status = 2

-- the report of a plan whose actions ended with these results
abbrev pub run_report : Plan → List ActionResult → List ℕ
run_report plan results = report_text (ending_at results) plan

-- the fault of each failed action, and why the archive is lost, if it is
abbrev pub run_faults : Command → Plan → List ActionResult → List Cause → Option PerformFault → List Line
run_faults command plan results causes lost = failure_lines command.explain plan.entries plan.actions results causes ++ lost_lines command lost

abbrev pub run_lines : Command → Plan → List ActionResult → List Cause → Option PerformFault → List Notice → List Skipped → List Line
run_lines command plan results causes lost notices skips = run_faults command plan results causes lost ++ remark_lines command notices skips

abbrev pub all_lines : Command → Plan → List ActionResult → List Cause → Option PerformFault → Remarks → List Line
all_lines command plan results causes lost remarks = run_lines command plan results causes lost remarks.notices.now remarks.skips.now

-- the status of the report's totals, or 2 where the archive is lost
abbrev pub run_status : Plan → List ActionResult → Option PerformFault → ℕ
run_status plan results lost = status_with lost (status_of (totals_of (fates (ending_at results) plan)))

pub record Came : Type 0 where
  pub checkup : Checkup
  pub results : List ActionResult
  -- why the failed ones failed, as far as the system says
  pub causes : List Cause
  pub lost : Option PerformFault
  -- whether both replicas were told of the new archive before it was written
  pub teaches : Bool
  pub notices : List Notice
  pub skips : List Skipped

abbrev pub report_of : Came → List ℕ
report_of came = run_report came.checkup.plan came.results

abbrev pub faults_of : Command → Came → List ℕ
faults_of command came = text (run_lines command came.checkup.plan came.results came.causes came.lost came.notices came.skips)

abbrev pub status_after : Came → ℕ
status_after came = run_status came.checkup.plan came.results came.lost

abbrev pub HasReported : Command → Came → (old new old_faults new_faults : Option (List ℕ)) → ℕ → Type 0
HasReported command came old new old_faults new_faults status =
    ((status ≡ status_after came) × Appends old new (report_of came) × Appends old_faults new_faults (faults_of command came))
    ⊎ ((status ≡ 2) × AppendsFront old new (report_of came) × AppendsFront old_faults new_faults (faults_of command came))

-- ---- which plan was run, and how

-- the archive with the mark of each action that is done was written in this place
abbrev pub HasKept : {A : Type 0} → (A → Listing Stamp → Type 0) → Checkup → List ℕ → A → Type 0
HasKept has k words place = (rows : Listing Stamp) × LeftArchive k words rows × has place rows

-- the sites with which the run began, each at its stand, the folders that it read, each at its root and without stand-ins, and the stage of its
-- pieces, which was asked for by both roots in their order
pub record IsRunOf {S F P A L : Type 0} (w : World S F P A L) (first second : List ℕ) (checkup : Checkup) (results : List ActionResult) (words : List ℕ)
    (slots : List (Slot S)) : Type 0 where
  pub sites : List S
  pub stands : AreAtStands w.stand first second checkup.plan sites
  pub from_first : F
  pub from_second : F
  pub at_first : w.is_at from_first first []
  pub at_second : w.is_at from_second second []
  pub stage : P
  pub staged : w.is_staged stage first second
  pub outcome :
      let t = terms_with w.content checkup.plan checkup.first checkup.second (placed checkup.plan.actions sites) in
      IsOutcome w.content (or_jammed (w.fails stage) (setting_with w.failures w.tells w.lets checkup from_first from_second t.told)) t results words slots

abbrev pub IsRunFor : {S F P A L : Type 0} {site : Ghosts S} → World S F P A L → Pair → Checkup → Outcome S site → Type 0
IsRunFor w pair checkup outcome =
    IsRunOf w pair.first.now pair.second.now checkup outcome.results.items (words_of outcome.closed) (slots_of outcome.closed)

-- the plan is valid for the archive and the rules that were read for the pair, and the scans of its replicas; the results are those of
-- one run of it, whose commits were made where they stand; what both agree on had been flushed in both; and the archive that this run left was
-- written in the place that has its name, once what it newly names was flushed in both, and once both were told of it where they are, unless
-- it is lost
pub record IsCarriedOut {S F P A L : Type 0} (w : World S F P A L) (pair : Pair) (came : Came) : Type 0 where
  pub seen : IsSeenFor w pair came.checkup.archive came.checkup.rules came.checkup.first came.checkup.second
  pub valid : Valid (snapshot_of came.checkup) came.checkup.plan
  pub safe : IsSafe (snapshot_of came.checkup) came.checkup.plan
  pub words : List ℕ
  pub slots : List (Slot S)
  pub run : IsRunOf w pair.first.now pair.second.now came.checkup came.results words slots
  pub flushed : HasFlushed w pair came.checkup
  pub archive : IfNone came.lost ((place : A) × w.is_named place pair.archive.now × HasKept w.has came.checkup words place × w.taught place came.teaches)
  pub put : IfNone came.lost (HasFlushedPut w pair came.checkup.plan came.results)

-- the same of this plan, with what it was checked against, by a run that teaches the replicas or not
pub record IsCarriedOutFor {S F P A L : Type 0} (w : World S F P A L) (k : Checkup) (teaches : Bool) (pair : Pair) (came : Came) : Type 0 where
  pub checkup : came.checkup ≡ k
  pub taught : came.teaches ≡ teaches
  pub carried_out : IsCarriedOut w pair came

-- the same of the plan that was read from the file of this name
pub record IsRun {S F P A L : Type 0} (w : World S F P A L) (pair : Pair) (name : List ℕ) (came : Came) : Type 0 where
  pub plan : IsReadAt w.finds IsPlanText name came.checkup.plan
  pub taught : came.teaches ≡ true
  pub carried_out : IsCarriedOut w pair came

-- the same of a plan that `resume` made for the archive, the rules and the scans, and that was let through by what was known of both replicas
-- before; what they are told of the new archive goes by that, too
pub record IsSynced {S F P A L : Type 0} (w : World S F P A L) (allow_empty : Bool) (pair : Pair) (came : Came) : Type 0 where
  pub planned : IsPlanned came.checkup
  pub past : Past
  pub known : IsPastOf w pair past
  pub through : IsLetThrough allow_empty past came.checkup
  pub taught : IsTrue came.teaches ↔ IsTaught past came.checkup.plan
  pub carried_out : IsCarriedOut w pair came

-- ---- what is answered

-- a plan that is called broken is so: it breaks this rule first, and here
abbrev pub IsRight : PerformFault → Type 0
IsRight e = (rule : PlanRule) (place : ℕ) → e ≡ fault.Broken rule place → (k : Checkup) × Broken (snapshot_of k) k.plan rule place

-- a plan was run of which this is said, and all was reported
abbrev pub HasRun : Command → (Came → Type 0) → (old new old_faults new_faults : Option (List ℕ)) → ℕ → Type 0
HasRun command Is old new old_faults new_faults status = (came : Came) × Is came × HasReported command came old new old_faults new_faults status

abbrev pub RanQuietly : Command → (Came → Type 0) → (old new old_faults new_faults : Option (List ℕ)) → Result ℕ PerformFault → Type 0
RanQuietly command Is old new old_faults new_faults (Ok status) = HasRun command Is old new old_faults new_faults status
RanQuietly command Is old new old_faults new_faults (Err fault) = IsRight fault × (new ≡ old) × (new_faults ≡ old_faults)

abbrev pub Ran : Command → (Came → Type 0) → (old new old_faults new_faults : Option (List ℕ)) → Result ℕ PerformFault → Type 0
Ran command Is old new old_faults new_faults (Ok status) = HasRun command Is old new old_faults new_faults status
Ran command Is old new old_faults new_faults (Err fault) = IsRight fault × (new ≡ old) × BeginsNotices command.explain old_faults new_faults

-- what is reported of a fault on standard error, as far as it could be written
abbrev pub BeginsFault : Command → PerformFault → (old new : Option (List ℕ)) → Type 0
BeginsFault command fault old new = AppendsFront old new (text (fault_lines command fault))

-- the line that refuses a plan on standard output, and what it means on standard error, where that is asked for; or as much of the line as
-- could be written, and on standard error why no more
abbrev pub RefusesPlan : Command → PerformFault → PlanRule → ℕ → (old new old_faults new_faults : Option (List ℕ)) → Type 0
RefusesPlan command e rule place old new old_faults new_faults =
    (Appends old new (text (refusal rule place ∷ [])) × BeginsLines old_faults new_faults (sentence_lines command e))
    ⊎ (AppendsFront old new (text (refusal rule place ∷ [])) × ((why : PerformFault) × IsQuiet why × BeginsFault command why old_faults new_faults))

-- a broken plan is reported on standard output, all else on standard error
pub record Refuses (command : Command) (e : PerformFault) (old new old_faults new_faults : Option (List ℕ)) : Type 0 where
  pub broken : (rule : PlanRule) (place : ℕ) → e ≡ fault.Broken rule place → RefusesPlan command e rule place old new old_faults new_faults
  pub other : IsQuiet e → (new ≡ old) × BeginsFault command e old_faults new_faults

-- why nothing was done, which is right
abbrev pub IsRefusal : Command → (old new old_faults new_faults : Option (List ℕ)) → ℕ → Type 0
IsRefusal command old new old_faults new_faults status =
    (status ≡ 3) × ((fault : PerformFault) × IsRight fault × Refuses command fault old new old_faults new_faults)

abbrev pub AnswersRun : Command → (Came → Type 0) → (old new old_faults new_faults : Option (List ℕ)) → ℕ → Type 0
AnswersRun command Is old new old_faults new_faults status =
    HasRun command Is old new old_faults new_faults status
    ⊎ ((mid_faults : Option (List ℕ)) × BeginsNotices command.explain old_faults mid_faults × IsRefusal command old new mid_faults new_faults status)

-- what `plan` and `check` answer: a text with this said of it and of the status; or the status is 3, nothing or a beginning of such a text
-- was written, and a fault was told on standard error
abbrev pub AnswersOne : Command → (List ℕ → ℕ → Type 0) → (old new old_faults new_faults : Option (List ℕ)) → ℕ → Type 0
AnswersOne command Says old new old_faults new_faults status =
    (((written : List ℕ) × Says written status × Appends old new written) × (new_faults ≡ old_faults))
    ⊎ ((status ≡ 3) × IsBegun Says old new × ((fault : PerformFault) × IsQuiet fault × BeginsFault command fault old_faults new_faults))

-- what `check` answers: the line of a valid plan; or a plan that isn't valid is refused; or there was a fault
abbrev pub AnswersVerdict : Command → (Checkup → Type 0) → (old new old_faults new_faults : Option (List ℕ)) → ℕ → Type 0
AnswersVerdict command Is old new old_faults new_faults status =
    (IsValidAt Is × (status ≡ 0) × Appends old new valid_text × (new_faults ≡ old_faults))
    ⊎ ((status ≡ 3)
    × (((rule : PlanRule) × (place : ℕ) × IsBrokenAt Is rule place × RefusesPlan command (fault.Broken rule place) rule place old new old_faults new_faults)
    ⊎ (IsValidBegun Is old new × ((e : PerformFault) × IsQuiet e × BeginsFault command e old_faults new_faults))))

-- a plan is carried out
abbrev pub IsRunOrSync : Job → Type 0
IsRunOrSync j = elim j [
  | job.Tell text ↦ ⊥
  | job.Trial ↦ ⊥
  | job.Scan folder ↦ ⊥
  | job.Show archive ↦ ⊥
  | job.Plan pair ↦ ⊥
  | job.Preview pair json ↦ ⊥
  | job.Check pair plan ↦ ⊥
  | job.Run pair plan ↦ ⊤
  | job.Sync pair ↦ ⊤
]
