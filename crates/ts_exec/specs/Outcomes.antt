-- What comes of a plan.
--     HasWords plan r words           the words are those after the run
--     IsEnd plan r words faults       the words and faults after a run in which what was claimed is ended
--     IsReady plan r i                all that action i waits for is done
--     ResultIs plan r faults i res    what came of action i in the run r, by these faults
--     AreResults plan r faults res    what came of each action
--     ResultFits x r i res            what came of action i in the run r
--     IsOutcome                       all results and sites are those after one legal run
--     IsOutcomeOf x outcome           the same of what an outcome has
--     MisfitsAreUntold x results      an action misfits only where its source's folder tells no tree of the checked print
--     IsSteady x                      folders and sites tell what was checked, and nothing of theirs fails
--     OnlyMemoryRanOut results        each action that failed is out of memory
use Rattle.std.specs.Prelude.{◌≡◌, ℕ, ◌<◌, Contains, List, Some, length, slice_get, slice_index, slice_index_or, Option}
use Rattle.ts_name.specs.Paths.{Path}
use Rattle.ts_folder.specs.declared.fault.Trouble.{Trouble}
use Rattle.ts_model.specs.Trees.{Listing, at, listed, sub}
use Rattle.ts_model.specs.Plans.{Copies, KindIs, Waits, source}
use Rattle.ts_model.specs.Runs.{Run, Has, HasNot, claims, entry_of, finishes, fails, open_count, word_after}
use Rattle.ts_model.specs.declared.plan.Entry.{Entry}
use Rattle.ts_model.specs.declared.plan.Kind.TheVariants.{Commit}
use Rattle.ts_model.specs.declared.plan.Plan.{Plan}
use Rattle.ts_model.specs.declared.step.Step.TheVariants.{Act}
use Rattle.ts_model.specs.declared.step.Work.TheVariants.{Put}
use Rattle.ts_model.specs.declared.plan.Side.{Side}
use Rattle.ts_site.specs.declared.site.Site.{Ghosts}
use Rattle.ts_board.specs.Calls.{slots_of, words_of}
use Rattle.ts_board.specs.Terms.{IsTold, work_in}
use Rattle.ts_board.specs.Runs.{size}
use Rattle.ts_board.specs.Kept.{HasLeft, Rests}
use Rattle.ts_board.specs.declared.law.Slot.{Slot}
use Rattle.ts_board.specs.declared.law.Slot.TheVariants.{Empty}
use Rattle.ts_board.specs.declared.law.Terms.{Terms}
use Rattle.ts_check.specs.Checkup.{IsCommit}
use Rattle.ts_exec.specs.Failures.{Setting, AreRead, IsChanged, MayFail, TellsSite, TellsTree}
use Rattle.ts_exec.specs.Tidy.{IsTidy}
use Rattle.ts_exec.specs.declared.fault.ActFault.{ActFault}
use Rattle.ts_exec.specs.declared.fault.ActFault.TheVariants.{OutOfMemory, Misfit}
use Rattle.ts_exec.specs.declared.outcome.Outcome.{Outcome}
use Rattle.ts_exec.specs.declared.outcome.ActionResult.{ActionResult}
use Rattle.ts_exec.specs.declared.outcome.ActionResult.TheVariants.{Done, Failed, Blocked, Left}

-- the words are those after the run
pub record HasWords (plan : Plan) (r : Run) (words : List ℕ) : Type 0 where
  pub words_are : (i : ℕ) → i < length plan.actions → slice_index words i ≡ word_after plan r i
  pub small : (i : ℕ) → open_count plan r i < 4294967296

pub record IsEnd (plan : Plan) (r : Run) (words : List ℕ) (faults : List (Option ActFault)) : Type 0 where
  pub has : HasWords plan r words
  pub tidy : IsTidy plan r
  pub noted : (i : ℕ) → Has r (fails i) → (f : ActFault) × (slice_get faults i ≡ Some (Some f))

-- the action waits for k, the least of those that aren't done
pub record IsLeastOpen (plan : Plan) (r : Run) (i k : ℕ) : Type 0 where
  pub waits : Waits plan i k
  pub not_done : HasNot r (finishes k)
  pub least : (j : ℕ) → Waits plan i j → j < k → Has r (finishes j)

abbrev pub IsReady : Plan → Run → ℕ → Type 0
IsReady plan r i = (k : ℕ) → Waits plan i k → Has r (finishes k)

abbrev pub ResultIs : Plan → Run → List (Option ActFault) → ℕ → ActionResult → Type 0
ResultIs plan r faults i Done = Has r (finishes i)
ResultIs plan r faults i (Failed f) = Has r (fails i) × (slice_get faults i ≡ Some (Some f))
ResultIs plan r faults i (Blocked k) = HasNot r (claims i) × IsLeastOpen plan r i k
ResultIs plan r faults i Left = HasNot r (claims i) × IsReady plan r i

abbrev pub AreResults : Plan → Run → List (Option ActFault) → List ActionResult → Type 0
AreResults plan r faults results = (i : ℕ) (result : ActionResult) → slice_get results i ≡ Some result → ResultIs plan r faults i result

-- what could have been claimed and wasn't is left to a run that was stopped
abbrev pub ResultFits : Setting → Run → ℕ → ActionResult → Type 0
ResultFits x r i Done = Has r (finishes i)
ResultFits x r i (Failed f) = Has r (fails i) × MayFail x r i f
ResultFits x r i (Blocked k) = HasNot r (claims i) × IsLeastOpen x.checkup.plan r i k
ResultFits x r i Left = HasNot r (claims i) × IsReady x.checkup.plan r i × x.stops

-- each commit whose site tells its content has put in place just what its source's folder tells at the entry's path and below, where that is a
-- tree of the checked print
abbrev pub PutWhatIsTold : Setting → Run → Type 0
PutWhatIsTold x r =
    (c e : ℕ) (entry : Entry) (from : Side) (made : Listing (List ℕ)) → Contains r (Act c (Put made)) → KindIs x.checkup.plan c (Commit e) → Copies x.checkup.plan e entry from
    → TellsSite x c → (told : TellsTree x from) → listed made ≡ sub (at told.0) entry.path

-- one legal run, with the words and the slots that it left
pub record IsOutcome {S : Type 0} (content : S → Option (Listing (List ℕ))) (x : Setting) (t : Terms) (results : List ActionResult) (words : List ℕ) (slots : List (Slot S)) : Type 0 where
  pub run : Run
  pub left : HasLeft t words run
  -- what its pieces staged, and its commits put in place, is what their folders tell
  pub read : AreRead x run
  pub put : PutWhatIsTold x run
  pub count : length results ≡ size t
  pub each : (i : ℕ) (result : ActionResult) → slice_get results i ≡ Some result → ResultFits x run i result
  pub sites : (i : ℕ) → i < size t → Rests work_in (IsTold content t i) t run i (slice_index_or slots i Empty)

-- what a board is opened for in this setting
abbrev pub terms_in : Setting → Terms
terms_in x = record { plan = x.checkup.plan; first = x.checkup.first; second = x.checkup.second; told = x.told }

abbrev pub IsOutcomeOf : {S : Type 0} {site : Ghosts S} → Setting → Outcome S site → Type 0
IsOutcomeOf {S} {site} x outcome = IsOutcome site.content x (terms_in x) outcome.results.items (words_of outcome.closed) (slots_of outcome.closed)

-- the entry of the action is copied from this side
abbrev pub IsCopiedFrom : Plan → ℕ → Side → Type 0
IsCopiedFrom plan i from = (entry : Entry) × (entry_of plan i ≡ Some entry) × (source entry.reason ≡ Some from)

-- where an action misfits that isn't the commit of a site which tells nothing, the folder that it is copied from tells no tree of the checked
-- print. So over folders and sites that do nothing misfits
abbrev pub MisfitsAreUntold : Setting → List ActionResult → Type 0
MisfitsAreUntold x results = (i : ℕ) → slice_get results i ≡ Some (Failed Misfit) → (IsCommit x.checkup.plan i → TellsSite x i) → (from : Side) × IsCopiedFrom x.checkup.plan i from × (¬ TellsTree x from)

-- folders tell trees of the checked prints, each commit's site told just its target's checked print at the start, and no device fails, nor does
-- the stage
pub record IsSteady (x : Setting) : Type 0 where
  pub tells : (from : Side) → TellsTree x from
  pub sited : (c : ℕ) → IsCommit x.checkup.plan c → TellsSite x c
  pub readable : (from : Side) (p : Path) (t : Trouble) → ¬ x.lets from p t
  pub unchanged : (c : ℕ) → ¬ IsChanged x c
  pub unbroken : ¬ x.breaks
  pub unjammed : ¬ x.jams

abbrev pub OnlyMemoryRanOut : List ActionResult → Type 0
OnlyMemoryRanOut results = (i : ℕ) (f : ActFault) → slice_get results i ≡ Some (Failed f) → f ≡ OutOfMemory
