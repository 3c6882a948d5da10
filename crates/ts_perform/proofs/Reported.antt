-- What came of a plan, and the exit status, once it was reported or couldn't be.
use Rattle.std.proofs.Common.{◌≡◌, ◌⊎◌, inl, inr, ℕ, Bool, List, [], ◌∷◌, Option, IfNone, Result, Ok, Err, IfErr, IfOk, OnOk, ◌∙◌, refl, sym, subst}
use Rattle.std.specs.Result.{result_unwrap_or}
use Rattle.ts_text.specs.Sources.{AppendsFront, Writes}
use Rattle.ts_model.specs.Texts.{text}
use Rattle.ts_model.specs.Trees.{Listing}
use Rattle.ts_model.specs.declared.row.Stamp.{Stamp}
use Rattle.ts_cause.specs.declared.cause.Cause.{Cause}
use Rattle.ts_check.specs.Checkup.{Checkup}
use Rattle.ts_model.specs.declared.plan.PlanRule.{PlanRule}
use Rattle.ts_trial.specs.Answers.{refusal}
use Rattle.ts_command.specs.declared.job.Command.{Command}
use Rattle.ts_explain.specs.Lines.{BeginsLines, fault_lines, sentence_lines}
use Rattle.ts_perform.specs.Faults.{IsWithOutputCause}
use Rattle.ts_perform.specs.Runs.{AnswersOne, AnswersRun, AnswersVerdict, BeginsFault, BeginsNotices, Came, HasKept, HasReported, HasRun, IsRight, Ran, RanQuietly, Refuses, RefusesPlan, faults_of, lost_by, notice_lines, report_of, status_after}
use Rattle.ts_perform.specs.Snapshots.{IsBegun, IsUnchecked, IsValidBegun, Judges, Prints}
use Rattle.ts_perform.specs.Trials.{IsQuiet}
use Rattle.ts_disk.specs.declared.notice.Notice.{Notice}
use Rattle.ts_tree.proofs.Writing.{nothing_sent}
use Rattle.ts_perform.proofs.Failures.{whole_begun}
use Rattle.ts_perform.proofs.Printing.{unchecked_broken}
use Rattle.ts_explain.specs.declared.fault.PerformFault.{PerformFault}
use Rattle.ts_explain.specs.declared.fault.PerformFault.TheVariants as fault

pub reported : {E : Type 0} (command : Command) (came : Came) (old new old_faults new_faults : Option (List ℕ)) (answer : Result ℕ E) (status : ℕ)
    → Writes old new (report_of came) answer → Writes old_faults new_faults (faults_of command came) answer → IfOk answer (λ told. told ≡ status_after came) → status ≡ result_unwrap_or answer 2
    → HasReported command came old new old_faults new_faults status
reported command came old new old_faults new_faults (Ok told) status report faults is same = inl (same ∙ is, report, faults)
reported command came old new old_faults new_faults (Err fault) status report faults is same = inr (same, report, faults)

-- whether it was written whole or not
pub writes_begun : {A E : Type 0} (old new : Option (List ℕ)) (bytes : List ℕ) (answer : Result A E) → Writes old new bytes answer → AppendsFront old new bytes
writes_begun old new bytes (Ok x) written = whole_begun old new bytes written
writes_begun old new bytes (Err e) begun = begun

-- ---- refusals

-- a broken plan is reported
pub refuses_broken : (command : Command) (e : PerformFault) (rule : PlanRule) (place : ℕ) (old new old_faults new_faults : Option (List ℕ)) → e ≡ fault.Broken rule place
    → RefusesPlan command e rule place old new old_faults new_faults → Refuses command e old new old_faults new_faults
refuses_broken command e rule place old new old_faults new_faults is told = record {
  broken = λ rule' place' is'.
      let same_rule : rule ≡ rule' = cc in let same_place : place ≡ place' = cc in
      subst (λ r. RefusesPlan command e r place' old new old_faults new_faults) same_rule
      (subst (λ p. RefusesPlan command e rule p old new old_faults new_faults) same_place told);
  other = λ quiet. absurd (quiet rule place is);
}

-- so is any other fault
pub refuses_other : (command : Command) (e : PerformFault) (old old_faults new_faults : Option (List ℕ)) → IsQuiet e
    → AppendsFront old_faults new_faults (text (fault_lines command e)) → Refuses command e old old old_faults new_faults
refuses_other command e old old_faults new_faults quiet told = record {
  broken = λ rule place is. absurd (quiet rule place is);
  other = λ _. (refl, told);
}

-- the line of a broken plan was written, or as much of it as could be and why no more
pub plan_refused : {A E : Type 0} (command : Command) (e : PerformFault) (rule : PlanRule) (place : ℕ) (old new old_faults new_faults : Option (List ℕ)) (answer : Result A E) (x : A)
    → answer ≡ Ok x → Writes old new (text (refusal rule place ∷ [])) answer → BeginsLines old_faults new_faults (sentence_lines command e)
    → RefusesPlan command e rule place old new old_faults new_faults
plan_refused command e rule place old new old_faults new_faults (Ok y) x is written said = inl (written, said)
plan_refused command e rule place old new old_faults new_faults (Err f) x is written said = absurd cc

pub half_refused : (command : Command) (e why : PerformFault) (rule : PlanRule) (place : ℕ) (old new old_faults new_faults : Option (List ℕ)) → IsQuiet why
    → AppendsFront old new (text (refusal rule place ∷ [])) → AppendsFront old_faults new_faults (text (fault_lines command why))
    → RefusesPlan command e rule place old new old_faults new_faults
half_refused command e why rule place old new old_faults new_faults quiet begun told = inr (begun, (why, quiet, told))

-- a fault that calls no plan broken is right
pub quiet_right : (e : PerformFault) → IsQuiet e → IsRight e
quiet_right e quiet = λ rule place is. absurd (quiet rule place is)

-- so is one that the checker gave
pub unchecked_right : (k : Checkup) (e : PerformFault) → IsUnchecked k e → IsRight e
unchecked_right k e unchecked = λ rule place is. (k, unchecked_broken k e rule place unchecked is)

-- ---- runs

-- nothing is left of swaps, or nothing was reported of it
pub nothing_left : (explain : Bool) (old : Option (List ℕ)) → BeginsNotices explain old old
nothing_left explain old = ([], nothing_sent old (text []))

-- what was reported, whole or not
pub notices_begun : {A E : Type 0} (explain : Bool) (old new : Option (List ℕ)) (left : List Notice) (answer : Result A E) → Writes old new (text (notice_lines explain left)) answer → BeginsNotices explain old new
notices_begun explain old new left answer written = (left, writes_begun old new (text (notice_lines explain left)) answer written)

-- what is said of a run implies what is less
pub ran_less : (command : Command) (Is Less : Came → Type 0) (old new old_faults new_faults : Option (List ℕ)) (status : Result ℕ PerformFault) → ((came : Came) → Is came → Less came)
    → RanQuietly command Is old new old_faults new_faults status → RanQuietly command Less old new old_faults new_faults status
ran_less command Is Less old new old_faults new_faults (Ok status) less (came, is, reported) = (came, less came is, reported)
ran_less command Is Less old new old_faults new_faults (Err fault) less ran = ran

-- what a run answers once what recovery left was reported
pub ran_told : (command : Command) (Is : Came → Type 0) (old new old_faults mid_faults new_faults : Option (List ℕ)) (status told : Result ℕ PerformFault)
    → RanQuietly command Is old new old_faults mid_faults status → told ≡ status → IfOk status (λ _. new_faults ≡ mid_faults) → IfErr status (λ _. BeginsNotices command.explain mid_faults new_faults)
    → Ran command Is old new old_faults new_faults told
ran_told command Is old new old_faults mid_faults new_faults (Ok status) told ran same quiet left =
    subst (Ran command Is old new old_faults new_faults) (sym same) (subst (λ z. HasRun command Is old new old_faults z status) (sym quiet) ran)
ran_told command Is old new old_faults mid_faults new_faults (Err fault) told ran same quiet left =
    subst (Ran command Is old new old_faults new_faults) (sym same) (ran.0, ran.1, subst (λ z. BeginsNotices command.explain z new_faults) ran.2 left)

-- the archive of a run was written in its place, which was claimed by this name, unless it is lost
pub kept_in : {A B : Type 0} (is_named : A → List ℕ → Type 0) (has : A → Listing Stamp → Type 0) (IsTaught : A → Type 0) (k : Checkup) (words : List ℕ) (place : A)
    (name : List ℕ) (kept : Result B PerformFault) → OnOk kept (is_named place name) → OnOk kept (HasKept has k words place) → OnOk kept (IsTaught place)
    → IfNone (lost_by kept) ((at : A) × is_named at name × HasKept has k words at × IsTaught at)
kept_in is_named has IsTaught k words place name (Ok x) named is taught = (place, named, is, taught)
kept_in is_named has IsTaught k words place name (Err e) named is taught = tt

pub unlost : {B : Type 0} (P : Type 0) (kept : Result B PerformFault) → OnOk kept P → IfNone (lost_by kept) P
unlost P (Ok x) is = is
unlost P (Err e) is = tt

-- ---- what commands answer

-- a fault that is told for another calls just the same plan broken
abbrev pub IsAsBroken : PerformFault → PerformFault → Type 0
IsAsBroken e told =
    (rule : PlanRule) (place : ℕ) → (told ≡ fault.Broken rule place → e ≡ fault.Broken rule place) × (e ≡ fault.Broken rule place → told ≡ fault.Broken rule place)

pub caused_as_broken : (cause : Cause) (e told : PerformFault) → IsWithOutputCause cause e told → IsAsBroken e told
caused_as_broken cause e told (inl (inl is, caused)) = λ rule place. ((λ broken. absurd cc), (λ broken. absurd cc))
caused_as_broken cause e told (inl (inr ((why, is), known), caused)) = λ rule place. ((λ broken. absurd cc), (λ broken. absurd cc))
caused_as_broken cause e told (inr (other, stream, same)) = λ rule place. ((λ broken. sym same ∙ broken), (λ broken. same ∙ broken))

pub quiet_as : (e told : PerformFault) → IsAsBroken e told → IsQuiet e → IsQuiet told
quiet_as e told same_plan quiet = λ rule place broken. quiet rule place ((same_plan rule place).0 broken)

-- a refusal before anything was run is what the command answers
pub answers_refusal : (command : Command) (Is : Came → Type 0) (old mid new old_faults mid_faults new_faults : Option (List ℕ)) (e told : PerformFault) (status : ℕ) → IsAsBroken e told
    → IsRight e × (mid ≡ old) × BeginsNotices command.explain old_faults mid_faults
    → status ≡ 3 → Refuses command told mid new mid_faults new_faults → AnswersRun command Is old new old_faults new_faults status
answers_refusal command Is old mid new old_faults mid_faults new_faults e told status same_plan (right, same, left) is refuses =
    let told_right : IsRight told = λ rule place broken. right rule place ((same_plan rule place).0 broken) in
    inr (mid_faults, left, (is, (told, told_right, subst (λ z. Refuses command told z new mid_faults new_faults) same refuses)))

-- so is a text that was begun, or not, before the fault
pub answers_fault : (command : Command) (Says : List ℕ → ℕ → Type 0) (old mid new old_faults mid_faults new_faults : Option (List ℕ)) (e told : PerformFault) (status : ℕ)
    → IsAsBroken e told → Prints Says old mid (Err e) × (mid_faults ≡ old_faults)
    → status ≡ 3 → Refuses command told mid new mid_faults new_faults → AnswersOne command Says old new old_faults new_faults status
answers_fault command Says old mid new old_faults mid_faults new_faults e told status same_plan ((quiet, begun), same) is refuses =
    let told_quiet = quiet_as e told same_plan quiet in
    let other = refuses.other told_quiet in
    inr (is, subst (λ z. IsBegun Says old z) (sym other.0) begun, (told, told_quiet, subst (λ z. BeginsFault command told z new_faults) same other.1))

-- so is a plan that was judged, or not
pub answers_verdict : (command : Command) (Is : Checkup → Type 0) (old mid new old_faults mid_faults new_faults : Option (List ℕ)) (e told : PerformFault) (status : ℕ) → IsAsBroken e told
    → Judges Is old mid (Err e) × (mid_faults ≡ old_faults) → status ≡ 3 → IsQuiet e ⊎ ((rule : PlanRule) × (place : ℕ) × (e ≡ fault.Broken rule place))
    → Refuses command told mid new mid_faults new_faults → AnswersVerdict command Is old new old_faults new_faults status
answers_verdict command Is old mid new old_faults mid_faults new_faults e told status same_plan (judged, same) is (inl quiet) refuses =
    let told_quiet = quiet_as e told same_plan quiet in
    let other = refuses.other told_quiet in
    inr (is, inr (subst (λ z. IsValidBegun Is old z) (sym other.0) (judged.other quiet), (told, told_quiet, subst (λ z. BeginsFault command told z new_faults) same other.1)))
answers_verdict command Is old mid new old_faults mid_faults new_faults e told status same_plan (judged, same) is (inr (rule, place, broken)) refuses =
    let b = judged.broken rule place broken in
    let told_broken = (same_plan rule place).1 broken in
    let refused : RefusesPlan command told rule place mid new mid_faults new_faults = refuses.broken rule place told_broken in
    let here = subst (λ z. RefusesPlan command z rule place mid new mid_faults new_faults) told_broken refused in
    inr (
      is,
      inl (
        rule,
        place,
        b.0,
        subst (λ z. RefusesPlan command (fault.Broken rule place) rule place z new old_faults new_faults) b.1
            (subst (λ z. RefusesPlan command (fault.Broken rule place) rule place mid new z new_faults) same here),
      ),
    )

pub verdict_told : (command : Command) (Is : Checkup → Type 0) (old new old_faults new_faults : Option (List ℕ)) (status : ℕ)
    → Judges Is old new (Ok status) × (new_faults ≡ old_faults) → AnswersVerdict command Is old new old_faults new_faults status
verdict_told command Is old new old_faults new_faults status ((valid, zero, told), same) = inl (valid, zero, told, same)

-- a fault calls a plan broken, or not
pub quiet_or_broken : (e : PerformFault) → IsQuiet e ⊎ ((rule : PlanRule) × (place : ℕ) × (e ≡ fault.Broken rule place))
quiet_or_broken fault.OutOfMemory = inl (λ rule place is. cc)
quiet_or_broken (fault.Failed what why) = inl (λ rule place is. cc)
quiet_or_broken (fault.Own what cause) = inl (λ rule place is. cc)
quiet_or_broken (fault.Archives what) = inl (λ rule place is. cc)
quiet_or_broken (fault.NotCanonical what) = inl (λ rule place is. cc)
quiet_or_broken fault.WrongEnd = inl (λ rule place is. cc)
quiet_or_broken (fault.Device what cause) = inl (λ rule place is. cc)
quiet_or_broken (fault.Locked what) = inl (λ rule place is. cc)
quiet_or_broken (fault.NotThere what) = inl (λ rule place is. cc)
quiet_or_broken (fault.New what paths) = inl (λ rule place is. cc)
quiet_or_broken (fault.BothNew paths) = inl (λ rule place is. cc)
quiet_or_broken (fault.Emptied what files others) = inl (λ rule place is. cc)
quiet_or_broken (fault.BadRule line) = inl (λ rule place is. cc)
quiet_or_broken fault.PastLimit = inl (λ rule place is. cc)
quiet_or_broken fault.TooMuch = inl (λ rule place is. cc)
quiet_or_broken (fault.Broken rule place) = inr (rule, place, refl)
quiet_or_broken (fault.Scan what scan cause) = inl (λ rule place is. cc)
