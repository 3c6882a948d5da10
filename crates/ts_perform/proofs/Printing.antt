-- What `check` and `preview` print, from what was checked and written.
use Rattle.std.proofs.Common.{◌≡◌, inl, inr, ℕ, Bool, List, Option, Result, Ok, Err, IfErr, OnOk, refl, subst}
use Rattle.std.specs.Io.KnownBytes.{Appends}
use Rattle.ts_text.specs.Sources.{AppendsFront}
use Rattle.ts_text.specs.declared.fault.TextFault.{TextFault}
use Rattle.ts_text.specs.declared.fault.TextFault.TheVariants as text_fault
use Rattle.ts_model.specs.Plans.{Broken, Valid}
use Rattle.ts_model.specs.Texts.{text}
use Rattle.ts_model.specs.declared.plan.PlanRule.{PlanRule}
use Rattle.ts_cause.specs.declared.cause.Cause.TheVariants.{Unknown}
use Rattle.ts_check.specs.Checkup.{Checkup, snapshot_of}
use Rattle.ts_check.specs.Verdict.{IsTold}
use Rattle.ts_check.specs.declared.fault.CheckFault.{CheckFault}
use Rattle.ts_check.specs.declared.fault.CheckFault.TheVariants as check_fault
use Rattle.ts_explain.specs.declared.subject.Subject.TheVariants.{Output}
use Rattle.ts_explain.specs.declared.subject.Why.TheVariants.{Unwritten}
use Rattle.ts_perform.specs.Faults.{fault_of_check, fault_of_text}
use Rattle.ts_model.specs.declared.plan.Plan.{Plan}
use Rattle.ts_preview.specs.Outlooks.{AreOutlooks}
use Rattle.ts_preview.specs.Previews.{preview_lines}
use Rattle.ts_preview.specs.Totals.{best_totals}
use Rattle.ts_preview.specs.declared.outlook.Outlook.{Outlook}
use Rattle.ts_report.specs.Reports.{status_of}
use Rattle.ts_preview.specs.declared.writing.Form.{Form}
use Rattle.ts_perform.specs.Guards.{IsHeldBack, IsLetThrough, IsPastSeen, emptied_fault}
use Rattle.ts_model.specs.declared.plan.Side.{Side}
use Rattle.ts_perform.specs.Previewing.{IsGuarded, IsPreview, IsPreviewAt, IsPreviewOf, shown}
use Rattle.ts_perform.specs.declared.guarding.Past.{Past}
use Rattle.ts_perform.specs.Inputs.{IsSeenFor}
use Rattle.ts_perform.specs.Worlds.{World}
use Rattle.ts_command.specs.declared.job.Pair.{Pair}
use Rattle.ts_perform.specs.Snapshots.{IsPlanned, IsUnchecked, Judges, Prints, checkup_of, valid_text}
use Rattle.ts_perform.specs.declared.snapshot.Snapshot.{Snapshot}
use Rattle.ts_perform.specs.Trials.{IsQuiet}
use Rattle.ts_perform.proofs.Failures.{whole_begun}
use Rattle.ts_explain.specs.declared.fault.PerformFault.{PerformFault}
use Rattle.ts_explain.specs.declared.fault.PerformFault.TheVariants as fault

memory_quiet : (e : PerformFault) → e ≡ fault.OutOfMemory → IsQuiet e
memory_quiet e is = λ rule place is'. cc

text_quiet : (e : TextFault) → IsQuiet (fault_of_text Output (Unwritten Unknown) e)
text_quiet text_fault.OutOfMemory = λ rule place is. cc
text_quiet text_fault.Failed = λ rule place is. cc
text_quiet text_fault.NotCanonical = λ rule place is. cc

-- why a plan isn't taken
pub unchecked : (k : Checkup) (e : CheckFault) → IsTold (snapshot_of k) k.plan e → IsUnchecked k (fault_of_check e)
unchecked k check_fault.OutOfMemory told = inl refl
unchecked k (check_fault.Broken rule place) broken = inr (rule, place, refl, broken)

-- a plan that is called broken is so
pub unchecked_broken : (k : Checkup) (e : PerformFault) (rule : PlanRule) (place : ℕ) → IsUnchecked k e → e ≡ fault.Broken rule place → Broken (snapshot_of k) k.plan rule place
unchecked_broken k e rule place (inl memory) is = absurd (memory_quiet e memory rule place is)
unchecked_broken k e rule place (inr (rule', place', is', broken)) is =
    let same_rule : rule' ≡ rule = cc in let same_place : place' ≡ place = cc in
    subst (λ r. Broken (snapshot_of k) k.plan r place) same_rule (subst (λ p. Broken (snapshot_of k) k.plan rule' p) same_place broken)

-- the line of a valid plan was written, or a part of it
pub valid_told : (k : Checkup) (old new : Option (List ℕ)) → Valid (snapshot_of k) k.plan → Appends old new valid_text → Judges (λ k'. k' ≡ k) old new (Ok 0)
valid_told k old new valid told = ((k, refl, valid), refl, told)

pub valid_begun : (k : Checkup) (old new : Option (List ℕ)) (e : TextFault) → Valid (snapshot_of k) k.plan → AppendsFront old new valid_text
    → Judges (λ k'. k' ≡ k) old new (Err (fault_of_text Output (Unwritten Unknown) e))
valid_begun k old new e valid begun = record {
  broken = λ rule place is. absurd (text_quiet e rule place is);
  other = λ quiet. inr ((k, refl, valid), begun);
}

-- a plan wasn't taken
pub unjudged : (k : Checkup) (old : Option (List ℕ)) (e : PerformFault) → IsUnchecked k e → Judges (λ k'. k' ≡ k) old old (Err e)
unjudged k old e unchecked = record {
  broken = λ rule place is. ((k, refl, unchecked_broken k e rule place unchecked is), refl);
  other = λ quiet. inl refl;
}

-- what is judged of one is judged of what it is
pub judges_less : (Is Less : Checkup → Type 0) (old new : Option (List ℕ)) (r : Result ℕ PerformFault) → ((k : Checkup) → Is k → Less k)
    → Judges Is old new r → Judges Less old new r
judges_less Is Less old new (Ok status) less ((k, is, valid), zero, told) = ((k, less k is, valid), zero, told)
judges_less Is Less old new (Err e) less judged = record {
  broken = λ rule place is. let b = judged.broken rule place is in ((b.0.0, less b.0.0 b.0.1, b.0.2), b.1);
  other = λ quiet. elim (judged.other quiet) [
    | inl same ↦ inl same
    | inr begun ↦ inr ((begun.0.0, less begun.0.0 begun.0.1, begun.0.2), begun.1)
  ];
}

-- a preview was written in part
pub preview_begun : (k : Checkup) (form : Form) (all : List Outlook) (old new : Option (List ℕ)) (e : TextFault) → IsPlanned k
    → AreOutlooks k.archive k.first k.second k.plan.entries all → AppendsFront old new (text (preview_lines form all))
    → Prints (IsPreview k form) old new (Err (fault_of_text Output (Unwritten Unknown) e))
preview_begun k form all old new e planned each begun =
    (text_quiet e, inr (text (preview_lines form all), status_of (best_totals all), (all, planned, each, refl, refl), begun))

-- a plan that is held back isn't let through
pub not_through : (allow_empty : Bool) (past : Past) (k : Checkup) (e : PerformFault) → IsHeldBack allow_empty past k e → ¬ IsLetThrough allow_empty past k
not_through allow_empty past k e (inl (unknown, is)) through = unknown through.believed
not_through allow_empty past k e (inr (believed, asked, (into, emptied, is))) through = through.kept asked into emptied

-- a fault of a replica that is emptied calls no plan broken
pub emptied_quiet : (into : Side) (k : Checkup) (e : PerformFault) → e ≡ emptied_fault into k → IsQuiet e
emptied_quiet into k e is = λ rule place is'. cc

-- the status that a preview has, and that there is one
pub guarded : {B : Type 0} (allow_empty : Bool) (past : Past) (k : Checkup) (looked_at : Result B PerformFault) (best : ℕ) → OnOk looked_at (IsLetThrough allow_empty past k)
    → IfErr looked_at (IsHeldBack allow_empty past k) → (status : ℕ) × IsGuarded allow_empty past k best status
guarded allow_empty past k (Ok done) best through back = (best, inl (through, refl))
guarded allow_empty past k (Err e) best through back = (3, inr (not_through allow_empty past k e back, refl))

-- a preview was printed, or not, and its plan was let through, or held back
pub preview_shown : (allow_empty : Bool) (past : Past) (s : Snapshot) (plan : Plan) (form : Form) (old new : Option (List ℕ)) (printed : Result ℕ PerformFault)
    (looked_at : Result (Unit {0}) PerformFault) → Prints (IsPreview (checkup_of s plan) form) old new printed → OnOk looked_at (IsLetThrough allow_empty past (checkup_of s plan))
    → IfErr looked_at (IsHeldBack allow_empty past (checkup_of s plan)) → IfErr looked_at IsQuiet → Prints (IsPreviewOf allow_empty past s form) old new (shown printed looked_at)
preview_shown allow_empty past s plan form old new (Ok best) (Ok done) (written, is, added) through back quiet =
    (written, (plan, (best, is, inl (through, refl))), added)
preview_shown allow_empty past s plan form old new (Ok best) (Err e) (written, is, added) through back quiet =
    (quiet, inr (written, 3, (plan, (best, is, inr (not_through allow_empty past (checkup_of s plan) e back, refl))), whole_begun old new written added))
preview_shown allow_empty past s plan form old new (Err e) looked_at (told, inl same) through back quiet = (told, inl same)
preview_shown allow_empty past s plan form old new (Err e) looked_at (told, inr (written, best, is, begun)) through back quiet =
    let g = guarded allow_empty past (checkup_of s plan) looked_at best through back in
    (told, inr (written, g.0, (plan, (best, is, g.1)), begun))

-- what is printed for a snapshot is printed for the pair that it was read for
pub preview_at : {S F P A L : Type 0} (w : World S F P A L) (allow_empty : Bool) (pair : Pair) (past : Past) (s : Snapshot) (form : Form) (old new : Option (List ℕ))
    (r : Result ℕ PerformFault) → IsSeenFor w pair s.archive s.holds s.first s.second → IsPastSeen w pair past → Prints (IsPreviewOf allow_empty past s form) old new r
    → Prints (IsPreviewAt w allow_empty pair form) old new r
preview_at w allow_empty pair past s form old new (Ok status) seen known (written, (plan, is), added) = (written, (checkup_of s plan, past, seen, known, is), added)
preview_at w allow_empty pair past s form old new (Err e) seen known (quiet, inl same) = (quiet, inl same)
preview_at w allow_empty pair past s form old new (Err e) seen known (quiet, inr (written, status, (plan, is), begun)) =
    (quiet, inr (written, status, (checkup_of s plan, past, seen, known, is), begun))
