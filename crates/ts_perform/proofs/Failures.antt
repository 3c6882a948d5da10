-- What is reported of a run: the lines of failed actions, one by one, and what comes after them.
use Rattle.std.proofs.Common.{◌≡◌, ℕ, Bool, ◌+◌, ◌<◌, zero, suc, List, [], ◌∷◌, ◌++◌, length, drop, get_or, Option, refl, sym, ap, ap₂, subst, ◌∙◌, add-one, drop-cons}
use Rattle.std.proofs.lemmas.List.{append-nil}
use Rattle.std.specs.Io.KnownBytes.{Appends}
use Rattle.ts_cause.specs.declared.cause.Cause.{Cause}
use Rattle.ts_cause.specs.declared.cause.Cause.TheVariants.{Unknown}
use Rattle.ts_text.specs.Sources.{AppendsFront}
use Rattle.ts_model.specs.Texts.{Line, text}
use Rattle.ts_model.specs.declared.plan.Plan.{Plan}
use Rattle.ts_tree.proofs.Writing.{begun_after, sent_more}
use Rattle.ts_report.specs.Reports.{report_text}
use Rattle.ts_exec.specs.Ends.{ending_at}
use Rattle.ts_exec.specs.declared.outcome.ActionResult.{ActionResult}
use Rattle.ts_model.specs.declared.plan.Action.{Action}
use Rattle.ts_model.specs.declared.plan.Entry.{Entry}
use Rattle.ts_perform.specs.Runs.{failure_line, failure_lines, first_cause, later_causes}

-- the cause of an action, and those of the actions after it
first_at : (causes : List Cause) (i : ℕ) → first_cause (drop i causes) ≡ get_or causes i Unknown
first_at [] zero = refl
first_at [] (suc i) = refl
first_at (cause ∷ causes) zero = refl
first_at (cause ∷ causes) (suc i) = first_at causes i

later_at : (causes : List Cause) (i : ℕ) → later_causes (drop i causes) ≡ drop (suc i) causes
later_at [] zero = refl
later_at [] (suc i) = refl
later_at (cause ∷ causes) zero = refl
later_at (cause ∷ causes) (suc i) = later_at causes i

-- the lines of an action, and those after it
pub failures_step : (explain : Bool) (entries : List Entry) (actions : List Action) (results : List ActionResult) (causes : List Cause) (i : ℕ) (action : Action)
    (other : ActionResult) (cause : Cause) → i < length actions → i < length results → action ≡ get_or actions i action → cause ≡ get_or causes i Unknown
    → failure_lines explain entries (drop i actions) (drop i results) (drop i causes)
    ≡ failure_line explain entries action (get_or results i other) cause ++ failure_lines explain entries (drop (i + 1) actions) (drop (i + 1) results) (drop (i + 1) causes)
failures_step explain entries actions results causes i action other cause within within' is why =
    rw (add-one, drop-cons actions i action within, drop-cons results i other within', later_at causes i)
    (ap₂ (λ (a : Action) (k : Cause). failure_line explain entries a (get_or results i other) k ++ failure_lines explain entries (drop (suc i) actions) (drop (suc i) results) (drop (suc i) causes))
    (sym is) (first_at causes i ∙ sym why))

-- what a plan is read as
pub report_same : (plan plan' : Plan) (results : List ActionResult) → plan' ≡ plan → report_text (ending_at results) plan' ≡ report_text (ending_at results) plan
report_same plan plan' results same = ap (report_text (ending_at results)) same

pub lines_same : (explain : Bool) (plan plan' : Plan) (results results' : List ActionResult) (causes : List Cause) → plan' ≡ plan → results' ≡ results
    → failure_lines explain plan'.entries plan'.actions results' causes ≡ failure_lines explain plan.entries plan.actions results causes
lines_same explain plan plan' results results' causes same same' = ap₂ (λ (p : Plan) (r : List ActionResult). failure_lines explain p.entries p.actions r causes) same same'

-- what was written whole was begun
pub whole_begun : (old new : Option (List ℕ)) (bytes : List ℕ) → Appends old new bytes → AppendsFront old new bytes
whole_begun old new bytes whole = record { front = bytes; rest = []; split = sym (append-nil bytes); added = whole }

-- nothing comes after the faults of actions
pub none_lost : (old new : Option (List ℕ)) (lines lines' : List Line) → lines' ≡ lines → Appends old new (text lines') → Appends old new (text (lines ++ []))
none_lost old new lines lines' same told = subst (λ (l : List Line). Appends old new (text l)) (same ∙ sym (append-nil lines)) told

-- what is said of the lost archive comes after them
pub lost_told : (old mid new : Option (List ℕ)) (lines lines' last : List Line) → lines' ≡ lines
    → Appends old mid (text lines') → Appends mid new (text last) → Appends old new (text (lines ++ last))
lost_told old mid new lines lines' last same before after =
    sent_more old mid new lines last (subst (λ (l : List Line). Appends old mid (text l)) same before) after

pub lost_begun : (old mid new : Option (List ℕ)) (lines lines' last : List Line) → lines' ≡ lines
    → Appends old mid (text lines') → AppendsFront mid new (text last) → AppendsFront old new (text (lines ++ last))
lost_begun old mid new lines lines' last same before after =
    begun_after old mid new lines last (subst (λ (l : List Line). Appends old mid (text l)) same before) after
