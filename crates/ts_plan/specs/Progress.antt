-- How far a plan's text has been read, and what one more line does.
--     fed p           the lines that were read
--     step p l        where the line l leads, limits aside; none where no plan goes on so
use Rattle.std.specs.Prelude.{ℕ, ◌==◌, ◌&&◌, if◌then◌else◌, List, [], ◌∷◌, ◌++◌, length, map, flat_map, codes, decimal, Option, Some, None, option_to_list}
use Rattle.ts_model.specs.Texts.{Line, words, entry_line, action_lines}
use Rattle.ts_model.specs.declared.plan.Entry.{Entry}
use Rattle.ts_model.specs.declared.plan.Action.{Action}
use Rattle.ts_model.specs.declared.plan.Plan.{Plan}
use Rattle.ts_plan.specs.declared.progress.Part.{Part}
use Rattle.ts_plan.specs.declared.progress.Part.TheVariants.{Start, Body, Ended}
use Rattle.ts_plan.specs.declared.line.PlanLine.{PlanLine}
use Rattle.ts_plan.specs.declared.line.PlanLine.TheVariants as line

-- the entries, the actions before the last one, and the last action
pub record Progress : Type 0 where
  pub part : Part
  pub entries : List Entry
  pub actions : List Action
  pub last : Option Action

abbrev pub all_actions : Progress → List Action
all_actions p = p.actions ++ option_to_list p.last

-- the plan so far
abbrev pub plan_of : Progress → Plan
plan_of p = record { entries = p.entries; actions = all_actions p }

abbrev pub start : Progress
start = record { part = Start; entries = []; actions = []; last = None }

abbrev pub body_lines : List Entry → List Action → List Line
body_lines entries actions = codes "twosync-plan 1" ∷ (map entry_line entries ++ flat_map action_lines actions)

abbrev pub fed_in : Part → List Entry → List Action → List Line
fed_in Start entries actions = []
fed_in Body entries actions = body_lines entries actions
fed_in Ended entries actions = body_lines entries actions ++ words (codes "end" ∷ decimal (length entries) ∷ decimal (length actions) ∷ []) ∷ []

abbrev pub fed : Progress → List Line
fed p = fed_in p.part p.entries (all_actions p)

-- an entry comes before all actions
abbrev pub step_entry : List Entry → List Action → Option Action → Entry → Option Progress
step_entry entries actions None e = Some (record { part = Body; entries = entries ++ e ∷ []; actions = actions; last = None })
step_entry entries actions (Some last) e = None

-- a predecessor comes after an action
abbrev pub step_pred : List Entry → List Action → Option Action → ℕ → Option Progress
step_pred entries actions None j = None
step_pred entries actions (Some last) j = Some (record { part = Body; entries = entries; actions = actions; last = Some (record { kind = last.kind; preds = last.preds ++ j ∷ [] }) })

abbrev pub step_body : List Entry → List Action → Option Action → PlanLine → Option Progress
step_body entries actions last line.Header = None
step_body entries actions last (line.Entry e) = step_entry entries actions last e
step_body entries actions last (line.Action kind) = Some (record { part = Body; entries = entries; actions = actions ++ option_to_list last; last = Some (record { kind = kind; preds = [] }) })
step_body entries actions last (line.Pred j) = step_pred entries actions last j
step_body entries actions last (line.End m n) =
    if (m == length entries) && (n == length (actions ++ option_to_list last)) then Some (record { part = Ended; entries = entries; actions = actions; last = last }) else None

abbrev pub step_start : List Entry → List Action → Option Action → PlanLine → Option Progress
step_start entries actions last line.Header = Some (record { part = Body; entries = entries; actions = actions; last = last })
step_start entries actions last (line.Entry e) = None
step_start entries actions last (line.Action kind) = None
step_start entries actions last (line.Pred j) = None
step_start entries actions last (line.End m n) = None

abbrev pub step_in : Part → List Entry → List Action → Option Action → PlanLine → Option Progress
step_in Start entries actions last l = step_start entries actions last l
step_in Body entries actions last l = step_body entries actions last l
step_in Ended entries actions last l = None

abbrev pub step : Progress → PlanLine → Option Progress
step p l = step_in p.part p.entries p.actions p.last l
