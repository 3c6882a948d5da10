-- The paths of entries that were put in place, action after action.
use Rattle.std.proofs.Common.{◌≡◌, ◌<◌, ◌≤◌, ◌+◌, ℕ, suc, List, [], ◌∷◌, ◌++◌, Option, Some, None, drop, drop-cons, get_or, length, sym, ap, ap₂, ◌∙◌, add-one, append_assoc}
use Rattle.std.proofs.lemmas.List.{append-nil, drop_all}
use Rattle.std.specs.List.{cons_option}
use Rattle.ts_name.specs.Paths.{Path}
use Rattle.ts_exec.specs.declared.outcome.ActionResult.{ActionResult}
use Rattle.ts_model.specs.declared.plan.Action.{Action}
use Rattle.ts_model.specs.declared.plan.Entry.{Entry}
use Rattle.ts_model.specs.declared.plan.Side.{Side}
use Rattle.ts_perform.specs.Puts.{put_path, put_paths}

-- those of an action, and those after it
pub put_step : (on : Side) (entries : List Entry) (actions : List Action) (results : List ActionResult) (i : ℕ) (action : Action) (ended : ActionResult)
    → i < length actions → i < length results → action ≡ get_or actions i action → ended ≡ get_or results i ended
    → put_paths on entries (drop i actions) (drop i results) ≡ cons_option (put_path on entries (action, ended)) (put_paths on entries (drop (i + 1) actions) (drop (i + 1) results))
put_step on entries actions results i action ended within within' is is' =
    rw (add-one, drop-cons actions i action within, drop-cons results i ended within')
    (ap₂ (λ (a : Action) (r : ActionResult). cons_option (put_path on entries (a, r)) (put_paths on entries (drop (suc i) actions) (drop (suc i) results))) (sym is) (sym is'))

-- one path more, or none
pub put_more : (had rest all : List Path) (path : Path) (here : Option Path) → here ≡ Some path → had ++ cons_option here rest ≡ all → (had ++ path ∷ []) ++ rest ≡ all
put_more had rest all path here is whole = append_assoc had (path ∷ []) rest ∙ ap (λ (o : Option Path). had ++ cons_option o rest) (sym is) ∙ whole

pub put_none : (had rest all : List Path) (here : Option Path) → here ≡ None → had ++ cons_option here rest ≡ all → had ++ rest ≡ all
put_none had rest all here is whole = ap (λ (o : Option Path). had ++ cons_option o rest) (sym is) ∙ whole

-- behind the last action none is left
pub put_all : (on : Side) (entries : List Entry) (actions : List Action) (results : List ActionResult) (i : ℕ) (had all : List Path) → length actions ≤ i
    → had ++ put_paths on entries (drop i actions) (drop i results) ≡ all → had ≡ all
put_all on entries actions results i had all past whole =
    sym (append-nil had) ∙ ap (λ (l : List Action). had ++ put_paths on entries l (drop i results)) (sym (drop_all i actions past)) ∙ whole
