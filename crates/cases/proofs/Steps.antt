-- A pass's own steps, call by call.
use Rattle.std.proofs.Common.{ℕ, false, [], ◌∷◌, ◌++◌, refl, ◌∙◌, eq-eqb}
use Rattle.std.specs.Prelude.{◌==◌}
use Rattle.std.specs.List.{list_any}
use Rattle.std.proofs.lemmas.List.Folds.{list_any-append}
use Rattle.ts_model.specs.Runs.{Run, Has, takes}
use Rattle.ts_model.specs.declared.step.Step.TheVariants.{Take}
use Rattle.ts_exec.proofs.Steps.{or_left, or_right}

-- a take is the last step
pub has_taken : (own : Run) (c k : ℕ) → Has (own ++ Take c k ∷ []) (takes k)
has_taken own c k = list_any-append (takes k) own (Take c k ∷ []) ∙ or_right (list_any (takes k) own) (list_any (takes k) (Take c k ∷ [])) (or_left (k == k) false (eq-eqb k k refl))
