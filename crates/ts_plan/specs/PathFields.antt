-- The field of a path.
use Rattle.std.specs.Prelude.{◌≡◌, ◌≢◌, ℕ, List, Result, Ok, Err}
use Rattle.ts_name.specs.Paths.{Path, path_text}
use Rattle.ts_model.specs.Texts.{PathFits}
use Rattle.ts_plan.specs.declared.fault.PlanFault.{PlanFault}
use Rattle.ts_plan.specs.declared.fault.PlanFault.TheVariants.{OutOfMemory, Failed, NotCanonical, PastLimit}

-- the path that the text spells, or that it spells none
abbrev pub ReadsPath : List ℕ → Result Path PlanFault → Type 0
ReadsPath text (Ok p) = PathFits p × (text ≡ path_text p)
ReadsPath text (Err OutOfMemory) = Unit {0}
ReadsPath text (Err Failed) = ⊥
ReadsPath text (Err NotCanonical) = (p : Path) → PathFits p → text ≢ path_text p
ReadsPath text (Err PastLimit) = ⊥
