-- A reader of plans, as contracts see it.
use Rattle.ts_plan.specs.declared.text.PlanReader.TheInside.{Inside}
use Rattle.ts_plan.specs.Progress.{Progress}

abbrev pub progress : Inside → Progress
progress r = record { part = r.part; entries = r.entries.items; actions = r.actions.items; last = r.last }
