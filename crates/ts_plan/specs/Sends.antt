-- What an encoder sends to a sink.
use Rattle.std.specs.Prelude.{◌≡◌, ◌≢◌, ℕ, List, [], ◌∷◌, ◌++◌, codes, decimal, Option, Result, Ok, Err}
use Rattle.std.specs.Io.KnownBytes.{Appends}
use Rattle.ts_model.specs.Texts.{text, entry_line, pred_line, action_lines}
use Rattle.ts_model.specs.declared.plan.Entry.{Entry}
use Rattle.ts_model.specs.declared.plan.Action.{Action}
use Rattle.ts_text.specs.Sources.{AppendsFront}
use Rattle.ts_plan.specs.declared.fault.PlanFault.{PlanFault}
use Rattle.ts_plan.specs.declared.fault.PlanFault.TheVariants.{OutOfMemory, Failed, NotCanonical, PastLimit}

-- The bytes, and the sink never failed; at an error a beginning of them, and it failed where it is said to have.
abbrev pub Sends : {A : Type 0} → Option (List ℕ) → Option (List ℕ) → ℕ → ℕ → List ℕ → Result A PlanFault → Type 0
Sends old new failed fails bytes (Ok x) = Appends old new bytes × (fails ≡ failed)
Sends old new failed fails bytes (Err OutOfMemory) = AppendsFront old new bytes × (fails ≡ failed)
Sends old new failed fails bytes (Err Failed) = AppendsFront old new bytes × (fails ≢ failed)
Sends old new failed fails bytes (Err NotCanonical) = ⊥
Sends old new failed fails bytes (Err PastLimit) = ⊥

-- the lines of an entry, of a predecessor, of an action and of the end, as they are written
abbrev pub entry_chunk : Entry → List ℕ
entry_chunk e = entry_line e ++ 10 ∷ []

abbrev pub pred_chunk : ℕ → List ℕ
pred_chunk j = pred_line j ++ 10 ∷ []

abbrev pub action_chunk : Action → List ℕ
action_chunk a = text (action_lines a)

abbrev pub end_chunk : ℕ → ℕ → List ℕ
end_chunk entries actions = (codes "end " ++ (decimal entries ++ 32 ∷ decimal actions)) ++ 10 ∷ []
