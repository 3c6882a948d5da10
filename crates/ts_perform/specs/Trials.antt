-- What a trial answers through `perform`.
--     IfApart known P                P of the bytes of standard input, where it tells them and their contents are apart
--     Answers Says old new status    a text with this said of it and of the status was written; or the status is 3, and a beginning of such a text was written
use Rattle.std.specs.Prelude.{◌≡◌, ◌≢◌, ◌⊎◌, ℕ, List, Option, IfSome}
use Rattle.std.specs.Io.KnownBytes.{Appends}
use Rattle.ts_text.specs.Sources.{AppendsFront}
use Rattle.ts_model.specs.Trial.{HasContentsApart}
use Rattle.ts_model.specs.declared.plan.PlanRule.{PlanRule}
use Rattle.ts_explain.specs.declared.fault.PerformFault.{PerformFault}
use Rattle.ts_explain.specs.declared.fault.PerformFault.TheVariants as fault

-- of the bytes that the input tells, where their contents are apart
abbrev pub IfApart : Option (List ℕ) → (List ℕ → Type 0) → Type 0
IfApart known P = IfSome known (λ bytes. HasContentsApart bytes → P bytes)

abbrev pub Answers : (List ℕ → ℕ → Type 0) → Option (List ℕ) → Option (List ℕ) → ℕ → Type 0
Answers Says old new status =
    ((written : List ℕ) × Says written status × Appends old new written)
    ⊎ ((status ≡ 3) × ((written : List ℕ) × (meant : ℕ) × Says written meant × AppendsFront old new written))

-- a fault that isn't told on standard output
abbrev pub IsQuiet : PerformFault → Type 0
IsQuiet e = (rule : PlanRule) (place : ℕ) → e ≢ fault.Broken rule place
