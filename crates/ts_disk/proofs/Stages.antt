-- Where a stage lies.
use Rattle.std.proofs.Common.{◌≡◌, ◌++◌, ℕ, List, ap, ◌∙◌, append_assoc}
use Rattle.std.specs.Prelude.{codes, decimal}
use Rattle.ts_disk.specs.Stages.{stage_text}

-- in the program's own directory
pub stage_in_own : (root own stage : List ℕ) (number : ℕ) → own ≡ root ++ codes "/.twosync" → stage ≡ own ++ codes "/stage-" ++ decimal number → stage ≡ stage_text root number
stage_in_own root own stage number is_own is_stage =
    is_stage ∙ ap (λ at. at ++ codes "/stage-" ++ decimal number) is_own ∙ ap (λ at. at ++ decimal number) (append_assoc root (codes "/.twosync") (codes "/stage-"))
