-- What a refused trial has written.
use Rattle.std.proofs.Common.{◌≡◌, inr, ℕ, List, Option, Some, None, IfSome, sym, subst}
use Rattle.ts_text.specs.Sources.{AppendsFront}
use Rattle.ts_model.specs.Trial.{HasContentsApart, Trial}
use Rattle.ts_perform.specs.Trials.{Answers}

-- a beginning of a text was written, and nothing after it
pub told_refusal : (known old new after : Option (List ℕ)) (status : ℕ) → status ≡ 3 → after ≡ new
    → IfSome known (λ bytes. HasContentsApart bytes → (written : List ℕ) × (meant : ℕ) × Trial bytes written meant × AppendsFront old new written)
    → IfSome known (λ bytes. HasContentsApart bytes → Answers (Trial bytes) old after status)
told_refusal None old new after status is same begun = tt
told_refusal (Some bytes) old new after status is same begun = λ apart.
    inr (is, subst (λ z. (written : List ℕ) × (meant : ℕ) × Trial bytes written meant × AppendsFront old z written) (sym same) (begun apart))
