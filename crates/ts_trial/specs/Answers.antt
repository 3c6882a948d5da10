-- What `trial` writes and answers.
--     WritesOne Says old new result    a text with this said of it and of the status was written; or at a fault a beginning of one
--     refusal rule place               the line that refuses a plan
--     AnswersBundle b                  a text and a status that a bundle is answered by
use Rattle.std.specs.Prelude.{◌⊎◌, ℕ, List, [], ◌∷◌, codes, decimal, Option, Result, MatchResult}
use Rattle.std.specs.Io.KnownBytes.{Appends}
use Rattle.ts_text.specs.Sources.{AppendsFront}
use Rattle.ts_model.specs.Plans.{rule_number}
use Rattle.ts_model.specs.declared.plan.PlanRule.{PlanRule}
use Rattle.ts_model.specs.Headline.{Meets}
use Rattle.ts_model.specs.Texts.{Line, Bundle, words}
use Rattle.ts_model.specs.Trees.{AreApart, at}
use Rattle.ts_model.specs.Trial.{IsRefused, IsResult}

abbrev pub WritesOne : {E : Type 0} → (List ℕ → ℕ → Type 0) → Option (List ℕ) → Option (List ℕ) → Result ℕ E → Type 0
WritesOne Says old new result = MatchResult result
    (λ status. (written : List ℕ) × Says written status × Appends old new written)
    (λ _. (written : List ℕ) × (status : ℕ) × Says written status × AppendsFront old new written)

abbrev pub refusal : PlanRule → ℕ → Line
refusal rule place = words (codes "refused" ∷ decimal (rule_number rule) ∷ decimal place ∷ [])

abbrev pub AnswersBundle : Bundle → List ℕ → ℕ → Type 0
AnswersBundle b written status = IsRefused b written status ⊎ IsResult b written status

-- where the contents of the bundle are apart, a text that answers it was written, or at a fault a beginning of one
abbrev pub WritesAnswer : {E : Type 0} → Bundle → Option (List ℕ) → Option (List ℕ) → Result ℕ E → Type 0
WritesAnswer b old new result = AreApart (Meets (at b.first) (at b.second) []) → WritesOne (AnswersBundle b) old new result
