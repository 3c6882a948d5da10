use Rattle.std.proofs.Common.{◌≡◌, IsTrue, is_some, Bool, Option, None, Some, ℕ, List, [], ◌∷◌, ◌++◌, sym, ◌∙◌, ap}
use Rattle.std.proofs.lemmas.List.{append_cancel_left}
use Rattle.std.specs.Path.{IsNextComponent, component_bytes}
use Rattle.std.specs.declared.path.components.Component.{Component}
use Rattle.twosync.proofs.nesting.is_below.Goals as goal

abbrev HasMore : (xs ys : List (List ℕ)) → Type 0
HasMore xs ys = (name : List ℕ) × (rest : List (List ℕ)) × (xs ≡ ys ++ name ∷ rest)

-- one path has those of the other and then more just where there is a next component
more_just_with_next : (xs ys rest before after : List (List ℕ)) (next : Option Component) (b : Bool) → b ≡ is_some next → xs ≡ ys ++ rest → before ≡ rest
    → IsNextComponent before next after → (IsTrue b → HasMore xs ys) × (HasMore xs ys → IsTrue b)
more_just_with_next xs ys rest before after None b is same starts step = (
  λ h. cc,
  λ more. let e = append_cancel_left ys [] (more.0 ∷ more.1) (ap (λ l. ys ++ l) (sym step.0 ∙ starts) ∙ sym same ∙ more.2) in cc,
)
more_just_with_next xs ys rest before after (Some c) b is same starts step = (λ h. (component_bytes c, after, same ∙ ap (λ l. ys ++ l) (sym starts ∙ step.0)), λ more. is)

pub returns-in-Ok : goal.returns-in-Ok
returns-in-Ok c = more_just_with_next _ _ _ _ _ c.next.result _ c.is_some.ensures c.in-Ok.ensures.rest c.components.ensures c.next.ensures.steps
