use Rattle.std.proofs.Common.{◌≡◌, Contains, [], ◌∷◌, subst, sym, ◌∙◌}
use Rattle.std.proofs.lemmas.List.Elements.{Contains-append_right}
use Rattle.std.proofs.lemmas.Map.Made.{Contains-tail}
use Rattle.std.proofs.lemmas.Slice.Eq.{bytes_eq-Decides}
use Rattle.twosync.proofs.nesting.has_component.Goals as goal

-- what is left to come has the name just where it had it before another component
pub loop-component-preserved : goal.loop-component-preserved
loop-component-preserved c =
    let next = c.in-Some.ensures.steps in
    let component = c.in-Some.component.now in
    let name = c.args.name.now in
    let differ : component ≡ name → ⊥ = λ e. let same = c.eq.ensures ∙ (bytes_eq-Decides component name).1 e in cc in (
      tt,
      tt,
      (λ h. Contains-tail component _ name differ (subst (λ l. Contains l name) next (c.loop-component.invariant.2 h))),
      (λ h. c.loop-component.invariant.3 (subst (λ l. Contains l name) (sym next) (Contains-append_right (component ∷ []) _ name h))),
    )
