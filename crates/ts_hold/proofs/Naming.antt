-- Which paths rules name.
use Rattle.std.proofs.Common.{◌≡◌, ◌↔◌, ℕ, Bool, true, false, IsTrue, List, [], ◌∷◌, ◌++◌, refl, sym, ap, ◌∙◌, subst, inl, inr}
use Rattle.std.specs.Prelude.{slice_index, slice_index_or}
use Rattle.std.specs.Bool.{MatchBool}
use Rattle.std.proofs.lemmas.Bool.{false≢true}
use Rattle.std.proofs.lemmas.List.{same_from_push}
use Rattle.std.proofs.lemmas.List.Elements.{All-from_recursion}
use Rattle.ts_name.proofs.Prefixes.{snoc_not_empty}
use Rattle.ts_model.specs.Texts.{IsRules, RuleFits}
use Rattle.ts_name.specs.Paths.{Name, Path, same_path}
use Rattle.ts_name.specs.Laws.{same_path_equal, same_path_itself}
use Rattle.ts_model.specs.Holds.{Fits, Names, RuleNames}
use Rattle.ts_model.specs.declared.hold.Rule.{Rule}
use Rattle.ts_model.specs.declared.hold.Rule.TheVariants.{LastName, OnePath}
use Rattle.ts_hold.specs.Keys.{AreKeys, IsKeyOf, IsPatternKey, NameHasKey, NoEndNames, NoFrontNames, NoMiddleNames, NoPathNames}
use Rattle.ts_hold.specs.declared.windows.Sizes.{Sizes}

-- names that path alone
pub names_one : (same : Bool) (p q : Path) (rule : Rule) → rule ≡ OnePath q → same ≡ same_path p q → IsTrue same ↔ RuleNames p rule
names_one same p q rule is tested =
    subst (λ z. IsTrue same ↔ RuleNames p z) (sym is)
    (λ holds. same_path_equal p q (sym tested ∙ holds), λ e. tested ∙ subst (λ z. same_path p z ≡ true) e (same_path_itself p))

-- no rule names the root
pub root_unnamed : (rules : List Rule) → IsRules rules → ¬ Names rules []
root_unnamed rules fit named =
    unnamed named.1 (subst RuleFits named.3 (All-from_recursion RuleFits rules fit.each named.0 named.1 named.2)) named.4
  where
    unnamed : (rule : Rule) → RuleFits rule → ¬ RuleNames [] rule
    unnamed (OnePath path) fits e = fits.1 (sym e)
    unnamed (LastName pattern) fits found = snoc_not_empty found.0 found.1 (sym found.2)

-- where no rule names the path by one of its keys, none names it
pub none_names : (sizes : Sizes) (rules : List Rule) (keys : List ℕ) (parent : Path) (name : Name) (path : Path) → AreKeys sizes rules keys → path ≡ parent ++ name ∷ []
    → NoPathNames rules path → NoFrontNames rules keys name path → NoEndNames rules keys name path → NoMiddleNames sizes rules keys name path → ¬ Names rules path
none_names sizes rules keys parent name path are is no_path no_front no_end no_middle named = by_rule named.1 named.3 named.4
  where
    names : RuleNames path (slice_index_or rules named.0 named.1)
    names = subst (λ z. RuleNames path z) (sym named.3) named.4

    by_key : NameHasKey sizes name (slice_index keys named.0) → ⊥
    by_key (inl front) = no_front front.0 front.1 named.0 named.1 named.2 front.2 names
    by_key (inr (inl end)) = no_end end.0 end.1 named.0 named.1 named.2 end.2 names
    by_key (inr (inr window)) = no_middle window.end window.within.1 window.size window.used window.within.0 named.0 named.1 named.2 window.key_is names

    by_rule : (rule : Rule) → slice_index_or rules named.0 named.1 ≡ rule → RuleNames path rule → ⊥
    by_rule (OnePath other) found same = no_path named.0 named.1 named.2 (found ∙ ap OnePath (sym same))
    by_rule (LastName pattern) found fits =
        let last = same_from_push fits.0 parent fits.1 name (sym fits.2 ∙ is) in
        let keyed : IsPatternKey sizes pattern (slice_index keys named.0) = subst (λ z. IsKeyOf sizes z (slice_index keys named.0)) found (are.each named.0 named.1 named.2) in
        by_key (keyed name (subst (λ z. Fits pattern z) last.1 fits.3))

-- so the look for a window decides
pub by_middle : (sizes : Sizes) (rules : List Rule) (keys : List ℕ) (parent : Path) (name : Name) (path : Path) (found : Bool) → AreKeys sizes rules keys → path ≡ parent ++ name ∷ []
    → NoPathNames rules path → NoFrontNames rules keys name path → NoEndNames rules keys name path → MatchBool found (Names rules path) (NoMiddleNames sizes rules keys name path) → IsTrue found ↔ Names rules path
by_middle sizes rules keys parent name path true are is no_path no_front no_end middle = (λ _. middle, λ _. refl)
by_middle sizes rules keys parent name path false are is no_path no_front no_end middle =
    (λ e. absurd (false≢true e), λ named. absurd (none_names sizes rules keys parent name path are is no_path no_front no_end middle named))
