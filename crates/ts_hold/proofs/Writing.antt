-- What of a text of rules went out where writing it stopped.
use Rattle.std.proofs.Common.{◌≡◌, ℕ, suc, ◌+◌, ◌<◌, List, [], ◌∷◌, ◌++◌, length, get_or, map, take, drop, Option, sym, ap, ◌∙◌, subst, append-nil, take-append-drop, drop-cons}
use Rattle.std.specs.Io.KnownBytes.{Appends}
use Rattle.std.proofs.KnownBytes.{Appends-trans}
use Rattle.std.proofs.lemmas.Grind.{flat_map-append}
use Rattle.std.proofs.lemmas.List.{map-append, take_more}
use Rattle.ts_text.specs.Sources.{AppendsFront}
use Rattle.ts_text.proofs.Sinks.{front_longer, front_after}
use Rattle.ts_model.specs.declared.hold.Rule.{Rule}
use Rattle.ts_model.specs.Texts.{text, rule_line}

abbrev rules_text : List Rule → List ℕ
rules_text rules = text (map rule_line rules)

-- the text of the first rules, and then that of the others
split_text : (rules : List Rule) (k : ℕ) → rules_text rules ≡ rules_text (take k rules) ++ rules_text (drop k rules)
split_text rules k =
    sym (ap rules_text (take-append-drop k rules)) ∙ ap text (map-append rule_line (take k rules) (drop k rules))
    ∙ flat_map-append (λ l. l ++ 10 ∷ []) (map rule_line (take k rules)) (map rule_line (drop k rules))

-- the next rule's line went out after those before it
pub written_more : (old mid new : Option (List ℕ)) (rules : List Rule) (k : ℕ) (rule : Rule) → k < length rules → rule ≡ get_or rules k rule
    → Appends old mid (rules_text (take k rules)) → Appends mid new (rule_line rule ++ 10 ∷ []) → Appends old new (rules_text (take (k + 1) rules))
written_more old mid new rules k rule inside is written went =
    let next : rules_text (take (k + 1) rules) ≡ rules_text (take k rules) ++ (rule_line rule ++ 10 ∷ []) =
    ap rules_text (take_more rules k rule inside ∙ ap (λ z. take k rules ++ z ∷ []) (sym is)) ∙ ap text (map-append rule_line (take k rules) (rule ∷ []))
    ∙ flat_map-append (λ l. l ++ 10 ∷ []) (map rule_line (take k rules)) (rule_line rule ∷ []) ∙ ap (λ z. rules_text (take k rules) ++ z) (append-nil (rule_line rule ++ 10 ∷ [])) in
    subst (λ z. Appends old new z) (sym next) (Appends-trans old mid new (rules_text (take k rules)) (rule_line rule ++ 10 ∷ []) written went)

-- it stopped within a rule
pub stopped_within : (old mid new : Option (List ℕ)) (rules : List Rule) (k : ℕ) (rule : Rule) → k < length rules → rule ≡ get_or rules k rule
    → Appends old mid (rules_text (take k rules)) → AppendsFront mid new (rule_line rule ++ 10 ∷ []) → AppendsFront old new (rules_text rules)
stopped_within old mid new rules k rule inside is written went =
    let next : rules_text (drop k rules) ≡ (rule_line rule ++ 10 ∷ []) ++ rules_text (drop (suc k) rules) =
    ap rules_text (drop-cons rules k rule inside) ∙ ap (λ r. (rule_line r ++ 10 ∷ []) ++ rules_text (drop (suc k) rules)) (sym is) in
    let longer = front_longer mid new (rule_line rule ++ 10 ∷ []) (rules_text (drop (suc k) rules)) went in
    let all = front_after old mid new (rules_text (take k rules)) ((rule_line rule ++ 10 ∷ []) ++ rules_text (drop (suc k) rules)) written longer in
    subst (λ z. AppendsFront old new z) (sym (split_text rules k ∙ ap (λ z. rules_text (take k rules) ++ z) next)) all
